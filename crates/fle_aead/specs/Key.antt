-- The parts of a data key of 96 bytes, in the layout of MongoDB's client-side field level
-- encryption.
use Rattle.std.specs.Prelude.{ℕ, List, take, drop}
use Rattle.aes_block.specs.Expansion.{expanded}

-- bytes 0 to 31: the key of the tag
abbrev pub mac_key : List ℕ → List ℕ
mac_key key = take 32 key

-- bytes 32 to 63: the key of the cipher
abbrev pub encryption_key : List ℕ → List ℕ
encryption_key key = take 32 (drop 32 key)

-- bytes 64 to 95: the key of the IV
abbrev pub iv_key : List ℕ → List ℕ
iv_key key = take 32 (drop 64 key)

-- FIPS 197, 5.2: the key schedule of the cipher's key
abbrev pub schedule : List ℕ → List ℕ
schedule key = expanded (encryption_key key)
