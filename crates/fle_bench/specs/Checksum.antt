-- The checksum that a run prints.
use Rattle.std.specs.Prelude.{ℕ, List, take}
use Rattle.std.specs.Int.{w32, from_be_bytes}
use Rattle.sha2.specs.Sha256.{sha256}

-- FIPS 180-4, 6.2: the first 4 bytes of the SHA-256 digest, high byte first
abbrev pub checksum : List ℕ → ℕ
checksum bs = from_be_bytes w32 (take 4 (sha256 bs))
