-- HMAC with SHA-512 (RFC 2104 over FIPS 180-4), on lists of bytes.
use Rattle.std.specs.Prelude.{ℕ, ◌-◌, List, ◌++◌, length, map, replicate, bit_xor, nat_lt, if◌then◌else◌}
use Rattle.sha2.specs.Sha512.{sha512}

-- RFC 2104, section 2, step (1): zeros are appended to the end of K to make B = 128 bytes
abbrev pub zero_filled : List ℕ → List ℕ
zero_filled k = k ++ replicate (128 - length k) 0

-- RFC 2104, section 2: a key longer than B bytes is first hashed
unfoldable pub key_block : List ℕ → List ℕ
key_block k = (if nat_lt 128 (length k) then zero_filled (sha512 k) else zero_filled k)

-- RFC 2104, section 2, steps (2) and (5): K XOR ipad and K XOR opad, the pad being one byte
-- repeated
unfoldable pub padded_key : ℕ → List ℕ → List ℕ
padded_key pad k = map (λ b. bit_xor b pad) (key_block k)

-- RFC 2104, section 2: H(K XOR opad, H(K XOR ipad, text)), ipad being 36 and opad 5C
unfoldable pub hmac : List ℕ → List ℕ → List ℕ
hmac k m = sha512 (padded_key 0x5C k ++ sha512 (padded_key 0x36 k ++ m))
