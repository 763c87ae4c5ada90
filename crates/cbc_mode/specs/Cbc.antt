-- Cipher block chaining with AES-256 (SP 800-38A, 6.2), on lists of bytes. w is the key schedule of
-- FIPS 197.
use Rattle.std.specs.Prelude.{◌≡◌, ℕ, zero, suc, ◌/◌, ◌%◌, ◌<◌, List, [], ◌++◌, length, take, drop}
use Rattle.aes_block.specs.Block.{xor_bytes}
use Rattle.aes_block.specs.Cipher.{cipher, inv_cipher}

-- a length of one or more whole blocks
pub record IsWholeBlocks (n : ℕ) : Type 0 where
  pub some : 0 < n
  pub whole : n % 16 ≡ 0

-- SP 800-38A, 6.2: Cj = CIPH(Pj XOR Cj-1) for the first n blocks of p, where the first Cj-1 is
-- `before`
unfoldable pub sealed_blocks : List ℕ → ℕ → List ℕ → List ℕ → List ℕ
sealed_blocks w zero before p = []
sealed_blocks w (suc n) before p =
    let c = cipher w (xor_bytes (take 16 p) before) in c ++ sealed_blocks w n c (drop 16 p)

-- SP 800-38A, 6.2, CBC Encryption: C1 = CIPH(P1 XOR IV), and so on over the whole blocks of p
unfoldable pub cbc_sealed : List ℕ → List ℕ → List ℕ → List ℕ
cbc_sealed w iv p = sealed_blocks w (length p / 16) iv p

-- SP 800-38A, 6.2: Pj = CIPH^-1(Cj) XOR Cj-1 for the first n blocks of c, where the first Cj-1 is
-- `before`
unfoldable pub opened_blocks : List ℕ → ℕ → List ℕ → List ℕ → List ℕ
opened_blocks w zero before c = []
opened_blocks w (suc n) before c =
    xor_bytes (inv_cipher w (take 16 c)) before ++ opened_blocks w n (take 16 c) (drop 16 c)

-- SP 800-38A, 6.2, CBC Decryption: P1 = CIPH^-1(C1) XOR IV, and so on over the whole blocks of c
unfoldable pub cbc_opened : List ℕ → List ℕ → List ℕ → List ℕ
cbc_opened w iv c = opened_blocks w (length c / 16) iv c
