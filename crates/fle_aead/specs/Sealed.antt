-- AEAD_AES_256_CBC_HMAC_SHA_512 (draft-mcgrew-aead-aes-cbc-hmac-sha2-05, 2.1 and 2.2, with a key
-- of 96 bytes and a tag of 32), as MongoDB's client-side field level encryption has it. Bytes are
-- numbers below 256; a is the associated data.
use Rattle.std.specs.Prelude.{◌≡◌, ◌≢◌, ℕ, ◌+◌, ◌-◌, ◌*◌, ◌%◌, ◌<◌, List, ◌++◌, All, length, take, drop, Bool, ◌&&◌}
use Rattle.std.specs.Prelude.{◌==◌, nat_lt, bytes_eq, Option, None, if◌then◌else◌}
use Rattle.std.specs.Int.{w64, to_be_bytes}
use Rattle.aes_block.specs.Block.{IsBlock}
use Rattle.cbc_mode.specs.Cbc.{cbc_sealed, cbc_opened}
use Rattle.cbc_mode.specs.Padding.{pad, unpad}
use Rattle.hmac_sha512.specs.Hmac.{hmac}
use Rattle.fle_aead.specs.Key.{mac_key, iv_key, schedule}

-- draft, 2.1, AL: the number of bits of the associated data, as 64 bits, high first
abbrev pub bit_length : List ℕ → List ℕ
bit_length a = to_be_bytes w64 (8 * length a)

-- draft, 2.1, step 3, S: the IV, and the padded message under CBC
unfoldable pub body : List ℕ → List ℕ → List ℕ → List ℕ
body key iv p = iv ++ cbc_sealed (schedule key) iv (pad p)

-- draft, 2.1, steps 4 to 6, T: the first 32 bytes of the MAC of A, S and AL
unfoldable pub tag : List ℕ → List ℕ → List ℕ → List ℕ
tag key a s = take 32 (hmac (mac_key key) ((a ++ s) ++ bit_length a))

-- the IV that associated data and message determine
unfoldable pub derived_iv : List ℕ → List ℕ → List ℕ → List ℕ
derived_iv key a p = take 16 (hmac (iv_key key) ((a ++ bit_length a) ++ p))

-- draft, 2.1, step 7: c is S and T of the message p, of bytes, under an IV of 16 bytes
pub record IsSealed (key a iv p c : List ℕ) : Type 0 where
  pub iv_block : IsBlock iv
  pub plain : All (λ b. b < 256) p
  pub form : c ≡ body key iv p ++ tag key a (body key iv p)

-- a sealed message has an IV, one or more blocks and a tag
abbrev pub IsSealedLength : ℕ → Type 0
IsSealedLength n = (k : ℕ) × (0 < k) × (n ≡ 48 + 16 * k)

-- draft, 2.2, step 2: what stands before the tag
abbrev pub body_of : List ℕ → List ℕ
body_of c = take (length c - 32) c

-- draft, 2.2, step 2: the tag
abbrev pub tag_of : List ℕ → List ℕ
tag_of c = drop (length c - 32) c

-- draft, 2.2, step 4: the IV
abbrev pub iv_of : List ℕ → List ℕ
iv_of c = take 16 c

-- draft, 2.2, step 4: what the blocks behind the IV open to, padding included
unfoldable pub opened_body : List ℕ → List ℕ → List ℕ
opened_body key s = cbc_opened (schedule key) (take 16 s) (drop 16 s)

-- the same for a whole ciphertext, with its IV and its tag
unfoldable pub opened : List ℕ → List ℕ → List ℕ
opened key c = opened_body key (body_of c)

-- draft, 2.2, step 3: the length is right, and so is the tag
pub record IsTagged (key a c : List ℕ) : Type 0 where
  pub len : IsSealedLength (length c)
  pub same : tag_of c ≡ tag key a (body_of c)

-- draft, 2.2, step 3: the length is right, and the tag found isn't the one computed
pub record IsWronglyTagged (key a c computed found : List ℕ) : Type 0 where
  pub len : IsSealedLength (length c)
  pub found_is : found ≡ tag_of c
  pub computed_is : computed ≡ tag key a (body_of c)
  pub differ : found ≢ computed

-- draft, 2.2, step 4: length and tag are right, and the blocks open to the padded form of no
-- message
pub record IsWronglyPadded (key a c : List ℕ) : Type 0 where
  pub tagged : IsTagged key a c
  pub no_plain : (p : List ℕ) → opened key c ≢ pad p

-- draft, 2.2, step 3, as a test: one or more blocks between IV and tag
abbrev pub is_sealed_length : ℕ → Bool
is_sealed_length n = nat_lt 48 n && n % 16 == 0

-- draft, 2.2, step 3: the length is right, and the tag is that of the rest under the key
abbrev pub is_tagged : List ℕ → List ℕ → List ℕ → Bool
is_tagged key a c = is_sealed_length (length c) && bytes_eq (tag_of c) (tag key a (body_of c))

-- draft, 2.2: the message that c opens to under key and associated data, or None: the tag is judged,
-- then the padding
unfoldable pub opened_message : List ℕ → List ℕ → List ℕ → Option (List ℕ)
opened_message key a c = if is_tagged key a c then unpad (opened key c) else None
