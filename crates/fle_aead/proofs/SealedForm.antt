-- A sealed message taken apart, and put together again.
use Rattle.std.proofs.Common.{◌≡◌, ℕ, ◌+◌, ◌-◌, ◌*◌, ◌/◌, ◌<◌, List, ◌++◌, length, take, drop, arith, ap, sym, ◌∙◌}
use Rattle.std.proofs.Common.{refl}
use Rattle.std.specs.List.{All}
use Rattle.std.proofs.lemmas.List.{append_assoc, drop_at, length-append, length-drop, length-take-le, take-append-drop}
use Rattle.std.proofs.lemmas.List.{take-take, take_at}
use Rattle.std.proofs.lemmas.List.Elements.{All-drop, All-take}
use Rattle.aes_block.specs.Block.{IsBlock}
use Rattle.hmac_sha512.proofs.MacLength.{length-hmac}
use Rattle.cbc_mode.specs.Cbc.{cbc_opened, cbc_sealed}
use Rattle.cbc_mode.specs.Padding.{pad}
use Rattle.cbc_mode.proofs.Padded.{pad-injective}
use Rattle.cbc_mode.proofs.Undone.{cbc_redone, cbc_undone-pad, length-sealed_pad}
use Rattle.cbc_mode.proofs.WholeBlocks.{IsBlock-take}
use Rattle.fle_aead.specs.Key.{mac_key, schedule}
use Rattle.fle_aead.specs.Sealed.{bit_length, body, body_of, tag, tag_of, iv_of, opened, opened_body, IsSealed}
use Rattle.fle_aead.specs.Sealed.{IsSealedLength, IsTagged}

pub length-tag : (key a s : List ℕ) → length (tag key a s) ≡ 32
unfolding tag
length-tag key a s =
    length-take-le 32 _ (omega (arith, length-hmac (mac_key key) ((a ++ s) ++ bit_length a)))

pub length-body : (key iv p : List ℕ) → length iv ≡ 16 → length (body key iv p) ≡ 16 + 16 * (length p / 16 + 1)
unfolding body
length-body key iv p long =
    omega (arith, length-append iv (cbc_sealed (schedule key) iv (pad p)), length-sealed_pad (schedule key) iv p)

pub sealed-length : (key a iv p c : List ℕ) → IsSealed key a iv p c → length c ≡ 48 + 16 * (length p / 16 + 1)
sealed-length key a iv p c s =
    ap length s.form ∙ omega (
      arith,
      length-append (body key iv p) (tag key a (body key iv p)),
      length-body key iv p s.iv_block.len,
      length-tag key a (body key iv p),
    )

pub sealed-is_sealed_length : (key a iv p c : List ℕ) → IsSealed key a iv p c → IsSealedLength (length c)
sealed-is_sealed_length key a iv p c s = (length p / 16 + 1, omega arith, sealed-length key a iv p c s)

pub sealed-body : (key a iv p c : List ℕ) → IsSealed key a iv p c → body_of c ≡ body key iv p
sealed-body key a iv p c s =
    let end : length (body key iv p) ≡ length c - 32 =
    omega (arith, sealed-length key a iv p c s, length-body key iv p s.iv_block.len) in
    ap (take (length c - 32)) s.form ∙ take_at (body key iv p) _ (length c - 32) end

pub sealed-tag : (key a iv p c : List ℕ) → IsSealed key a iv p c → tag_of c ≡ tag key a (body_of c)
sealed-tag key a iv p c s =
    let end : length (body key iv p) ≡ length c - 32 =
    omega (arith, sealed-length key a iv p c s, length-body key iv p s.iv_block.len) in
    ap (drop (length c - 32)) s.form ∙ drop_at (body key iv p) _ (length c - 32) end
    ∙ ap (tag key a) (sym (sealed-body key a iv p c s))

pub sealed-tagged : (key a iv p c : List ℕ) → IsSealed key a iv p c → IsTagged key a c
sealed-tagged key a iv p c s = record {
  len = sealed-is_sealed_length key a iv p c s;
  same = sealed-tag key a iv p c s;
}

pub sealed-iv : (key a iv p c : List ℕ) → IsSealed key a iv p c → iv_of c ≡ iv
unfolding body
sealed-iv key a iv p c s =
    ap (take 16) (s.form ∙ append_assoc iv (cbc_sealed (schedule key) iv (pad p)) (tag key a (body key iv p)))
    ∙ take_at iv _ 16 s.iv_block.len

pub sealed-opened : (key a iv p c : List ℕ) → IsSealed key a iv p c → opened key c ≡ pad p
unfolding body opened opened_body
sealed-opened key a iv p c s =
    let blocks : List ℕ = cbc_sealed (schedule key) iv (pad p) in
    let front : take 16 (iv ++ blocks) ≡ iv = take_at iv blocks 16 s.iv_block.len in
    let back : drop 16 (iv ++ blocks) ≡ blocks = drop_at iv blocks 16 s.iv_block.len in
    ap (opened_body key) (sealed-body key a iv p c s)
    ∙ rw (front, back) (cbc_undone-pad (schedule key) iv p s.iv_block s.plain)

-- what is rightly tagged and opens to a padded message is that message, sealed
pub sealed_from : (key a p c : List ℕ) → All (λ b. b < 256) c → All (λ b. b < 256) p → IsTagged key a c
    → opened key c ≡ pad p → IsSealed key a (iv_of c) p c
unfolding body opened opened_body
sealed_from key a p c bytes plain tagged is =
    let k : ℕ = tagged.len.0 in
    let some : 0 < k = tagged.len.1 in
    let long : length c ≡ 48 + 16 * k = tagged.len.2 in
    let s : List ℕ = body_of c in
    let sl : length s ≡ 16 + 16 * k = length-take-le (length c - 32) c (omega arith) ∙ omega arith in
    let blocks : List ℕ = drop 16 s in
    let bl : length blocks ≡ 16 * k = length-drop 16 s ∙ omega arith in
    let front : take 16 s ≡ iv_of c = take-take 16 (length c - 32) c (omega arith) in
    let iv_block : IsBlock (iv_of c) = IsBlock-take c bytes (omega arith) in
    let inner : All (λ b. b < 256) blocks =
    All-drop (λ b. b < 256) 16 s (All-take (λ b. b < 256) (length c - 32) c bytes) in
    let again : cbc_sealed (schedule key) (iv_of c) (pad p) ≡ blocks =
    ap (cbc_sealed (schedule key) (iv_of c)) (sym (rw front at is))
    ∙ cbc_redone (schedule key) (iv_of c) blocks iv_block inner (omega arith) in
    let whole : s ≡ iv_of c ++ cbc_sealed (schedule key) (iv_of c) (pad p) =
    sym (take-append-drop 16 s) ∙ rw (front, again) refl in record {
      iv_block = iv_block;
      plain = plain;
      form = sym (take-append-drop (length c - 32) c) ∙ ap (λ t. s ++ t) tagged.same
          ∙ ap (λ t. t ++ tag key a t) whole;
    }

-- a sealed message determines its IV and its message
pub sealed-determines : (key a iv p iv' p' c : List ℕ) → IsSealed key a iv p c → IsSealed key a iv' p' c
    → (iv ≡ iv') × (p ≡ p')
sealed-determines key a iv p iv' p' c s t = (
  sym (sealed-iv key a iv p c s) ∙ sealed-iv key a iv' p' c t,
  pad-injective p p' (sym (sealed-opened key a iv p c s) ∙ sealed-opened key a iv' p' c t),
)

-- what the parts of a body open to
pub opened_body-parts : (key s w iv blocks : List ℕ) → w ≡ schedule key → iv ≡ take 16 s → blocks ≡ drop 16 s
    → opened_body key s ≡ cbc_opened w iv blocks
unfolding opened_body
opened_body-parts key s w iv blocks words front back = rw (words, front, back) refl

pub opened-body : (key c s : List ℕ) → s ≡ body_of c → opened key c ≡ opened_body key s
unfolding opened
opened-body key c s is = rw is refl

-- the tag found is the one computed
pub tagged_from : (key a c s t computed found : List ℕ) → IsSealedLength (length c) → s ≡ body_of c → t ≡ tag_of c
    → computed ≡ tag key a s → found ≡ t → found ≡ computed → IsTagged key a c
tagged_from key a c s t computed found len front back made there same = record {
  len = len;
  same = sym back ∙ sym there ∙ same ∙ made ∙ ap (tag key a) front;
}

-- and the other way round
pub tags_agree_from : (key a c s t computed found : List ℕ) → s ≡ body_of c → t ≡ tag_of c
    → computed ≡ tag key a s → found ≡ t → IsTagged key a c → found ≡ computed
tags_agree_from key a c s t computed found front back made there tagged =
    there ∙ back ∙ tagged.same ∙ ap (tag key a) (sym front) ∙ sym made
