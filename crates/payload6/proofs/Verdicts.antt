-- What a payload opens to, or why it isn't opened, as functions: they say what the relations say.
use Rattle.std.proofs.Common.{◌≡◌, get_or, subst, ◌∙◌, ℕ, ◌%◌, ◌<◌, Bool, true, false, List, [], ◌∷◌, ◌++◌, length}
use Rattle.std.proofs.Common.{take, drop, Option, Some, None, Result, Ok, Err, refl, sym, ap, arith, rules}
use Rattle.std.proofs.Common.{append_assoc, inl, inr}
use Rattle.std.specs.List.{All}
use Rattle.std.specs.Prelude.{bytes_eq, not, ◌&&◌, nat_lt, MatchBool, if◌then◌else◌}
use Rattle.std.proofs.lemmas.Bool.{cases_lt, eq-eqb}
use Rattle.std.proofs.lemmas.Bool.Decides.{nat_tests}
use Rattle.std.proofs.lemmas.List.{drop_at, take_at, get_or_past}
use Rattle.std.proofs.Math.Seq.{get_or-append_seam}
use Rattle.std.proofs.lemmas.List.Elements.{All-get_or}
use Rattle.bson_codec.specs.declared.fault.BsonFault.{BsonFault}
use Rattle.bson_codec.specs.declared.table.ValueLayout.{ValueLayout}
use Rattle.bson_codec.specs.Borrowed.{SpellsWithin, value_tree}
use Rattle.bson_codec.specs.Bytes.{AreBytes}
use Rattle.bson_codec.specs.Reading.{value_at, inside_at, width_of}
use Rattle.bson_codec.specs.Table.{layout_of}
use Rattle.bson_codec.proofs.Values.{no_type, value_judged, value_refused}
use Rattle.std.proofs.lemmas.Slice.Eq.{bytes_eq-Decides}
use Rattle.encrypt_schema.specs.declared.command.reason.Reason.TheVariants as reasons
use Rattle.fle_aead.specs.Sealed.{body_of, is_sealed_length, is_tagged, opened_message, tag, tag_of, IsSealedLength}
use Rattle.fle_aead.specs.Sealed.{IsTagged, IsWronglyTagged, IsWronglyPadded}
use Rattle.fle_aead.proofs.OpenedMessage.{message-sealed, message-untagged, message-unpadded}
use Rattle.payload6.specs.Opening.{is_single, IsOriginal}
use Rattle.payload6.specs.Payload.{head, IsSealedPayload}
use Rattle.payload6.specs.Verdicts.{ends, head_in, id_in, sealed_in, type_in, spells, is_original, plain_in, value_in}
use Rattle.payload6.specs.Verdicts.{wrong}
use Rattle.payload6.proofs.PayloadForm.{head-size}

-- ---- originals

bytes_are : (bs : List ℕ) → All (λ b. b < 256) bs → AreBytes bs
bytes_are bs all i = elim (cases_lt i (length bs)) [
  | inl lt ↦ All-get_or (λ b. b < 256) bs i 0 lt all
  | inr le ↦ rw (get_or_past bs i 0 le) (omega arith)
]

module _ (levels type : ℕ) (p : List ℕ) (bytes : AreBytes p) where
  by_width : (layout : ValueLayout) (r : Result ℕ BsonFault) → layout_of type ≡ Some layout
      → width_of (value_at (inside_at levels) type layout 0 p) ≡ r
      → MatchBool (ends (length p) r) (SpellsWithin levels type p) (SpellsWithin levels type p → ⊥)
  by_width layout (Ok n) row e = value_judged levels type layout p row n bytes e
  by_width layout (Err d) row e = value_refused levels type layout p row d e

  by_layout : (o : Option ValueLayout) → layout_of type ≡ o
      → MatchBool (spells levels type o p) (SpellsWithin levels type p) (SpellsWithin levels type p → ⊥)
  by_layout None row = no_type levels type p row
  by_layout (Some layout) row = by_width layout (width_of (value_at (inside_at levels) type layout 0 p)) row refl

  by_single : (single spelled : Bool) → is_single type ≡ single
      → MatchBool spelled (SpellsWithin levels type p) (SpellsWithin levels type p → ⊥)
      → MatchBool (not single && spelled) (IsOriginal levels type p) (IsOriginal levels type p → ⊥)
  by_single true spelled e h = λ o. absurd cc
  by_single false true e h = record { sealable = e; spelled = h }
  by_single false false e h = λ o. h o.spelled

  pub decided : MatchBool (is_original levels type p) (IsOriginal levels type p) (IsOriginal levels type p → ⊥)
  unfolding is_original
  decided = by_single (is_single type) (spells levels type (layout_of type) p) refl (by_layout (layout_of type) refl)

original_if : (P : Type 0) (b : Bool) → MatchBool b P (P → ⊥) → P → b ≡ true
original_if P true h p = refl
original_if P false h p = absurd (h p)

original_not : (P : Type 0) (b : Bool) → MatchBool b P (P → ⊥) → (P → ⊥) → b ≡ false
original_not P true h never = absurd (never h)
original_not P false h never = refl

-- ---- tags

both : (x y : Bool) → x ≡ true → y ≡ true → (x && y) ≡ true
both x y e f = rw (e, f) refl

not_behind : (x y : Bool) → y ≡ false → (x && y) ≡ false
not_behind true y e = e
not_behind false y e = refl

below : (m n : ℕ) → m < n → nat_lt m n ≡ true
below m n h = grind (arith, nat_tests)

length_test : (n : ℕ) → IsSealedLength n → is_sealed_length n ≡ true
length_test n l =
    let whole : n % 16 ≡ 0 = omega (arith, l.2) in
    both _ _ (below 48 n (omega (arith, l.1, l.2))) (eq-eqb _ _ whole)

tagged : (key a c : List ℕ) → IsTagged key a c → is_tagged key a c ≡ true
tagged key a c t =
    let same : bytes_eq (tag_of c) (tag key a (body_of c)) ≡ true =
    search (rules, bytes_eq-Decides (tag_of c) (tag key a (body_of c)), t.same) in
    both _ _ (length_test (length c) t.len) same

untagged : (key a c computed found : List ℕ) → IsWronglyTagged key a c computed found → is_tagged key a c ≡ false
untagged key a c computed found w =
    let differ : tag_of c ≡ tag key a (body_of c) → ⊥ = λ e. w.differ (w.found_is ∙ e ∙ sym w.computed_is) in
    let off : bytes_eq (tag_of c) (tag key a (body_of c)) ≡ false =
    search (rules, bytes_eq-Decides (tag_of c) (tag key a (body_of c)), differ) in
    not_behind (is_sealed_length (length c)) _ off

-- ---- a payload of a head and what is sealed behind it

module _ (kind : ℕ) (id : List ℕ) (type : ℕ) (h c : List ℕ) (long : length id ≡ 16) (is : h ≡ head kind id type) where
  pub head_is : head_in (h ++ c) ≡ h
  head_is = take_at h c 18 (ap length is ∙ head-size kind id type long)

  pub sealed_is : sealed_in (h ++ c) ≡ c
  sealed_is = drop_at h c 18 (ap length is ∙ head-size kind id type long)

  parts_are : h ++ c ≡ kind ∷ (id ++ (type ∷ c))
  parts_are = ap (λ (x : List ℕ). x ++ c) is ∙ ap (λ (x : List ℕ). kind ∷ x) (append_assoc id (type ∷ []) c)

  pub id_is : id_in (h ++ c) ≡ id
  id_is = ap (λ (x : List ℕ). take 16 (drop 1 x)) parts_are ∙ take_at id (type ∷ c) 16 long

  pub type_is : type_in (h ++ c) ≡ type
  type_is = ap type_in parts_are ∙ subst (λ (n : ℕ). get_or (id ++ (type ∷ c)) n 0 ≡ type) long
      (get_or-append_seam id type c 0)

  pub tag_wrong : (key : List ℕ) (levels : ℕ) (computed found : List ℕ) → IsWronglyTagged key h c computed found
      → wrong key levels (h ++ c) ≡ Some reasons.TagMismatch
  unfolding wrong plain_in
  tag_wrong key levels computed found w =
      let off = untagged key h c computed found w in
      let none : opened_message key h c ≡ None = message-untagged key h c
      (λ t. w.differ (w.found_is ∙ t.same ∙ sym w.computed_is)) in
      rw (head_is, sealed_is, none, off) refl

  pub padding_wrong : (key : List ℕ) (levels : ℕ) → IsWronglyPadded key h c
      → wrong key levels (h ++ c) ≡ Some reasons.Padding
  unfolding wrong plain_in
  padding_wrong key levels w =
      let on = tagged key h c w.tagged in
      let none : opened_message key h c ≡ None = message-unpadded key h c w.tagged w.no_plain in
      rw (head_is, sealed_is, none, on) refl

  pub plain_is : (key p : List ℕ) → opened_message key h c ≡ Some p → plain_in key (h ++ c) ≡ Some p
  unfolding plain_in
  plain_is key p e = rw (head_is, sealed_is) e

  by_plain : (key p : List ℕ) (levels : ℕ) → opened_message key h c ≡ Some p
      → wrong key levels (h ++ c) ≡ (if is_original levels type p then None else Some reasons.Plain)
  unfolding wrong
  by_plain key p levels e = rw (plain_is key p e, type_is) refl

  pub plain_right : (key p : List ℕ) (levels : ℕ) → All (λ b. b < 256) p → opened_message key h c ≡ Some p
      → IsOriginal levels type p → wrong key levels (h ++ c) ≡ None
  plain_right key p levels bytes e o =
      let on = original_if _ (is_original levels type p) (decided levels type p (bytes_are p bytes)) o in
      rw (by_plain key p levels e, on) refl

  pub plain_spoilt : (key p : List ℕ) (levels : ℕ) → All (λ b. b < 256) p → opened_message key h c ≡ Some p
      → (IsOriginal levels type p → ⊥) → wrong key levels (h ++ c) ≡ Some reasons.Plain
  plain_spoilt key p levels bytes e never =
      let off = original_not _ (is_original levels type p) (decided levels type p (bytes_are p bytes)) never in
      rw (by_plain key p levels e, off) refl

-- ---- laws

pub original_tells : (levels type : ℕ) (p : List ℕ) → All (λ b. b < 256) p
    → MatchBool (is_original levels type p) (IsOriginal levels type p) (IsOriginal levels type p → ⊥)
original_tells levels type p bytes = decided levels type p (bytes_are p bytes)

pub opens : (kind : ℕ) (id key : List ℕ) (type levels : ℕ) (iv p bytes : List ℕ)
    → IsSealedPayload kind id key type iv p bytes
    → IsOriginal levels type p → (wrong key levels bytes ≡ None) × (value_in key bytes ≡ value_tree type p)
    × (id_in bytes ≡ id)
unfolding value_in
opens kind id key type levels iv p bytes s o =
    let h = head kind id type in
    let message : opened_message key h s.sealed ≡ Some p = message-sealed key h iv p s.sealed s.message in
    let right = plain_right kind id type h s.sealed s.id_size refl key p levels s.message.plain message o in
    let plain = plain_is kind id type h s.sealed s.id_size refl key p message in
    let sort = type_is kind id type h s.sealed s.id_size refl in
    let id_same = id_is kind id type h s.sealed s.id_size refl in
    rw s.parts (right, rw (sort, plain) refl, id_same)
