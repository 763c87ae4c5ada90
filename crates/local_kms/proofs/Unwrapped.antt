-- What opening says of material of 160 bytes.
use Rattle.std.proofs.Common.{◌≡◌, ◌≢◌, ◌∙◌, ◌↔◌, ℕ, ◌==◌, Bool, true, false, cond, Some, None, Option}
use Rattle.std.proofs.Common.{Result, Ok, Err, List, [], length, take, refl, sym, ap, arith, inl, inr}
use Rattle.std.specs.Prelude.{is_ok, is_some, unwrap_or}
use Rattle.std.proofs.lemmas.Bool.{false≢true, ne_eqb}
use Rattle.fle_aead.specs.Sealed.{IsSealedLength, IsWronglyTagged, IsWronglyPadded, opened_message}
use Rattle.fle_aead.specs.declared.opening.OpenFault.{OpenFault}
use Rattle.fle_aead.specs.declared.opening.OpenFault.TheVariants as opening
use Rattle.local_kms.specs.declared.wrapping.UnwrapFault.{UnwrapFault}
use Rattle.local_kms.specs.declared.wrapping.UnwrapFault.TheVariants as faults
use Rattle.local_kms.specs.Seen.{fault_seen, IsKeyOf}
use Rattle.local_kms.specs.Wrapped.{Unwraps, unwrapped, key_of_plain}

-- what opening answered
pub record Opened (master material : List ℕ) (r : Result ℕ OpenFault) : Type 0 where
  pub short : (r ≡ Err opening.Short) ↔ (IsSealedLength (length material) → ⊥)
  pub tag : (computed found : List ℕ) → (r ≡ Err (opening.Tag computed found))
      ↔ IsWronglyTagged master [] material computed found
  pub padding : (r ≡ Err opening.Padding) ↔ IsWronglyPadded master [] material

abbrev unfault : Result (List ℕ) UnwrapFault → Result ℕ OpenFault
unfault (Ok key) = Ok 0
unfault (Err faults.Length) = Err opening.Short
unfault (Err (faults.Tag computed found)) = Err (opening.Tag computed found)
unfault (Err faults.Padding) = Err opening.Padding

abbrev refault : Result ℕ OpenFault → Result (List ℕ) UnwrapFault
refault (Ok n) = Ok []
refault (Err fault) = Err (fault_seen fault)

back : (fault : OpenFault) → Err fault ≡ unfault (Err (fault_seen fault))
back opening.Short = refl
back (opening.Tag computed found) = refl
back opening.Padding = refl

none_some : (o : Option (List ℕ)) (p : List ℕ) → o ≡ None → o ≡ Some p → ⊥
none_some o p e f = false≢true (ap is_some (sym e ∙ f))

-- material of 160 bytes opens to what its message is
unwrapped_is : (master material : List ℕ) → length material ≡ 160
    → unwrapped master material ≡ key_of_plain (opened_message master [] material)
unfolding unwrapped
unwrapped_is master material long = ap (λ (n : ℕ). cond (n == 160)
    (key_of_plain (opened_message master [] material)) None) long

pub wrong_length : (master material : List ℕ) → length material ≢ 160 → unwrapped master material ≡ None
unfolding unwrapped
wrong_length master material ne = ap (λ (b : Bool). cond b (key_of_plain (opened_message master [] material)) None)
    (ne_eqb (length material) 160 ne)

sealed_length : (n : ℕ) → n ≡ 160 → IsSealedLength n
sealed_length n e = (7, omega arith, e)

pub told_err : (master material : List ℕ) (fault : OpenFault) → length material ≡ 160
    → Opened master material (Err fault)
    → opened_message master [] material ≡ None → Unwraps master material (Err (fault_seen fault))
told_err master material fault long o none = record {
  opened = unwrapped_is master material long ∙ ap key_of_plain none;
  length = (
    λ e. absurd (o.short.0 (back fault ∙ ap unfault e) (sealed_length (length material) long)),
    λ w. elim w [
      | inl ne ↦ absurd (ne long)
      | inr p ↦ absurd (none_some (opened_message master [] material) p.0 none p.1)
    ],
  );
  tag = λ computed found. (
    λ e. record { len = long; wrong = (o.tag computed found).0 (back fault ∙ ap unfault e) },
    λ w. ap refault ((o.tag computed found).1 w.wrong),
  );
  padding = (
    λ e. record { len = long; wrong = o.padding.0 (back fault ∙ ap unfault e) },
    λ w. ap refault (o.padding.1 w.wrong),
  );
}

abbrev length_told : Result ℕ OpenFault → ℕ
length_told (Ok n) = n
length_told (Err fault) = 0

pub ok_is : (a b : ℕ) → ◌≡◌ {A = Result ℕ OpenFault} (Ok a) (Ok b) → a ≡ b
ok_is a b e = ap length_told e

ok_err : {A E : Type 0} (x : A) (e : E) → Ok x ≡ Err e → ⊥
ok_err x e h = false≢true (sym (ap is_ok h))

same_plain : (master material p q : List ℕ) → opened_message master [] material ≡ Some p
    → opened_message master [] material ≡ Some q → length p ≡ length q
same_plain master material p q e f = ap (λ (o : Option (List ℕ)). length (unwrap_or o [])) (sym e ∙ f)

abbrev is_length : Result (List ℕ) UnwrapFault → Bool
is_length (Ok key) = false
is_length (Err faults.Length) = true
is_length (Err (faults.Tag computed found)) = false
is_length (Err faults.Padding) = false

pub told_ok : (master material plain : List ℕ) (n : ℕ) (r : Result (List ℕ) UnwrapFault) → length material ≡ 160
    → Opened master material (Ok n)
    → opened_message master [] material ≡ Some (take n plain) → n ≡ length (take n plain) → IsKeyOf n plain r
    → Unwraps master material r
told_ok master material plain n (Ok key) long o message size is =
    let whole : length (take n plain) ≡ 96 = sym size ∙ is.0 in
    let same : Some (take n plain) ≡ Some key = ap (λ (m : ℕ). Some (take m plain)) is.0
    ∙ ap (λ (k : List ℕ). Some k) (sym is.1) in
    record {
      opened =
          unwrapped_is master material long ∙ ap key_of_plain message
          ∙ ap (λ (m : ℕ). cond (m == 96) (Some (take n plain)) None) whole ∙ same;
      length = (
        λ e. absurd (ok_err key faults.Length e),
        λ w. elim w [
          | inl ne ↦ absurd (ne long)
          | inr p ↦ absurd (p.2 (same_plain master material p.0 (take n plain) p.1 message ∙ whole))
        ],
      );
      tag = λ computed found. (
        λ e. absurd (ok_err key (faults.Tag computed found) e),
        λ w. absurd (ok_err n (opening.Tag computed found) ((o.tag computed found).1 w.wrong)),
      );
      padding = (
        λ e. absurd (ok_err key faults.Padding e),
        λ w. absurd (ok_err n opening.Padding (o.padding.1 w.wrong)),
      );
    }
told_ok master material plain n (Err fault) long o message size is =
    let ne : length (take n plain) ≢ 96 = λ e. is.0 (size ∙ e) in
    record {
      opened =
          unwrapped_is master material long ∙ ap key_of_plain message
          ∙ ap (λ (b : Bool). cond b (Some (take n plain)) None) (ne_eqb (length (take n plain)) 96 ne);
      length = (
        λ e. inr (take n plain, message, ne),
        λ w. ap (λ (f : UnwrapFault). Err f) is.1,
      );
      tag = λ computed found. (
        λ e. absurd (false≢true (sym (ap is_length e) ∙ ap (λ (f : UnwrapFault). is_length (Err f)) is.1)),
        λ w. absurd (ok_err n (opening.Tag computed found) ((o.tag computed found).1 w.wrong)),
      );
      padding = (
        λ e. absurd (false≢true (sym (ap is_length e) ∙ ap (λ (f : UnwrapFault). is_length (Err f)) is.1)),
        λ w. absurd (ok_err n opening.Padding (o.padding.1 w.wrong)),
      );
    }

-- material that isn't 160 bytes
pub told_long : (master material : List ℕ) → length material ≢ 160 → Unwraps master material (Err faults.Length)
told_long master material ne = record {
  opened = wrong_length master material ne;
  length = (λ e. inl ne, λ w. refl);
  tag = λ computed found. (λ e. absurd (false≢true (sym (ap is_length e))), λ w. absurd (ne w.len));
  padding = (λ e. absurd (false≢true (sym (ap is_length e))), λ w. absurd (ne w.len));
}
