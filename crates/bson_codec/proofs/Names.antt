-- Names and types: what is read has its layout, and what has its layout is read.
use Rattle.std.proofs.Common.{◌≡◌, ℕ, zero, suc, ◌+◌, Bool, true, false, cond, eqb, List, [], ◌∷◌, ◌++◌, length, take}
use Rattle.std.proofs.Common.{drop, Option, Some, None, option_map, Result, Ok, Err, refl, sym, ap, subst, ◌∙◌}
use Rattle.std.proofs.Common.{append_assoc, arith, add-one}
use Rattle.std.proofs.lemmas.Bool.{ne_eqb}
use Rattle.bson_codec.specs.declared.fault.BsonFault.{BsonFault}
use Rattle.bson_codec.specs.declared.table.ValueLayout.{ValueLayout}
use Rattle.bson_codec.specs.Table.{layout_of}
use Rattle.bson_codec.specs.Layout.{IsName}
use Rattle.bson_codec.specs.Reading.{before_zero, name_by, cstring_at, layout_by, type_at}
use Rattle.bson_codec.proofs.Steps.{ok_is}
use Rattle.bson_codec.proofs.Pieces.{Begins}

-- a name of n bytes, and 00
pub record NameRead (bs : List ℕ) (n : ℕ) : Type 0 where
  pub name : IsName (take n bs)
  pub parts : Begins bs (take n bs ++ 0 ∷ []) (n + 1)

abbrev some : ℕ → Option ℕ
some n = Some n

some_is : (m n : ℕ) → Some m ≡ Some n → m ≡ n
some_is m n e = cc

record Mapped (o : Option ℕ) (n : ℕ) : Type 0 where
  before : ℕ
  is : o ≡ Some before
  then : suc before ≡ n

mapped : (o : Option ℕ) (n : ℕ) → option_map (λ m. m + 1) o ≡ Some n → Mapped o n
mapped None n e = absurd cc
mapped (Some m) n e = record { before = m; is = refl; then = sym (add-one m) ∙ some_is (m + 1) n e }

before_zero_takes : (bs : List ℕ) (n : ℕ) → before_zero bs ≡ Some n → NameRead bs n
before_zero_takes [] n e = absurd cc
before_zero_takes (zero ∷ bs) n e =
    subst (λ (m : ℕ). NameRead (0 ∷ bs) m) (some_is 0 n e) (record {
      name = tt;
      parts = record { parts = refl; size = refl };
    })
before_zero_takes (suc b ∷ bs) n e =
    let nonzero : eqb (suc b) 0 ≡ false = ne_eqb (suc b) 0 (λ h. omega arith) in
    let step : option_map (λ m. m + 1) (before_zero bs) ≡ Some n =
    ap (λ (t : Bool). cond t (Some 0) (option_map (λ m. m + 1) (before_zero bs))) (sym nonzero) ∙ e in
    let m = mapped (before_zero bs) n step in
    let rest = before_zero_takes bs m.before m.is in
    let place : drop (suc m.before + 1) (suc b ∷ bs) ≡ drop (m.before + 1) bs = rw (add-one, add-one) refl in
    subst (λ (k : ℕ). NameRead (suc b ∷ bs) k) m.then
    (record {
      name = (omega arith, rest.name);
      parts = record {
        parts = ap (λ (x : List ℕ). suc b ∷ x) (rest.parts.parts
            ∙ ap (λ (x : List ℕ). (take m.before bs ++ 0 ∷ []) ++ x) (sym place));
        size = omega (arith, rest.parts.size);
      };
    })

name_by_ok : (end : ℕ) (o : Option ℕ) (n : ℕ) → name_by end o ≡ Ok n → o ≡ Some n
name_by_ok end None n e = absurd cc
name_by_ok end (Some m) n e = ap some (ok_is m n e)

pub name_takes : (p : ℕ) (bs : List ℕ) (n : ℕ) → cstring_at p bs ≡ Ok n → NameRead bs n
unfolding cstring_at
name_takes p bs n e = before_zero_takes bs n (name_by_ok (p + length bs) (before_zero bs) n e)

before_zero_again : (name rest : List ℕ) → IsName name → before_zero (name ++ 0 ∷ rest) ≡ Some (length name)
before_zero_again [] rest h = refl
before_zero_again (b ∷ name) rest h =
    let nonzero : eqb b 0 ≡ false = ne_eqb b 0 (λ e. omega (arith, h.0)) in
    let step : option_map (λ m. m + 1) (before_zero (name ++ 0 ∷ rest)) ≡ Some (length name + 1) =
    ap (option_map (λ m. m + 1)) (before_zero_again name rest h.1) in
    let one : some (length name + 1) ≡ some (suc (length name)) = ap some (add-one (length name)) in
    rw nonzero (step ∙ one)

pub name_again : (p : ℕ) (bs name : List ℕ) (n : ℕ) → IsName name → Begins bs (name ++ 0 ∷ []) n
    → cstring_at p bs ≡ Ok (length name)
unfolding cstring_at
name_again p bs name n h begins =
    let whole : bs ≡ name ++ 0 ∷ drop n bs = begins.parts ∙ append_assoc name (0 ∷ []) (drop n bs) in
    let found : before_zero bs ≡ Some (length name) = ap before_zero whole ∙ before_zero_again name (drop n bs) h in
    ap (name_by (p + length bs)) found

-- ---- types

passed_if : {A : Type 0} (b : Bool) (d : BsonFault) (r : Result A BsonFault) (y : A) → cond b (Err d) r ≡ Ok y
    → r ≡ Ok y
passed_if true d r y e = absurd cc
passed_if false d r y e = e

layout_by_ok : (p : ℕ) (o : Option ValueLayout) (layout : ValueLayout) → layout_by p o ≡ Ok layout → o ≡ Some layout
layout_by_ok p None layout e = absurd cc
layout_by_ok p (Some found) layout e = ap (λ (l : ValueLayout). Some l) (ok_is found layout e)

pub layout_takes : (p tag : ℕ) (layout : ValueLayout) → type_at p tag ≡ Ok layout → layout_of tag ≡ Some layout
unfolding type_at
layout_takes p tag layout e = layout_by_ok p (layout_of tag) layout
    (passed_if (eqb tag 0) _ (layout_by p (layout_of tag)) layout e)

-- 00 is no type
zero_is_none : (layout : ValueLayout) → layout_of 0 ≡ Some layout → ⊥
unfolding layout_of
zero_is_none layout e = cc

pub layout_again : (p tag : ℕ) (layout : ValueLayout) → layout_of tag ≡ Some layout → type_at p tag ≡ Ok layout
unfolding type_at
layout_again p tag layout e =
    let nonzero : eqb tag 0 ≡ false = ne_eqb tag 0
    (λ z. zero_is_none layout (subst (λ (k : ℕ). layout_of k ≡ Some layout) z e)) in
    rw nonzero (ap (layout_by p) e)

-- ---- bytes that may be a name

mapped_none : (o : Option ℕ) → option_map (λ m. m + 1) o ≡ None → o ≡ None
mapped_none None e = refl
mapped_none (Some m) e = absurd cc

pub name_if_none : (bs : List ℕ) → before_zero bs ≡ None → IsName bs
name_if_none [] e = tt
name_if_none (zero ∷ bs) e = absurd cc
name_if_none (suc b ∷ bs) e =
    let nonzero : eqb (suc b) 0 ≡ false = ne_eqb (suc b) 0 (λ h. omega arith) in
    let step : option_map (λ m. m + 1) (before_zero bs) ≡ None =
    ap (λ (t : Bool). cond t (Some 0) (option_map (λ m. m + 1) (before_zero bs))) (sym nonzero) ∙ e in
    (omega arith, name_if_none bs (mapped_none (before_zero bs) step))

none_if_name : (bs : List ℕ) → IsName bs → before_zero bs ≡ None
none_if_name [] h = refl
none_if_name (b ∷ bs) h =
    let nonzero : eqb b 0 ≡ false = ne_eqb b 0 (λ e. omega (arith, h.0)) in
    rw nonzero (ap (option_map (λ m. m + 1)) (none_if_name bs h.1))

pub no_name_if_some : (bs : List ℕ) (n : ℕ) → before_zero bs ≡ Some n → IsName bs → ⊥
no_name_if_some bs n e h = let none : before_zero bs ≡ None = none_if_name bs h in cc
