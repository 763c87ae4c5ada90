-- Whether a raw value is a payload.
use Rattle.std.proofs.Common.{◌≡◌, ◌∙◌, ℕ, Bool, true, false, List, [], ◌∷◌, ◌++◌, sym, ap, refl, subst, arith}
use Rattle.std.specs.Prelude.{◌==◌, ◌&&◌, ◌||◌}
use Rattle.std.proofs.lemmas.Bool.{eq-eqb, ne_eqb, eqb-true, eqb-false}
use Rattle.bson_tree.specs.Tree.{Tree, leaf}
use Rattle.bson_codec.specs.Layout.{binary_bytes}
use Rattle.encrypt_schema.specs.Commands.Visits.{is_payload}
use Rattle.payload6.specs.Payload.{head, HasKind, IsKind}
use Rattle.doc_rewrite.specs.Founds.{contents_of, has_number, is_sealed, opens_here}

-- a value of another type
pub other_type : (t : Tree) (tag : ℕ) (bytes : List ℕ) → t ≡ leaf tag bytes → (tag == 5) ≡ false → opens_here t ≡ false
unfolding is_sealed is_payload
other_type t tag bytes is off = rw (is, off) refl

-- a binary: by its subtype and its first byte
binary_opens : (t : Tree) (s : ℕ) (c : List ℕ) → t ≡ leaf 5 (binary_bytes s c) → opens_here t ≡ (s == 6 && has_number c)
unfolding is_sealed is_payload
binary_opens t s c is = rw is refl

pub contents_are : (t : Tree) (s : ℕ) (c : List ℕ) → t ≡ leaf 5 (binary_bytes s c) → contents_of t ≡ c
contents_are t s c is = rw is refl

pub other_subtype : (t : Tree) (s : ℕ) (c : List ℕ) → t ≡ leaf 5 (binary_bytes s c) → (s ≡ 6 → ⊥) → opens_here t ≡ false
other_subtype t s c is off = let different : (s == 6) ≡ false =
    ne_eqb s 6 off in binary_opens t s c is ∙ rw different refl

two_of : (n : ℕ) (b : Bool) → (n == 1) ≡ b → IsKind n → (b || n == 2) ≡ true
two_of n true e k = refl
two_of n false e k = let off : n ≡ 1 → ⊥ = eqb-false n 1 e in let two : n ≡ 2 =
    omega (arith, k.0, k.1, off) in eq-eqb n 2 two

neither : (n : ℕ) (a b : Bool) → (n == 1) ≡ a → (n == 2) ≡ b → (IsKind n → ⊥) → (a || b) ≡ false
neither n true b p q k = let one : n ≡ 1 = eqb-true n 1 p in absurd (k (omega (arith, one), omega (arith, one)))
neither n false true p q k = let two : n ≡ 2 = eqb-true n 2 q in absurd (k (omega (arith, two), omega (arith, two)))
neither n false false p q k = refl

numbered : (c : List ℕ) → HasKind c → has_number c ≡ true
numbered [] h = absurd h
numbered (n ∷ c) h = two_of n (n == 1) refl h

unnumbered : (c : List ℕ) → (HasKind c → ⊥) → has_number c ≡ false
unnumbered [] h = refl
unnumbered (n ∷ c) h = neither n (n == 1) (n == 2) refl refl h

false_behind : (b : Bool) → (b && false) ≡ false
false_behind true = refl
false_behind false = refl

pub kind_opens : (t : Tree) (s : ℕ) (c : List ℕ) → t ≡ leaf 5 (binary_bytes s c) → s ≡ 6 → HasKind c
    → opens_here t ≡ true
kind_opens t s c is six h =
    let same : (s == 6) ≡ true = eq-eqb s 6 six in
    let number = numbered c h in
    binary_opens t s c is ∙ rw (same, number) refl

pub kindless : (t : Tree) (s : ℕ) (c : List ℕ) → t ≡ leaf 5 (binary_bytes s c) → (HasKind c → ⊥) → opens_here t ≡ false
kindless t s c is h = let none = unnumbered c h in binary_opens t s c is ∙ rw none (false_behind (s == 6))

-- what is taken apart begins with a kind
pub kind_of_parts : (kind type : ℕ) (id h c sealed : List ℕ) → IsKind kind → h ≡ head kind id type → h ++ sealed ≡ c
    → HasKind c
kind_of_parts kind type id h c sealed k is joined = subst HasKind (ap (λ (x : List ℕ). x ++ sealed) (sym is) ∙ joined) k
