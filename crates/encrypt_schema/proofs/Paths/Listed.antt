-- A set of listed names, filled name by name.
use Rattle.std.proofs.Common.{◌≡◌, ◌∙◌, ℕ, Bool, true, false, cond, ◌||◌, List, [], ◌∷◌, Vec, Global, nat_cmp, bytes_eq}
use Rattle.std.proofs.Common.{refl, sym, ap}
use Rattle.std.specs.BTreeSet.{BTreeSet, UpdatesBy}
use Rattle.std.specs.Cmp.Lexicographic.{slice_cmp}
use Rattle.encrypt_schema.specs.Language.Names.{is_among}
use Rattle.encrypt_schema.specs.Views.Others.{has}
use Rattle.encrypt_schema.proofs.Language.Sets.{added}
use Rattle.encrypt_schema.proofs.Paths.Paths.{named_is, named_turn}

or_swap : (a b c : Bool) → (cond b true a || c) ≡ (a || (b || c))
or_swap true true c = refl
or_swap true false c = refl
or_swap false true c = refl
or_swap false false c = refl

-- one name more of those that are left
pub listed_more : (old new : BTreeSet (Vec ℕ Global)) (name : List ℕ) (here left names : List (List ℕ))
    → here ≡ name ∷ left
    → UpdatesBy (λ x y. slice_cmp nat_cmp x.items y.items) (λ k. slice_cmp nat_cmp name k.items) old new true
    → ((q : List ℕ) → (has old q || is_among q here) ≡ is_among q names)
    → (q : List ℕ) → (has new q || is_among q left) ≡ is_among q names
listed_more old new name here left names step more known q =
    ap (λ (b : Bool). b || is_among q left) (added (λ (k : Vec ℕ Global). k.items) old new name more q)
    ∙ or_swap (has old q) (bytes_eq name q) (is_among q left)
    ∙ ap (λ (b : Bool). has old q || (b || is_among q left)) (sym (named_turn q name ∙ named_is name q))
    ∙ ap (λ (ns : List (List ℕ)). has old q || is_among q ns) (sym step)
    ∙ known q

-- where none is left, the set has them all
pub listed_all : (set : BTreeSet (Vec ℕ Global)) (left names : List (List ℕ)) → left ≡ []
    → ((q : List ℕ) → (has set q || is_among q left) ≡ is_among q names)
    → (q : List ℕ) → has set q ≡ is_among q names
listed_all set left names none known q =
    or_false (has set q)
    ∙ ap (λ (ns : List (List ℕ)). has set q || is_among q ns) (sym none)
    ∙ known q where
      or_false : (b : Bool) → b ≡ (b || false)
      or_false true = refl
      or_false false = refl
