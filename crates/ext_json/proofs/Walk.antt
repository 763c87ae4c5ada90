-- The texts of elements, one after another.
use Rattle.std.proofs.Common.{◌≡◌, ℕ, zero, suc, ◌-◌, Bool, List, [], ◌∷◌, ◌++◌, refl, arith}
use Rattle.bson_tree.specs.Tree.{Tree, Items, no_items, item}
use Rattle.bson_codec.specs.Borrowed.{Elem}
use Rattle.ext_json.specs.Text.{elements_text, name_text, opening_text, closing_text, inside_text, value_text}

pub elements_more : (V : Tree → List ℕ) (named : Bool) (before : List ℕ) (all rest : Items) (e : Elem)
    → all ≡ item e.name e.tree rest
    → elements_text V named before all ≡ (before ++ (name_text named e.name ++ V e.tree))
    ++ elements_text V named (44 ∷ []) rest
unfolding elements_text
elements_more V named before all rest e is = rw is refl

pub elements_end : (V : Tree → List ℕ) (named : Bool) (before : List ℕ) (all : Items) → all ≡ no_items
    → elements_text V named before all ≡ []
unfolding elements_text
elements_end V named before all is = rw is refl

pub inside_more : (levels : ℕ) (named : Bool) (is : Items) → (levels ≡ 0 → ⊥)
    → inside_text levels named is ≡ opening_text named
    ++ (elements_text (value_text (inside_text (levels - 1))) named [] is ++ closing_text named)
unfolding inside_text
inside_more zero named is some = absurd (some refl)
inside_more (suc n) named is some =
    let back : suc n - 1 ≡ n = omega arith in
    rw back refl
