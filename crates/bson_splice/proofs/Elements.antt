-- The elements that are left to be written, one after the other.
use Rattle.std.proofs.Common.{◌≡◌, ◌∙◌, ℕ, ◌+◌, List, length, Option, Some, None, ap, subst, sym}
use Rattle.bson_tree.specs.Tree.{item, no_items}
use Rattle.bson_tree.specs.Spelling.{value_bytes}
use Rattle.bson_codec.specs.Borrowed.{At, Elem}
use Rattle.bson_codec.specs.Elements.{TakesElement}
use Rattle.bson_splice.specs.Splices.{Put, left_in, left, spliced_in, spliced}

-- an element that was taken is the next one
pub takes_some : (here : At) (met : Option Elem) (rest : At) (e : Elem) → met ≡ Some e → TakesElement here met rest
    → TakesElement here (Some e) rest
takes_some here met rest e is taken = subst (λ (o : Option Elem). TakesElement here o rest) is taken

-- where none was taken, none is left
pub takes_none : (here : At) (met : Option Elem) (rest : At) → met ≡ None → TakesElement here met rest
    → here.tree ≡ no_items
takes_none here met rest is taken = (subst (λ (o : Option Elem). TakesElement here o rest) is taken).0

-- what is left is the next element and the others
pub left_parts : (here rest : At) (e : Elem) (ps : List Put) → TakesElement here (Some e) rest
    → (spliced here.start ps here.tree ≡ item e.name (spliced_in e.start ps e.tree)
    (spliced rest.start (left_in e.start ps e.tree) rest.tree))
    × (left here.start ps here.tree ≡ left rest.start (left_in e.start ps e.tree) rest.tree)
left_parts here rest e ps taken =
    let p : here.start + (2 + length e.name) ≡ e.start = sym taken.1 in
    let q : e.start + length (value_bytes e.tree) ≡ rest.start = sym taken.2 in (
      ap (spliced here.start ps) taken.0
          ∙ ap (λ (n : ℕ). item e.name (spliced_in n ps e.tree)
          (spliced (n + length (value_bytes e.tree)) (left_in n ps e.tree) rest.tree)) p
          ∙ ap (λ (n : ℕ). item e.name (spliced_in e.start ps e.tree) (spliced n (left_in e.start ps e.tree) rest.tree))
          q,
      ap (left here.start ps) taken.0
          ∙ ap (λ (n : ℕ). left (n + length (value_bytes e.tree)) (left_in n ps e.tree) rest.tree) p
          ∙ ap (λ (n : ℕ). left n (left_in e.start ps e.tree) rest.tree) q,
    )
