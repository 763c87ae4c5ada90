-- Each value inside a list of named values is smaller than the list.
use Rattle.std.specs.Prelude.{◌≤◌, ℕ, max, List, [], ◌∷◌}
use Rattle.std.proofs.Common.{arith}
use denote.Param.Weighed.{most}
use Rattle.bson_tree.specs.declared.tree.Body.{Body}
use Rattle.bson_tree.specs.declared.tree.Body.TheVariants as body
use Rattle.bson_tree.specs.declared.tree.Value.{Value}
use Rattle.bson_tree.specs.declared.tree.Kids.TheDeep.{deep-Body, deep-Value}
use Rattle.bson_tree.specs.Tree.{items_size, tree_size}
use Rattle.bson_tree.specs.View.{items_of, body_tree}

pub deep_body_le : (tag : ℕ) (b : Body) → deep-Body b ≤ tree_size (body_tree tag b)
deep_body_le tag (body.Raw bytes) = omega arith
deep_body_le tag (body.Kids is) = omega arith

-- no value of a list is deeper than the list is large: a walk down a tree ends by it
pub falls : (pairs : List (List ℕ × Value)) → max (most (λ p. max 0 (max (deep-Value p.1) 0)) pairs) 0
    ≤ items_size (items_of pairs)
falls [] = omega arith
falls (pair ∷ pairs) = omega (arith, falls pairs, deep_body_le pair.1.tag pair.1.body)
