-- Whether a value is a payload, as the code holds it
use Rattle.std.specs.Prelude.{◌≡◌, true, false, length, ◌++◌}
use Rattle.bson_tree.specs.Tree.{Tree}
use Rattle.payload6.specs.Payload.{IsPayloadLength}
use Rattle.doc_rewrite.specs.declared.leaf.Leaf.{Leaf}
use Rattle.doc_rewrite.specs.declared.leaf.Leaf.TheVariants as leaves
use Rattle.doc_rewrite.specs.Founds.{contents_of, opens_here}

abbrev pub LeafIs : Tree → Leaf → Type 0
LeafIs t leaves.Other = opens_here t ≡ false
LeafIs t (leaves.Payload p) = (opens_here t ≡ true) × (contents_of t ≡ p.head.now ++ p.sealed.now)
LeafIs t leaves.Misshapen = (opens_here t ≡ true) × (IsPayloadLength (length (contents_of t)) → ⊥)
