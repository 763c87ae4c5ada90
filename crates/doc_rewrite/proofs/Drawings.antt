-- The IV of a value under the random algorithm is the block that is drawn.
use Rattle.std.proofs.Common.{◌≡◌, ℕ, Ok, List, [], ◌∷◌, refl}
use Rattle.std.proofs.lemmas.List.Elements.{All-cons, All-nil}
use Rattle.bson_tree.specs.Tree.{Tree}
use Rattle.encrypt_schema.specs.declared.schema.policy.Algorithm.TheVariants.{Random}
use Rattle.fle_outside.proofs.Drawings.{taken}
use Rattle.fle_outside.specs.Blocks.{Block, IsBlock, DrawTakes, DrawCause, DrawAssured}
use Rattle.fle_outside.specs.Seen.{EntropySeen}
use Rattle.doc_rewrite.specs.declared.label.Label.{Label}
use Rattle.doc_rewrite.specs.Ivs.{IsDrawnIv}

pub iv_drawn : (l : Label) (key : List ℕ) (t : Tree) (before after : EntropySeen) (block : Block)
    → l.algorithm ≡ Random
    → DrawTakes before.told after.told (Ok block) → DrawCause before.faults after.faults (Ok block)
    → DrawAssured before.assured after.assured (Ok block) → IsBlock block → IsDrawnIv l key t before after block
iv_drawn l key t before after block random takes cause sure is = rw random (record {
  drawn = block ∷ [];
  count = refl;
  draws = record {
    blocks = All-cons IsBlock block [] is (All-nil IsBlock);
    first = taken before.told after.told block takes;
    later = cause;
    falls = sure;
  };
  is = refl;
})
