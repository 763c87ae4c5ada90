-- The IV under which a value is sealed, and the block that is drawn for it
use Rattle.std.specs.Prelude.{◌≡◌, ℕ, Result, Ok, Err, List, [], length}
use Rattle.bson_tree.specs.Tree.{Tree}
use Rattle.encrypt_schema.specs.declared.schema.policy.Algorithm.{Algorithm}
use Rattle.fle_outside.specs.Blocks.{Block}
use Rattle.fle_outside.specs.Counts.{Rose}
use Rattle.fle_outside.specs.Seen.{Draws, EntropySeen}
use Rattle.fle_outside.specs.declared.answers.Failed.{Failed}
use Rattle.doc_rewrite.specs.declared.label.Label.{Label}
use Rattle.doc_rewrite.specs.Payloads.{iv_under}
use Rattle.doc_rewrite.specs.Sealed.{first_block}
use Rattle.doc_rewrite.specs.Sites.{draw}

-- the blocks that were drawn for a value, one or none, and its IV
pub record IsDrawnIv (l : Label) (key : List ℕ) (t : Tree) (before after : EntropySeen) (iv : List ℕ) : Type 0 where
  pub drawn : List Block
  pub count : length drawn ≡ draw l.algorithm
  pub draws : Draws before after drawn
  pub is : iv ≡ iv_under l key t (first_block l.algorithm drawn)

-- a value needs a block, and its draw failed
pub record DrawFails (algorithm : Algorithm) (before after : EntropySeen) : Type 0 where
  pub needs : draw algorithm ≡ 1
  pub draws : Draws before after []
  pub unassured : before.assured ≡ 0
  pub rose : Rose before.faults after.faults

-- the IV of a value was made, or the draw for it failed
abbrev pub TellsIv : Label → List ℕ → Tree → EntropySeen → EntropySeen → Result (List ℕ) Failed → Type 0
TellsIv l key t before after (Ok iv) = IsDrawnIv l key t before after iv
TellsIv l key t before after (Err _) = DrawFails l.algorithm before after
