-- What an engine answers, by what the document comes to.
use Rattle.std.specs.Prelude.{◌≡◌, ◌≤◌, ℕ, List, [], length}
use Rattle.bson_tree.specs.Places.{place_of}
use Rattle.bson_tree.specs.Tree.{Items}
use Rattle.doc_rewrite.specs.Sealing.{FellShort}
use Rattle.fle_outside.specs.Blocks.{Block}
use Rattle.fle_outside.specs.Seen.{Draws, EntropySeen}
use Rattle.fle_engine.specs.Rulings.{Ruling, makes, refused, too_long}
use Rattle.fle_engine.specs.declared.answer.Answer.{Answer}
use Rattle.fle_engine.specs.declared.answer.Answer.TheVariants as answers

-- the output's bytes, under the blocks that it drew; the refusal, with the place of the value that begins at its
-- offset; the limit; too few blocks, and what is wanted; or memory ran out before a block was drawn
abbrev pub AnswerIs : Ruling → Items → EntropySeen → EntropySeen → Answer → Type 0
AnswerIs (makes plan) c before after (answers.Made output) =
    (drawn : List Block) × (length drawn ≡ plan.draws) × Draws before after drawn × (output.items ≡ plan.bytes drawn)
    × (length (plan.bytes drawn) ≡ plan.size)
AnswerIs (makes plan) c before after (answers.Undrawn wanted) =
    FellShort before after plan.draws × (wanted ≡ record { size = plan.size; draws = plan.draws })
AnswerIs (makes plan) c before after answers.Memory = Draws before after []
AnswerIs (refused r) c before after (answers.Refused told) =
    (told ≡ record { reason = r.reason; at = r.at; place = place_of r.at c }) × Draws before after []
AnswerIs (refused r) c before after answers.Memory = Draws before after []
AnswerIs too_long c before after answers.TooLong = Draws before after []
AnswerIs too_long c before after answers.Memory = Draws before after []
AnswerIs _ c before after _ = ⊥

-- an output has at most so many bytes
abbrev pub HasAtMost : ℕ → Answer → Type 0
HasAtMost most (answers.Made output) = length output.items ≤ most
HasAtMost most _ = Unit {0}
