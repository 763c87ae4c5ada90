-- POSIX read(), write(): what a turn of a verb did with the input, the output and the source of blocks, whatever ended
-- it.
use Rattle.std.specs.Prelude.{◌≡◌, ℕ, ◌≤◌, true, Some, List, drop}
use Rattle.bson_tree.specs.Tree.{Items}
use Rattle.fle_outside.specs.Counts.{Rose}
use Rattle.fle_outside.specs.Seen.{EntropySeen, SinkSeen, SourceSeen}
use Rattle.fle_stream.specs.Plan.{draws_of, size_of}
use Rattle.fle_stream.specs.Streams.{doc, document_limit, documents_within}
use Rattle.fle_stream.specs.Task.{Task, course_of, other_limit, spans_of}
use Rattle.fle_stream.specs.Turn.{EndsBy, TurnOf}
use Rattle.fle_stream.specs.declared.turning.Turn.{Turn}
use Rattle.fle_stream.specs.declared.why.Cut.TheVariants as cuts

-- the objects that a turn runs over
pub record Devices : Type 0 where
  pub input : SourceSeen
  pub out : SinkSeen
  pub entropy : EntropySeen

-- the same of its parts: the input, the output and the random blocks
abbrev pub devices : SourceSeen → SinkSeen → EntropySeen → Devices
devices input out entropy = record { input = input; out = out; entropy = entropy }

-- the input tells that it has these bytes left
abbrev pub Has : SourceSeen → List ℕ → Type 0
Has input told = input.told ≡ Some told

-- it tells what it has left of these bytes, from which a document of n bytes was read, the first that stands there
pub record HasRead (t : Task) (n : ℕ) (c : Items) (input : SourceSeen) (told : List ℕ) : Type 0 where
  pub left : input.told ≡ Some (drop n told)
  pub stands : documents_within document_limit (other_limit t) told
      ≡ doc n c (documents_within (other_limit t) document_limit (drop n told))

-- a turn at the document of this number, before which so many bytes were taken: what it did, where `has` says which
-- bytes the input had left before the turn
pub record TurnDid (t : Task) (number taken : ℕ) (has : List ℕ → Type 0) (before after : Devices)
    (turn : Turn) : Type 0 where
  -- it wrote one output or ended the run, as the course of its task says
  pub course : (told : List ℕ) → has told
      → TurnOf (course_of t) (spans_of t) number taken told after.input.told before.entropy after.entropy before.out
      after.out turn
  -- each failure only where its own object counted one, and never where that is assured
  pub in_later : before.input.faults ≤ after.input.faults
  pub in_cause : EndsBy cuts.Input turn → Rose before.input.faults after.input.faults
  pub in_sure : before.input.assured ≡ true → (EndsBy cuts.Input turn → ⊥) × (after.input.assured ≡ true)
  pub out_later : before.out.faults ≤ after.out.faults
  pub out_cause : EndsBy cuts.Output turn → Rose before.out.faults after.out.faults
  pub out_sure : (told : List ℕ) → has told
      → size_of (course_of t number taken told).outputs ≤ before.out.assured → EndsBy cuts.Output turn → ⊥
  pub entropy_later : before.entropy.faults ≤ after.entropy.faults
  pub entropy_cause : EndsBy cuts.Entropy turn → Rose before.entropy.faults after.entropy.faults
  pub entropy_sure : (told : List ℕ) → has told
      → draws_of (course_of t number taken told).outputs ≤ before.entropy.assured → EndsBy cuts.Entropy turn → ⊥
