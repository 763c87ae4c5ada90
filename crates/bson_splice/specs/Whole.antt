-- A document that is spliced whole
use Rattle.std.specs.Prelude.{◌≡◌, ℕ, ◌+◌, ◌≤◌, Result, Ok, Err, List, [], length, take}
use Rattle.bson_tree.specs.Tree.{Items}
use Rattle.bson_tree.specs.Spelling.{doc_bytes}
use Rattle.bson_tree.specs.Filled.{fill_items}
use Rattle.bson_codec.specs.Borrowed.{At}
use Rattle.bson_splice.specs.declared.putter.Stopped.{Stopped}
use Rattle.bson_splice.specs.Spans.{Span, AreFits, Runs}
use Rattle.bson_splice.specs.Splices.{Put, put_at}
use Rattle.bson_splice.specs.Splicing.{Stops}
use Rattle.bson_splice.specs.Takes.{Takes}

-- the document with what takes the places of its values, by the offsets where they begin
abbrev pub replaced : List Put → At → Items
replaced ps d = fill_items (put_at ps) (d.start + 4) d.tree

-- these places are values of the document: in reading order, each from its first to its last byte, none inside another
abbrev pub StandsAt : List Span → At → Type 0
StandsAt ss d = (ps : List Put) → AreFits ss ps → Takes (d.start + 4) d.tree ps []

-- the document has at most so many bytes, whatever takes the places
abbrev pub HasRoomFor : List Span → At → ℕ → Type 0
HasRoomFor ss d size = (ps : List Put) → AreFits ss ps → length (doc_bytes (replaced ps d)) ≤ size

-- these were put in, one for each place; the front of `new` is the document with them
pub record IsSpliced {S : Type 0} (step : S → S → Put → Type 0) (spans : S → List Span)
    (d : At) (before after : S) (new : List ℕ) (end : ℕ) : Type 0 where
  pub puts : List Put
  pub runs : Runs step before after puts
  pub fits : AreFits (spans before) puts
  pub done : spans after ≡ []
  pub written : take end new ≡ doc_bytes (replaced puts d)
  pub size : end ≡ length (doc_bytes (replaced puts d))

-- what the answer tells: a size, and the document is spliced whole; or a stop, and the part that was spliced
abbrev pub TellsWhole : {S : Type 0} → (S → S → Put → Type 0) → (S → S → Type 0) → (S → List Span)
    → At → S → S → List ℕ → Result ℕ Stopped → Type 0
TellsWhole step stops spans d before after new (Ok end) = IsSpliced step spans d before after new end
TellsWhole step stops spans d before after new (Err _) = Stops step stops before after
