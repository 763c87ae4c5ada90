-- Writing the text of a document in the walk that looks for the first place that isn't UTF-8.
use Rattle.std.specs.Prelude.{◌≡◌, ℕ, Bool, true, false, Option, Some, None, Ok, Err, List, [], ◌∷◌}
use Rattle.fle_outside.specs.Seen.{SinkSeen}
use Rattle.fle_outside.specs.Writing.{WritesWhole}
use Rattle.fle_outside.specs.declared.answers.Failed.{Failed}
use Rattle.ext_json.specs.declared.showing.Shown.{Shown}
use Rattle.ext_json.specs.declared.showing.Shown.TheVariants as ends

-- no place is bad and the text is written whole; or `bad` is the place; or a proper prefix of the text is written
abbrev pub Shows : SinkSeen → SinkSeen → Shown → Option ℕ → List ℕ → Type 0
Shows before after ends.Written bad text = (bad ≡ None) × WritesWhole before after (Ok tt) text
Shows before after (ends.Bad at) bad text = bad ≡ Some at
Shows before after ends.Failed bad text = (f : Failed) × WritesWhole before after (Err f) text

-- RFC 8259, sections 4 and 5: what stands before an element, which is nothing before the first one
abbrev pub separator : Bool → List ℕ
separator true = []
separator false = 44 ∷ []
