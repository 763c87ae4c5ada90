-- Texts through a piece that is filled and written again and again.
use Rattle.std.specs.Prelude.{◌≡◌, Result, Ok, Err, Option, Some, None, List, ℕ, ◌++◌}
use Rattle.fle_outside.specs.Seen.{SinkSeen}
use Rattle.fle_outside.specs.Writing.{WritesWhole}
use Rattle.fle_outside.specs.declared.answers.Failed.{Failed}
use Rattle.ext_json.specs.declared.showing.Shown.{Shown}
use Rattle.ext_json.specs.declared.showing.Shown.TheVariants as ends

-- what was held and the text behind it are written but for what is held now; or a proper prefix of both is written
abbrev pub Sends : List ℕ → List ℕ → SinkSeen → SinkSeen → Result (Unit {0}) Failed → List ℕ → Type 0
Sends held left before after (Ok u) written =
    (put : List ℕ) × (held ++ written ≡ put ++ left) × WritesWhole before after (Ok u) put
Sends held left before after (Err f) written = WritesWhole before after (Err f) (held ++ written)

-- no place is bad and the text is written whole; or `bad` is the place and nothing is written; or no place is bad and a
-- proper prefix of the text is written
abbrev pub ShowsWhole : SinkSeen → SinkSeen → Shown → Option ℕ → List ℕ → Type 0
ShowsWhole before after ends.Written bad text = (bad ≡ None) × WritesWhole before after (Ok tt) text
ShowsWhole before after (ends.Bad at) bad text = (bad ≡ Some at) × (after ≡ before)
ShowsWhole before after ends.Failed bad text = (bad ≡ None) × (f : Failed) × WritesWhole before after (Err f) text
