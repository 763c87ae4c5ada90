-- What a sink has gained by what was written into it.
use Rattle.std.specs.Prelude.{◌≡◌, ℕ, ◌+◌, ◌<◌, ◌≤◌, Option, Result, Ok, Err, List, [], ◌∷◌, ◌++◌, length, OnOk}
use Rattle.std.specs.Prelude.{OnErr, IsOk}
use denote.Ref.{Bor}
use Rattle.fle_outside.specs.Counts.{Rose}
use Rattle.fle_outside.specs.Seen.{Gains, SinkSeen}
use Rattle.fle_outside.specs.declared.answers.Failed.{Failed}

-- a front of the bytes that isn't all of them
abbrev pub IsProperPrefix : List ℕ → List ℕ → Type 0
IsProperPrefix front bytes = (rest : List ℕ) × (0 < length rest) × (bytes ≡ front ++ rest)

-- all of the bytes were written, or a proper prefix of them
abbrev pub Puts : Option (List ℕ) → Option (List ℕ) → Result (Unit {0}) Failed → List ℕ → Type 0
Puts before after (Ok _) bytes = Gains before after bytes
Puts before after (Err _) bytes = (front : List ℕ) × IsProperPrefix front bytes × Gains before after front

-- writing these bytes whole: what was gained; a failure comes only where the count rose, and never where the sink is
-- assured of their number
pub record WritesWhole (before after : SinkSeen) (result : Result (Unit {0}) Failed) (bytes : List ℕ) : Type 0 where
  pub puts : Puts before.told after.told result bytes
  pub later : before.faults ≤ after.faults
  pub cause : OnErr result (Rose before.faults after.faults)
  pub sure : length bytes ≤ before.assured → IsOk result
  pub falls : OnOk result (before.assured ≤ after.assured + length bytes)

-- parts, one after another
abbrev pub joined : List (Bor (List ℕ)) → List ℕ
joined [] = []
joined (part ∷ parts) = part.now ++ joined parts
