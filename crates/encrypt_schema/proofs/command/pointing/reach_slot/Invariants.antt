-- The places so far have what they had.
use Rattle.std.proofs.Common.{◌≡◌, ◌+◌, ◌-◌, ℕ, length}
use Rattle.encrypt_schema.specs.Views.Slots.{nth_known}
use Rattle.encrypt_schema.proofs.command.pointing.reach_slot.Given as goal

abbrev pub invariant-loop-names : goal.invariant-loop-names
invariant-loop-names l = (s : ℕ) → nth_known l.names.items s ≡ nth_known l.fn.names.items s

abbrev pub decreases-loop-names : goal.decreases-loop-names
decreases-loop-names l = l.slot + 1 - length l.names.items
