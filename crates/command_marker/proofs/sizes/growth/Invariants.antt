use Rattle.std.proofs.Common.{◌≡◌, ◌+◌, ◌*◌, ◌≤◌, drop}
use Rattle.command_marker.specs.Splices.{added}
use Rattle.command_marker.specs.Written.{growth_by}
use Rattle.command_marker.proofs.sizes.growth.Given as goal

abbrev pub invariant-loop-i : goal.invariant-loop-i
invariant-loop-i l = record {
  most : l.sum ≤ 48000046 * l.i;
  whole : l.sum + added (growth_by l.rows l.command) (drop l.i l.marks) ≡ added (growth_by l.rows l.command) l.marks;
}
