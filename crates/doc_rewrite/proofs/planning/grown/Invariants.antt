use Rattle.std.proofs.Common.{◌≡◌, ◌+◌, ◌*◌, ◌≤◌, drop}
use Rattle.doc_rewrite.specs.Plans.{AreLong}
use Rattle.doc_rewrite.specs.Sites.{grown}
use Rattle.doc_rewrite.proofs.planning.grown.Given as goal

abbrev pub invariant-loop-i : goal.invariant-loop-i
invariant-loop-i l = record {
  bytes : l.bytes + grown (drop l.i l.sites) ≡ grown l.sites;
  few : l.bytes ≤ 87 * l.i;
  long : AreLong (drop l.i l.sites) → AreLong l.sites;
}
