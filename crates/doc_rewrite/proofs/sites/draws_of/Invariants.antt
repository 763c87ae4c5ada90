use Rattle.std.proofs.Common.{◌≡◌, ◌+◌, ◌≤◌, drop}
use Rattle.doc_rewrite.specs.Sites.{draws_of}
use Rattle.doc_rewrite.proofs.sites.draws_of.Given as goal

abbrev pub invariant-loop-i : goal.invariant-loop-i
invariant-loop-i l = record {
  blocks : l.blocks + draws_of (drop l.i l.sites) ≡ draws_of l.sites;
  few : l.blocks ≤ l.i;
}
