use Rattle.std.proofs.Common.{drop}
use Rattle.doc_rewrite.specs.Keys.{key_in}
use Rattle.doc_rewrite.specs.Sealing.{HasKeys}
use Rattle.fle_bench.proofs.sealing.sites_keyed.Given as goal

abbrev pub invariant-loop-i : goal.invariant-loop-i
invariant-loop-i l = HasKeys (key_in l.keys) (drop l.i l.sites) → HasKeys (key_in l.keys) l.sites
