use Rattle.std.proofs.Common.{◌≡◌, ◌<◌}
use Rattle.std.specs.Prelude.{IsTrue}
use Rattle.doc_rewrite.specs.Sites.{sites_of}
use Rattle.fle_bench.specs.Documents.{sealed_bytes}
use Rattle.fle_bench.proofs.sealing.seal.Given as goal

abbrev pub invariant-loop-turn : goal.invariant-loop-turn
invariant-loop-turn l = 0 < l._turn → IsTrue l.done → l.out ≡ sealed_bytes l.keys
    (sites_of l.rows l.document l.marks) l.document
