use Rattle.std.proofs.Common.{◌≡◌, ◌<◌, ◌≤◌, length, map, take}
use Rattle.std.specs.Prelude.{IfSome}
use Rattle.doc_rewrite.specs.Finding.{found_at}
use Rattle.doc_rewrite.specs.Founds.{payloads_of}
use Rattle.doc_rewrite.specs.Opening.{room_to_open}
use Rattle.fle_bench.specs.Documents.{opened_bytes}
use Rattle.fle_bench.proofs.opening.open.Given as goal

abbrev pub invariant-loop-turn : goal.invariant-loop-turn
invariant-loop-turn l = record {
  room : room_to_open l.document (map found_at (payloads_of l.document)) ≤ length l.out;
  opened : 0 < l._turn → IfSome l.opened (λ n. take n l.out ≡ opened_bytes l.keys l.document);
}
