use Rattle.std.proofs.Common.{◌≡◌, length}
use Rattle.fle_bench.specs.Message.{message_bytes}
use Rattle.fle_bench.proofs.input.message.Given as goal

abbrev pub invariant-loop-i : goal.invariant-loop-i
invariant-loop-i l = record {
  len : length l.bytes.items ≡ l.i;
  bytes : l.bytes.items ≡ message_bytes l.i;
}
