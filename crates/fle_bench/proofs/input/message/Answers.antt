use Rattle.std.proofs.Common.{rules}
use Rattle.fle_bench.specs.Message.{message_bytes}
use Rattle.fle_bench.proofs.Messages.{message_bytes-next}
use Rattle.fle_bench.proofs.input.message.Goals as goal

pub loop-i-init : goal.loop-i-init
unfolding message_bytes
loop-i-init c = record { len = search rules; bytes = c.new-bytes.ensures.items }

pub loop-i-preserved : goal.loop-i-preserved
loop-i-preserved c = record {
  len = search rules;
  bytes = cc (message_bytes-next c.loop-i.i, c.in_ok-push.ensures.items);
}
