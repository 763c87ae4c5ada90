use Rattle.std.proofs.Common.{None, Some}
use Rattle.context_machine.proofs.Filled.{put_id}
use Rattle.context_machine.proofs.slots.add_id.Goals as goal

pub returns-in-Ok : goal.returns-in-Ok
returns-in-Ok c = record {
  put = put_id c.args.id c.args.ids.now c.insert.new.self (Some None) c.in-Ok.ensures.updates;
}
