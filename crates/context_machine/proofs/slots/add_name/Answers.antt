use Rattle.std.proofs.Common.{None, Some}
use Rattle.context_machine.proofs.Filled.{put_name}
use Rattle.context_machine.proofs.slots.add_name.Goals as goal

pub returns-in-Ok : goal.returns-in-Ok
returns-in-Ok c = record {
  put = put_name c.args.name.now c.args.names.now c.insert.new.self (Some None) c.in-Ok.ensures.updates;
}
