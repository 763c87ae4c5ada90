use Rattle.context_machine.proofs.Alike.{keyless_stops, misshapen_stops}
use Rattle.context_machine.proofs.laws.keyless_stops.Goals as goal

pub returns : goal.returns
returns c = record { misshapen = misshapen_stops; keyless = keyless_stops }
