use Rattle.ext_json.proofs.Deepest.{levels_enough}
use Rattle.ext_json.proofs.laws.levels_suffice.Goals as goal

pub returns : goal.returns
returns c = record { same = levels_enough }
