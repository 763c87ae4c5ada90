-- Both are read as the same infos.
use Rattle.fle_runner.proofs.JsonMarks.{json_marks, json_pairs, json_seals}
use Rattle.fle_runner.proofs.laws.json_infos_are_their_bson.Goals as goal

pub returns : goal.returns
returns c = record { mark = json_marks; encrypt = json_seals; encrypt_with = json_pairs }
