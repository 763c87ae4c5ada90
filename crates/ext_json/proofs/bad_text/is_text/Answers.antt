use Rattle.ext_json.proofs.Tested.{text_tested}
use Rattle.ext_json.proofs.bad_text.is_text.Goals as goal

pub returns : goal.returns
returns c = text_tested c.is_utf8.result c.args.bytes.now c.is_utf8.ensures
