-- Each way that a text is read ends otherwise.
use Rattle.ext_json.proofs.Wants.{json_never}
use Rattle.ext_json.proofs.laws.no_text_wants_memory.Goals as goal

pub returns : goal.returns
returns c = record { never = json_never }
