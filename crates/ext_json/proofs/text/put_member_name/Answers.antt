-- The name, or it stops in the name.
use Rattle.ext_json.proofs.Writing.{put_stops, put_then}
use Rattle.ext_json.proofs.text.put_member_name.Goals as goal

pub returns-in-Err : goal.returns-in-Err
returns-in-Err g c = put_stops _ c.in-Err.ensures.wrote

pub returns : goal.returns
returns g c = put_then _ c.in-Ok.ensures.wrote (rw c.colon.ensures.text at c.write_whole.ensures.wrote)
