-- The byte, or it stops before the byte.
use Rattle.ext_json.proofs.Writing.{put_stops, put_then}
use Rattle.ext_json.proofs.quoted.put_control.Goals as goal

pub returns-in-Err : goal.returns-in-Err
returns-in-Err g c = put_stops _ (rw c.control.ensures.text at c.in-Err.ensures.wrote)

pub returns : goal.returns
returns g c = put_then _ (rw c.control.ensures.text at c.in-Ok.ensures.wrote) c.put_byte.ensures.wrote
