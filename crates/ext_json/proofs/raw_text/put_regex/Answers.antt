use Rattle.ext_json.proofs.Writing.{put_then, put_stops}
use Rattle.ext_json.proofs.raw_text.put_regex.Goals as goal

pub returns-in-Err : goal.returns-in-Err
returns-in-Err g c = put_stops _ c.in-Err.ensures.wrote

pub returns-in-Err-write_whole : goal.returns-in-Err-write_whole
returns-in-Err-write_whole g c = put_then _ c.in-Ok.ensures.wrote
    (put_stops _ (rw c.middle.ensures.text at c.in-Err-write_whole.ensures.wrote))

pub returns : goal.returns
returns g c = put_then _ c.in-Ok.ensures.wrote (put_then _
    (rw c.middle.ensures.text at c.in-Ok-write_whole.ensures.wrote) c.put_quoted-2.ensures.wrote)
