use Rattle.ext_json.proofs.Writing.{put_then, put_stops}
use Rattle.ext_json.proofs.text.put_code.Goals as goal

pub returns-in-Err : goal.returns-in-Err
returns-in-Err g c = put_stops _ (rw c.head.ensures.text at c.in-Err.ensures.wrote)

pub returns-in-Err-put_quoted : goal.returns-in-Err-put_quoted
returns-in-Err-put_quoted g c = put_then _ (rw c.head.ensures.text at c.in-Ok.ensures.wrote)
    (put_stops _ c.in-Err-put_quoted.ensures.wrote)

pub returns : goal.returns
returns g c = put_then _ (rw c.head.ensures.text at c.in-Ok.ensures.wrote)
    (put_then _ c.in-Ok-put_quoted.ensures.wrote (rw c.middle.ensures.text at c.write_whole-2.ensures.wrote))
