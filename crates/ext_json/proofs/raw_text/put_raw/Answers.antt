use Rattle.ext_json.proofs.Writing.{put_then, put_stops}
use Rattle.ext_json.proofs.raw_text.put_raw.Goals as goal

pub returns-in-Err : goal.returns-in-Err
returns-in-Err g c = record { wrote = λ D other. put_stops _ (rw c.head.ensures.text at c.in-Err.ensures.wrote) }

pub returns-in-Err-put_body : goal.returns-in-Err-put_body
returns-in-Err-put_body g c = record {
  wrote = λ D other. put_then _ (rw c.head.ensures.text at c.in-Ok.ensures.wrote)
      (put_stops _ (c.in-Err-put_body.ensures D other));
}

pub returns : goal.returns
returns g c = record {
  wrote = λ D other. put_then _ (rw c.head.ensures.text at c.in-Ok.ensures.wrote)
      (put_then _ (c.in-Ok-put_body.ensures D other) (rw c.tail.ensures.text at c.write_whole-2.ensures.wrote));
}
