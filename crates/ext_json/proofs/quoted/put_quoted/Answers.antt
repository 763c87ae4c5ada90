use Rattle.ext_json.proofs.Writing.{put_then, put_stops}
use Rattle.ext_json.proofs.quoted.put_quoted.Goals as goal

pub returns-in-Err : goal.returns-in-Err
returns-in-Err g c = record { wrote = put_stops _ (rw c.quote.ensures.text at c.in-Err.ensures.wrote) }

pub returns-in-Err-put_escaped : goal.returns-in-Err-put_escaped
returns-in-Err-put_escaped g c = record {
  wrote = put_then _ (rw c.quote.ensures.text at c.in-Ok.ensures.wrote)
      (put_stops _ c.in-Err-put_escaped.ensures.wrote);
}

pub returns : goal.returns
returns g c = record {
  wrote = put_then _ (rw c.quote.ensures.text at c.in-Ok.ensures.wrote)
      (put_then _ c.in-Ok-put_escaped.ensures.wrote (rw c.quote-2.ensures.text at c.write_whole-2.ensures.wrote));
}
