-- What the judge answered is what is written.
use Rattle.fle_stream.proofs.Writings.{judged_long, judged_refused, judged_undrawn, judged_unkept, judged_unwritten}
use Rattle.fle_stream.proofs.Writings.{judged_written}
use Rattle.fle_stream.proofs.judging.write_judged.Goals as goal

pub returns-in-Ok : goal.returns-in-Ok
returns-in-Ok g c = record {
  wrote = λ v before now says.
      let judged = rw c.in-Written.is at says in
      let wrote = rw (c.deref.ensures.value, c.in-Ok.is) at c.write_whole.ensures.wrote in
      judged_written v before now _ _ c.in-Written.output _ judged wrote;
}

pub returns-in-Written : goal.returns-in-Written
returns-in-Written g c = record {
  wrote = λ v before now says.
      let judged = rw c.in-Written.is at says in
      let wrote = rw (c.deref.ensures.value, c.in-Err.is) at c.write_whole.ensures.wrote in
      judged_unwritten v before now _ _ c.in-Written.output _ judged wrote;
}

pub returns-in-Refused : goal.returns-in-Refused
returns-in-Refused g c = record {
  wrote = λ v before now says.
      judged_refused v before now _ c.in-Refused.reason c.in-Refused.place (rw c.in-Refused.is at says);
}

pub returns-in-TooLong : goal.returns-in-TooLong
returns-in-TooLong g c = record {
  wrote = λ v before now says. judged_long v before now _ (rw c.in-TooLong.is at says);
}

pub returns-in-Undrawn : goal.returns-in-Undrawn
returns-in-Undrawn g c = record {
  wrote = λ v before now says. judged_undrawn v before now _ (rw c.in-Undrawn.is at says);
}

pub returns : goal.returns
returns g c = record {
  wrote = λ v before now says. judged_unkept v before now _ (rw c.in-Memory.is at says);
}
