-- The reply is what the command comes to.
use Rattle.fle_engine.proofs.Replied.{reply_made}
use Rattle.fle_engine.proofs.marker.answer_reply.Goals as goal

pub returns-in-Ok : goal.returns-in-Ok
returns-in-Ok c = record {
  answers = λ bytes d e says. let is = rw c.in-Ok.is at says in reply_made bytes d c.in-Ok.bytes e is.0 is.1;
}
