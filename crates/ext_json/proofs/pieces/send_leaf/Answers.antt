-- A value through the piece that is empty.
use Rattle.ext_json.proofs.Sending.{piece_is}
use Rattle.ext_json.proofs.pieces.send_leaf.Goals as goal

pub returns-in-Ok : goal.returns-in-Ok
returns-in-Ok g c = record {
  wrote = rw (piece_is _ _ _ c.clear.ensures.items c.in-Ok.ensures.puts) at
      (rw c.deref.ensures.value at c.write_whole.ensures.wrote);
}
