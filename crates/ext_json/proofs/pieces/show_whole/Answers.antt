-- A text that fits the piece is written by one call.
use Rattle.ext_json.proofs.Sending.{piece_is}
use Rattle.ext_json.proofs.pieces.show_whole.Goals as goal

pub returns-in-Ok : goal.returns-in-Ok
returns-in-Ok g c = record {
  shows = (
    c.in-Written.ensures.shows.0,
    rw (piece_is _ _ _ c.clear.ensures.items c.in-Written.ensures.shows.1.puts) at
        (rw c.deref.ensures.value at c.in-Ok.ensures.wrote),
  );
}

pub returns-in-Err : goal.returns-in-Err
returns-in-Err g c = record {
  shows = (
    c.in-Written.ensures.shows.0,
    _,
    rw (piece_is _ _ _ c.clear.ensures.items c.in-Written.ensures.shows.1.puts) at
        (rw c.deref.ensures.value at c.in-Err.ensures.wrote),
  );
}
