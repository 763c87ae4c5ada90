-- A text that is sent in pieces, and the bytes behind it.
use Rattle.std.proofs.Common.{sym}
use Rattle.ext_json.proofs.Writing.{put_then, put_stops}
use Rattle.ext_json.proofs.pieces.show_long.Goals as goal

pub returns-in-Err : goal.returns-in-Err
returns-in-Err g c = record {
  shows = (sym c.in-None.ensures.first, _, put_stops _ c.in-Err.ensures.text);
}

pub returns-in-Err-write_whole : goal.returns-in-Err-write_whole
returns-in-Err-write_whole g c = record {
  shows = (sym c.in-None.ensures.first, _, put_then _ c.in-Ok.ensures.text c.in-Err-write_whole.ensures.wrote);
}
