-- The text and the bytes behind it.
use Rattle.ext_json.proofs.Writing.{put_stops, put_then}
use Rattle.ext_json.proofs.pieces.show_ended.Goals as goal

pub returns-in-Ok : goal.returns-in-Ok
returns-in-Ok g c = record {
  shows = (c.in-Written.ensures.shows.0, put_then _ c.in-Written.ensures.shows.1 c.in-Ok.ensures.wrote);
}

pub returns-in-Err : goal.returns-in-Err
returns-in-Err g c = record {
  shows = (_, put_then _ c.in-Written.ensures.shows.1 c.in-Err.ensures.wrote);
}

pub returns-in-Bad : goal.returns-in-Bad
returns-in-Bad g c = record { shows = c.in-Bad.ensures.shows }

pub returns-in-Failed : goal.returns-in-Failed
returns-in-Failed g c = record {
  shows = (c.in-Failed.ensures.shows.0, put_stops _ c.in-Failed.ensures.shows.1);
}
