use Rattle.doc_rewrite.proofs.FreePlaces.{from_places, to_free_places}
use Rattle.doc_rewrite.proofs.laws.free_reading.Goals as goal

pub returns : goal.returns
returns c = record {
  stations = λ rows d h. from_places rows d h;
  places = λ rows d h. to_free_places rows d h;
}
