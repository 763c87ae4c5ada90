use Rattle.doc_rewrite.specs.SealedTrees.{IsSealedUse}
use Rattle.doc_rewrite.proofs.FromPlaces.{by_stations}
use Rattle.doc_rewrite.proofs.ToPlaces.{to_places}
use Rattle.doc_rewrite.proofs.laws.one_reading.Goals as goal

pub returns : goal.returns
returns c = record {
  stations = λ keys rows d e h. by_stations (IsSealedUse keys) rows d e h;
  places = λ keys rows d e h. to_places (IsSealedUse keys) rows d e h;
}
