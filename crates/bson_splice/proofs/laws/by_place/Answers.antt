use Rattle.bson_splice.proofs.Places.{by_places}
use Rattle.bson_splice.proofs.laws.by_place.Goals as goal

pub returns : goal.returns
returns c = record { place = by_places }
