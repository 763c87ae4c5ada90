-- By the offsets that lie within a value.
use Rattle.bson_codec.proofs.Offsets.{same_place}
use Rattle.bson_codec.proofs.Spots.{place_begun, place_of_head}
use Rattle.bson_codec.proofs.laws.one_place.Goals as goal

pub returns : goal.returns
returns c = record { distinct = same_place; begun = λ is place at. place_begun at is place; head = place_of_head }
