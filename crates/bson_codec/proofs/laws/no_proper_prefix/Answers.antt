-- The same bytes have one document at their front.
use Rattle.bson_codec.proofs.Grammar.{nothing_follows}
use Rattle.bson_codec.proofs.laws.no_proper_prefix.Goals as goal

pub returns : goal.returns
returns c = record { nothing_behind = nothing_follows }
