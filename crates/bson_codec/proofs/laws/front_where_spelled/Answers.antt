-- What is spelled at the front is read there.
use Rattle.bson_codec.proofs.Grammar.{front_read}
use Rattle.bson_codec.proofs.laws.front_where_spelled.Goals as goal

pub returns : goal.returns
returns c = record { read = front_read }
