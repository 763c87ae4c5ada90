-- Both directions of reading, at the document's own bytes.
use Rattle.bson_codec.proofs.Grammar.{read_back}
use Rattle.bson_codec.proofs.laws.read_back_where_spelled.Goals as goal

pub returns : goal.returns
returns c = record { document = read_back }
