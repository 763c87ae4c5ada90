-- Both directions of reading.
use Rattle.bson_codec.proofs.Grammar.{tree_read, no_fault}
use Rattle.bson_codec.proofs.laws.no_fault_where_spelled.Goals as goal

pub returns : goal.returns
returns c = record { tree = tree_read; fault = no_fault }
