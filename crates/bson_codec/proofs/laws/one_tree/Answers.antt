-- The same bytes are read as one tree.
use Rattle.bson_codec.proofs.Grammar.{same_tree}
use Rattle.bson_codec.proofs.laws.one_tree.Goals as goal

pub returns : goal.returns
returns c = record { same = same_tree }
