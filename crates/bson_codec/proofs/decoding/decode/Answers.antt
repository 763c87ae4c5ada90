-- What reading says, said by the grammar.
use Rattle.std.proofs.Common.{arith}
use Rattle.bson_tree.specs.declared.tree.Doc.{Doc}
use Rattle.bson_codec.proofs.Answered.{is_found, is_only}
use Rattle.bson_codec.proofs.decoding.decode.Goals as goal

pub returns-clause-found : goal.returns-clause-found
returns-clause-found c = is_found (λ (d : Doc). d.kids) c.args.bytes.now c.whole_of.result
    (λ i. omega (arith, c.type_inv.bytes i)) c.whole_of.ensures.read

pub returns-clause-only : goal.returns-clause-only
returns-clause-only c = is_only (λ (d : Doc). d.kids) c.args.bytes.now c.whole_of.result c.whole_of.ensures.read
