-- What reading says, said by the grammar.
use Rattle.std.proofs.Common.{ℕ, arith}
use Rattle.bson_tree.specs.declared.tree.Doc.{Doc}
use Rattle.bson_codec.proofs.Answered.{front_is_found, front_is_only}
use Rattle.bson_codec.proofs.decoding.decode_front.Goals as goal

pub returns-clause-found : goal.returns-clause-found
returns-clause-found c =
    front_is_found (λ (x : Doc × ℕ). (x.0.kids, x.1)) c.args.bytes.now c.front_of.result
    (λ i. omega (arith, c.type_inv.bytes i)) c.front_of.ensures.read

pub returns-clause-only : goal.returns-clause-only
returns-clause-only c = front_is_only (λ (x : Doc × ℕ). (x.0.kids, x.1)) c.args.bytes.now c.front_of.result
    c.front_of.ensures.read
