-- What checking says, said by reading and by the grammar.
use Rattle.std.proofs.Common.{arith, sym, refl}
use Rattle.bson_codec.proofs.Views.{checked, checked_spells, checked_only, refused_only, spelled_doc, spells_itself}
use Rattle.bson_codec.proofs.borrowed.check_bson.Goals as goal

pub invariant_of-result : goal.invariant_of-result
invariant_of-result c = (
  omega (arith, c.requires),
  checked_spells c.args.bytes.now c.in-Ok.field-0 (λ i. omega (arith, c.type_inv.bytes i))
      (sym c.in-Ok.ensures.read),
)

pub returns-in-Ok-clause-found : goal.returns-in-Ok-clause-found
returns-in-Ok-clause-found c =
    let spells = checked_spells c.args.bytes.now c.in-Ok.field-0 (λ i. omega (arith, c.type_inv.bytes i))
    (sym c.in-Ok.ensures.read) in
    (spelled_doc c.args.bytes.now spells, spells_itself c.args.bytes.now spells, refl)

pub returns-in-Ok-clause-only : goal.returns-in-Ok-clause-only
returns-in-Ok-clause-only c = checked_only c.args.bytes.now c.in-Ok.field-0 (sym c.in-Ok.ensures.read)

pub returns-in-Ok-clause-exact : goal.returns-in-Ok-clause-exact
returns-in-Ok-clause-exact c = checked c.args.bytes.now c.in-Ok.field-0 (sym c.in-Ok.ensures.read)

pub returns-in-Err-clause-only : goal.returns-in-Err-clause-only
returns-in-Err-clause-only c = refused_only c.args.bytes.now c.in-Err.fault (sym c.in-Err.ensures.read)
