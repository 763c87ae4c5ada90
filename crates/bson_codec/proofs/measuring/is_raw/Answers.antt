-- Reading takes all of the bytes exactly where they have the layout.
use Rattle.std.proofs.Common.{sym, arith}
use Rattle.bson_codec.proofs.Measures.{raw_is_laid, raw_is_not}
use Rattle.bson_codec.proofs.measuring.is_raw.Goals as goal

pub returns-in-Ok : goal.returns-in-Ok
returns-in-Ok c = record {
  laid = raw_is_laid c.args.levels c.args.layout c.args.bytes.now c.in-Ok.n
      (λ i. omega (arith, c.type_inv.bytes i)) (sym c.in-Ok.ensures.read);
}

pub returns-in-Err : goal.returns-in-Err
returns-in-Err c = record {
  laid = raw_is_not c.args.levels c.args.layout c.args.bytes.now c.in-Err.field-0
      (sym c.in-Err.ensures.read);
}
