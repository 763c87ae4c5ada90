-- A value is spelled exactly where checking takes all of its bytes.
use Rattle.std.proofs.Common.{sym, arith}
use Rattle.bson_codec.proofs.Values.{no_type, value_judged, value_refused}
use Rattle.bson_codec.proofs.checking.check_value.Goals as goal

pub returns-in-None : goal.returns-in-None
returns-in-None c = record { spelled = no_type c.args.levels c.args.tag c.args.bytes.now (sym c.in-None.ensures.row) }

pub returns-in-Ok : goal.returns-in-Ok
returns-in-Ok c =
    record {
      spelled = value_judged c.args.levels c.args.tag c.in-Some.layout c.args.bytes.now
          (sym c.in-Some.ensures.row) c.in-Ok.n (λ i. omega (arith, c.type_inv.bytes i)) (sym c.in-Ok.ensures.read);
    }

pub returns-in-Err : goal.returns-in-Err
returns-in-Err c =
    record {
      spelled = value_refused c.args.levels c.args.tag c.in-Some.layout c.args.bytes.now
          (sym c.in-Some.ensures.row) c.in-Err.field-0 (sym c.in-Err.ensures.read);
    }
