-- The parts of the element at the front, by the grammar.
use Rattle.std.proofs.Common.{sym}
use Rattle.bson_codec.proofs.Fronts.{parted, unparted}
use Rattle.bson_codec.proofs.front.parts_of.Goals as goal

pub returns-in-Err : goal.returns-in-Err
returns-in-Err c = record {
  parts = unparted c.args.bytes.now c.in-Err.field-0 c.requires.spelled
      (sym c.in-Err.ensures.read);
}

pub returns-in-Ok : goal.returns-in-Ok
returns-in-Ok c =
    let p = parted c.args.bytes.now c.in-Ok.front c.requires.spelled (sym c.in-Ok.ensures.read) in
    record {
      parts = rw (
        c.split_at-in-Ok-3.ensures.front,
        c.split_at-in-Ok-3.ensures.back,
        c.split_at-in-Ok-2.ensures.back,
        c.split_at-in-Ok.ensures.front,
        c.split_at-in-Ok.ensures.back,
        c.split_at.ensures.back,
      ) p;
    }
