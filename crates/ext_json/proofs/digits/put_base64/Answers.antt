use Rattle.std.proofs.Common.{◌≤◌, [], length, refl, sym, arith, append-nil}
use Rattle.fle_outside.proofs.PartWay.{part_put, part_put_stop, part_end}
use Rattle.base64.specs.Engines.{standard}
use Rattle.base64.specs.GeneralPurpose.{encode_of}
use Rattle.ext_json.proofs.Threes.{base_cut}
use Rattle.ext_json.proofs.digits.put_base64.Goals as goal

pub returns-in-Err : goal.returns-in-Err
returns-in-Err g c =
    let within : 768 ≤ length c.loop-left.left.now = omega (arith, c.loop-left-test.true) in
    record {
      wrote = part_put_stop (encode_of standard c.split_at.result.1.now) c.loop-left.invariant
          (rw (c.split_at.ensures.front, c.split_at.ensures.back) (base_cut 768 c.loop-left.left.now refl within))
          c.in-Err.ensures;
    }

pub loop-left-preserved : goal.loop-left-preserved
loop-left-preserved g c =
    let within : 768 ≤ length c.loop-left.left.now = omega (arith, c.loop-left-test.true) in
    part_put c.loop-left.invariant (rw (c.split_at.ensures.front, c.split_at.ensures.back)
    (base_cut 768 c.loop-left.left.now refl within)) c.in-Ok.ensures

pub returns-in-Ok-put_piece : goal.returns-in-Ok-put_piece
returns-in-Ok-put_piece g c = record {
  wrote = part_end (part_put c.loop-left.invariant
      (sym (append-nil (encode_of standard c.loop-left.left.now))) c.in-Ok-put_piece.ensures);
}

pub returns-in-Err-put_piece : goal.returns-in-Err-put_piece
returns-in-Err-put_piece g c = record {
  wrote = part_put_stop [] c.loop-left.invariant
      (sym (append-nil (encode_of standard c.loop-left.left.now))) c.in-Err-put_piece.ensures;
}
