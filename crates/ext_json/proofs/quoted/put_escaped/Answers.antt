use Rattle.std.proofs.Common.{sym, ◌∙◌}
use Rattle.fle_outside.proofs.PartWay.{part_put, part_put_stop, part_end}
use Rattle.ext_json.specs.Quoted.{escaped}
use Rattle.ext_json.proofs.Escapes.{escaped_cut, escaped_end}
use Rattle.ext_json.proofs.quoted.put_escaped.Goals as goal

pub returns-in-Err : goal.returns-in-Err
returns-in-Err g c = record {
  wrote = part_put_stop (escaped c.split_at.result.1.now) c.loop-left.invariant
      (rw (c.split_at.ensures.front, c.split_at.ensures.back)
      (escaped_cut c.front_length-n.result c.loop-left.left.now)) c.in-Err.ensures;
}

pub loop-left-preserved : goal.loop-left-preserved
loop-left-preserved g c =
    part_put c.loop-left.invariant (rw (c.split_at.ensures.front, c.split_at.ensures.back)
    (escaped_cut c.front_length-n.result c.loop-left.left.now)) c.in-Ok.ensures

pub returns : goal.returns
returns g c = record {
  wrote = part_end (rw (escaped_end c.loop-left.left.now (sym c.is_empty.ensures ∙ c.loop-left-test.false)) at
      c.loop-left.invariant);
}
