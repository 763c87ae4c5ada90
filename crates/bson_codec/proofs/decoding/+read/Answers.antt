-- The loop over elements: a turn, a fault, the end.
use Rattle.std.proofs.Common.{◌≡◌, ◌<◌, length, arith, sym, ◌∙◌}
use Rattle.std.proofs.lemmas.Bool.{eqb-true, eqb-false}
use Rattle.std.proofs.lemmas.List.{length-drop}
use Rattle.std.proofs.lemmas.Result.{err_from_is_err_and}
use Rattle.bson_tree.specs.View.{tree}
use Rattle.bson_codec.specs.Reading.{First, inside_at}
use Rattle.bson_codec.proofs.Rounds.{goes_on, ends, is_done}
use Rattle.bson_codec.proofs.decoding.+read.Goals as goal

pub elements_of-returns-in_err-name : goal.elements_of-returns-in_err-name
elements_of-returns-in_err-name t c =
    let p = err_from_is_err_and c.from_residual.result c.from_residual.ensures.1 in
    let empty : length c.loop-rest.rest.now ≡ 0 → ⊥ = eqb-false _ _ (sym c.is_empty.ensures ∙ c.loop-rest-test.true) in
    let some : 0 < length c.loop-rest.rest.now = omega arith in
    record {
      read = rw (p.1, p.2) (ends (inside_at c.args.levels) c.loop-rest.kids c.loop-rest.p c.loop-rest.rest.now
          c.in_err-name.field-0.0 _ some c.in_err-name.ensures.read c.loop-rest.invariant.read);
    }

pub elements_of-loop-rest-preserved : goal.elements_of-loop-rest-preserved
elements_of-loop-rest-preserved t c =
    let wide = c.in_ok-name.ensures.fits in
    let first : First = record {
      name = c.in_ok-name.name;
      tree = tree c.in_ok-name.value;
      width = c.in_ok-name.width;
    } in
    let some : 0 < length c.loop-rest.rest.now = omega arith in
    record {
      place = rw c.split_at.ensures.back (omega (arith, length-drop c.in_ok-name.width c.loop-rest.rest.now));
      read = rw (c.split_at.ensures.back, c.in-Ok.ensures.appended)
          (goes_on (inside_at c.args.levels) c.loop-rest.kids c.loop-rest.p c.loop-rest.rest.now first _ some
          c.in_ok-name.ensures.read c.loop-rest.invariant.read);
    }

pub elements_of-returns : goal.elements_of-returns
elements_of-returns t c =
    let none : length c.loop-rest.rest.now ≡ 0 = eqb-true _ _ (sym c.is_empty.ensures ∙ c.loop-rest-test.false) in
    record {
      read = is_done (inside_at c.args.levels) c.loop-rest.kids c.loop-rest.p c.loop-rest.rest.now _ none
          c.loop-rest.invariant.read;
    }
