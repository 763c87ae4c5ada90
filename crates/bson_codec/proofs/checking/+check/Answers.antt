-- The loop over elements: a turn, a fault, the end.
use Rattle.std.proofs.Common.{◌≡◌, ◌<◌, length, arith, sym, ◌∙◌}
use Rattle.std.proofs.lemmas.Bool.{eqb-true, eqb-false}
use Rattle.std.proofs.lemmas.List.{length-drop}
use Rattle.std.proofs.lemmas.Result.{err_from_is_err_and}
use Rattle.bson_codec.specs.Reading.{inside_at}
use Rattle.bson_codec.proofs.Rounds.{check_goes_on, check_ends, check_done}
use Rattle.bson_codec.proofs.checking.+check.Goals as goal

pub check_elements-returns-in_err-width : goal.check_elements-returns-in_err-width
check_elements-returns-in_err-width t c =
    let p = err_from_is_err_and c.from_residual.result c.from_residual.ensures.1 in
    let empty : length c.loop-rest.rest.now ≡ 0 → ⊥ = eqb-false _ _ (sym c.is_empty.ensures ∙ c.loop-rest-test.true) in
    let some : 0 < length c.loop-rest.rest.now = omega arith in
    record {
      read = rw (p.1, p.2) (check_ends (inside_at c.args.levels) c.loop-rest.p c.loop-rest.rest.now
          c.in_err-width.field-0.0 _ some (sym c.in_err-width.ensures.read) c.loop-rest.invariant.read);
    }

pub check_elements-loop-rest-preserved : goal.check_elements-loop-rest-preserved
check_elements-loop-rest-preserved t c =
    let wide = c.in_ok-width.ensures.fits in
    let some : 0 < length c.loop-rest.rest.now = omega arith in
    record {
      place = rw c.split_at.ensures.back (omega (arith, length-drop c.in_ok-width.width c.loop-rest.rest.now));
      read = rw c.split_at.ensures.back (check_goes_on
          (inside_at c.args.levels) c.loop-rest.p c.loop-rest.rest.now c.in_ok-width.width _ some
          (sym c.in_ok-width.ensures.read) c.loop-rest.invariant.read);
    }

pub check_elements-returns : goal.check_elements-returns
check_elements-returns t c =
    let none : length c.loop-rest.rest.now ≡ 0 = eqb-true _ _ (sym c.is_empty.ensures ∙ c.loop-rest-test.false) in
    record {
      read = check_done (inside_at c.args.levels) c.loop-rest.p c.loop-rest.rest.now _ none
          c.loop-rest.invariant.read;
    }
