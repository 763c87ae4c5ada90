-- What a document that is shown comes to.
use Rattle.std.proofs.Common.{◌≡◌, ℕ, Option, Some, None, Ok, Err, List, [], refl, sym, ◌∙◌, ap, subst}
use Rattle.bson_tree.specs.Tree.{Items}
use Rattle.bson_tree.specs.Places.{place_of}
use Rattle.ext_json.specs.BadText.{first_bad}
use Rattle.fle_outside.specs.Seen.{EntropySeen, SinkSeen}
use Rattle.fle_outside.specs.Writing.{WritesWhole}
use Rattle.fle_outside.specs.declared.answers.Failed.{Failed}
use Rattle.fle_outside.proofs.Drawings.{draws_none}
use Rattle.fle_stream.specs.Plan.{DrawsNone, Verdict, draws_in, writes}
use Rattle.fle_stream.specs.Write.{WriteIs}
use Rattle.fle_stream.specs.declared.why.Cut.TheVariants as cuts
use Rattle.fle_stream.specs.declared.why.Finish.TheVariants as finishes
use Rattle.fle_stream.specs.declared.why.Why.TheVariants as whys
use Rattle.fle_runner.specs.Show.{not_text, show_verdict, shown_by, text_line}
use Rattle.fle_runner.specs.Verdicts.{plain_plan}

-- where a document begins that is shown
bad_at : (is : Items) (start : ℕ) (bad : Option ℕ) → start ≡ 0 → first_bad start is ≡ bad → first_bad 0 is ≡ bad
bad_at is start bad whole found = ap (λ (n : ℕ). first_bad n is) (sym whole) ∙ found

-- a document without a bad place comes to its line
line_told : (is : Items) (start : ℕ) → start ≡ 0 → first_bad start is ≡ None
    → show_verdict is ≡ writes (plain_plan (text_line is))
unfolding show_verdict
line_told is start whole found = ap (λ (bad : Option ℕ). shown_by is bad) (bad_at is start None whole found)

-- no document draws a block
shown_draws : (is : Items) (bad : Option ℕ) → draws_in (shown_by is bad) ≡ 0
shown_draws is (Some at) = refl
shown_draws is None = refl

pub show_draws : DrawsNone show_verdict
unfolding show_verdict
show_draws = λ is. shown_draws is (first_bad 0 is)

-- its line was written
pub line_wrote : (is : Items) (start : ℕ) (e : EntropySeen) (out out_after : SinkSeen) → start ≡ 0
    → first_bad start is ≡ None → WritesWhole out out_after (Ok tt) (text_line is)
    → WriteIs (show_verdict is) e e out out_after (Ok tt)
line_wrote is start e out out_after whole found wrote =
    subst (λ (v : Verdict). WriteIs v e e out out_after (Ok tt)) (sym (line_told is start whole found))
    (record { drawn = []; enough = refl; draws = draws_none e; size = refl; wrote = wrote })

-- its line was not written whole
pub line_cut : (is : Items) (start : ℕ) (e : EntropySeen) (out out_after : SinkSeen) (f : Failed) → start ≡ 0
    → first_bad start is ≡ None → WritesWhole out out_after (Err f) (text_line is)
    → WriteIs (show_verdict is) e e out out_after (Err (whys.Cut cuts.Output))
line_cut is start e out out_after f whole found wrote =
    subst (λ (v : Verdict). WriteIs v e e out out_after (Err (whys.Cut cuts.Output)))
    (sym (line_told is start whole found))
    (f, record { drawn = []; enough = refl; draws = draws_none e; size = refl; wrote = wrote })

-- it was refused
pub line_refused : (is : Items) (start at : ℕ) (place : List ℕ) (e : EntropySeen) (out out_after : SinkSeen)
    → start ≡ 0 → first_bad start is ≡ Some at → place ≡ place_of at is → out_after ≡ out
    → WriteIs (show_verdict is) e e out out_after (Err (whys.Finished (finishes.Refused not_text place)))
unfolding show_verdict
line_refused is start at place e out out_after whole found stands same =
    subst (λ (bad : Option ℕ). WriteIs (shown_by is bad) e e out out_after
    (Err (whys.Finished (finishes.Refused not_text place)))) (sym (bad_at is start (Some at) whole found))
    (refl, sym stands, record { draws = draws_none e; same = same })

-- there was no memory for its place
lost_by : (is : Items) (bad : Option ℕ) (e : EntropySeen) (out out_after : SinkSeen) → out_after ≡ out
    → WriteIs (shown_by is bad) e e out out_after (Err (whys.Cut cuts.Memory))
lost_by is (Some at) e out out_after same = record { draws = draws_none e; same = same }
lost_by is None e out out_after same = record { draws = draws_none e; same = same }

pub line_lost : (is : Items) (e : EntropySeen) (out out_after : SinkSeen) → out_after ≡ out
    → WriteIs (show_verdict is) e e out out_after (Err (whys.Cut cuts.Memory))
unfolding show_verdict
line_lost is e out out_after same = lost_by is (first_bad 0 is) e out out_after same
