-- What a verb did where it stopped before the input.
use Rattle.std.proofs.Common.{◌+◌, ◌≡◌, ℕ, Option, Some, List, [], refl, sym, subst, arith}
use Rattle.fle_outside.specs.Seen.{EntropySeen, SinkSeen}
use Rattle.fle_outside.proofs.Drawings.{draws_none}
use Rattle.fle_stream.specs.Acted.{EndsAs}
use Rattle.fle_stream.specs.Did.{Did}
use Rattle.bson_tree.specs.Tree.{Items}
use Rattle.fle_stream.specs.Pairs.{Pairing}
use Rattle.fle_stream.specs.Plan.{Verdict}
use Rattle.fle_stream.specs.Turn.{IsOfStream}
use Rattle.fle_stream.specs.Outcome.{Outcome, finished}
use Rattle.fle_stream.specs.Run.{EndsIn, Ran}
use Rattle.fle_stream.specs.Task.{Task, each, pairs, fails, outcome_of, spans_of, start_of}
use Rattle.fle_stream.specs.declared.why.Finish.{Finish}
use Rattle.fle_stream.specs.declared.why.Cut.TheVariants as cuts
use Rattle.fle_stream.specs.declared.why.Why.{Why}
use Rattle.fle_stream.specs.declared.why.Why.TheVariants as whys
use Rattle.fle_stream.proofs.Judgings.{gains_none, memory_none}

-- a run that wrote nothing
abbrev ran_none : (o : Outcome) (start : ℕ) (told : List ℕ) (after : Option (List ℕ)) (spans : List ℕ
    → List ℕ) (entropy : EntropySeen) (out : SinkSeen) (number : ℕ) (why : Why)
    → EndsIn why number o o.outputs [] [] (start + 0) 0 (spans told) told after
    → Ran o start told after spans entropy entropy out out number why
ran_none o start told after spans entropy out number why end = record {
  done = [];
  rest = o.outputs;
  split = refl;
  first = [];
  more = [];
  enough = refl;
  draws = draws_none entropy;
  part = [];
  gains = gains_none out.told;
  end = end;
}

-- the task is this one
pub did_task : {t u : Task} {told : List ℕ} {after : Option (List ℕ)} {entropy entropy_after : EntropySeen}
    {out out_after : SinkSeen} {number : ℕ} {why : Why}
    → t ≡ u → Did u told after entropy entropy_after out out_after number why
    → Did t told after entropy entropy_after out out_after number why
did_task {told = told} {after = after} {entropy = entropy} {entropy_after = entropy_after} {out = out}
    {out_after = out_after} {number = number} {why = why} is did =
    subst (λ (x : Task). Did x told after entropy entropy_after out out_after number why) (sym is) did

pub ends_task : {t u : Task} (why : Why) → t ≡ u → EndsAs u why → EndsAs t why
ends_task why is ends = subst (λ (x : Task). EndsAs x why) (sym is) ends

-- the words or a file are at fault
pub did_fail : (finish : Finish) (told : List ℕ) (after : Option (List ℕ)) (entropy : EntropySeen) (out : SinkSeen)
    → after ≡ Some told → Did (fails finish) told after entropy entropy out out 0 (whys.Finished finish)
did_fail finish told after entropy out is = record {
  ran = ran_none (finished finish 0 0) 0 told after (spans_of (fails finish)) entropy out 0 (whys.Finished finish)
      (record { same = refl; at = refl; all = refl; undrawn = refl; unwritten = refl; left = is });
  unread = λ _. refl;
}

-- a named file failed
pub did_folder : (t : Task) (told : List ℕ) (after : Option (List ℕ)) (entropy : EntropySeen) (out : SinkSeen)
    → after ≡ Some told → Did t told after entropy entropy out out 0 (whys.Cut cuts.Folder)
did_folder t told after entropy out is = record {
  ran = ran_none (outcome_of t told) (start_of t) told after (spans_of t) entropy out 0 (whys.Cut cuts.Folder)
      ((refl, refl), is);
  unread = λ _. refl;
}

-- there was no memory before the input was read
pub did_memory : (t : Task) (told : List ℕ) (after : Option (List ℕ)) (entropy : EntropySeen) (out : SinkSeen)
    → after ≡ Some told → Did t told after entropy entropy out out 0 (whys.Cut cuts.Memory)
did_memory t told after entropy out is = record {
  ran = ran_none (outcome_of t told) (start_of t) told after (spans_of t) entropy out 0 (whys.Cut cuts.Memory)
      (memory_none (outcome_of t told).outputs, (0, omega arith, is));
  unread = λ _. refl;
}

-- a stream was judged
pub ends_each : (v : Items → Verdict) (why : Why) → IsOfStream why → EndsAs (each v) why
ends_each v (whys.Finished finish) kind = kind
ends_each v (whys.Cut cuts.Folder) kind = tt
ends_each v (whys.Cut cuts.Input) kind = kind
ends_each v (whys.Cut cuts.Output) kind = kind
ends_each v (whys.Cut cuts.Entropy) kind = kind
ends_each v (whys.Cut cuts.Memory) kind = tt

-- a stream was judged pair by pair
pub ends_pairs : (w : Pairing) (why : Why) → IsOfStream why → EndsAs (pairs w) why
ends_pairs w (whys.Finished finish) kind = kind
ends_pairs w (whys.Cut cuts.Folder) kind = tt
ends_pairs w (whys.Cut cuts.Input) kind = kind
ends_pairs w (whys.Cut cuts.Output) kind = kind
ends_pairs w (whys.Cut cuts.Entropy) kind = kind
ends_pairs w (whys.Cut cuts.Memory) kind = tt
