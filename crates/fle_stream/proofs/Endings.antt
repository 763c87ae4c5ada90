-- What an end without a failure leaves undone: nothing.
use Rattle.std.proofs.Common.{◌≡◌, ℕ, Option, List, [], ◌++◌, refl, sym, ◌∙◌, ap, subst, append-nil}
use Rattle.fle_outside.specs.Blocks.{Block}
use Rattle.fle_outside.specs.Counts.{Rose}
use Rattle.fle_outside.specs.Seen.{Draws, EntropySeen, Gains, SinkSeen}
use Rattle.fle_stream.specs.Codes.{status_of, status_of_finish}
use Rattle.fle_stream.specs.Ended.{Whole, IsSettled, World, Unfailed}
use Rattle.fle_stream.specs.Outcome.{Outcome}
use Rattle.fle_stream.specs.Plan.{Output, draws_of, written}
use Rattle.fle_stream.specs.Run.{EndsIn, Ran}
use Rattle.fle_stream.specs.declared.status.Status.{Status}
use Rattle.fle_stream.specs.declared.status.Status.TheVariants as statuses
use Rattle.fle_stream.specs.declared.why.Cut.TheVariants as cuts
use Rattle.fle_stream.specs.declared.why.Why.{Why}
use Rattle.fle_stream.specs.declared.why.Why.TheVariants as whys

pub record NothingLeft (rest : List Output) (more : List Block) (part : List ℕ) : Type 0 where
  pub outputs : rest ≡ []
  pub blocks : more ≡ []
  pub bytes : part ≡ []

nothing_left : (why : Why) (number : ℕ) (o : Outcome) (rest : List Output) (more : List Block) (part : List ℕ)
    (first read : ℕ) (spans told : List ℕ) (after : Option (List ℕ))
    → IsSettled (status_of why) → EndsIn why number o rest more part first read spans told after
    → NothingLeft rest more part
nothing_left (whys.Finished finish) number o rest more part first read spans told after settled end =
    record { outputs = end.all; blocks = end.undrawn; bytes = end.unwritten }
nothing_left (whys.Cut cuts.Folder) number o rest more part first read spans told after settled end = absurd settled
nothing_left (whys.Cut cuts.Input) number o rest more part first read spans told after settled end = absurd settled
nothing_left (whys.Cut cuts.Output) number o rest more part first read spans told after settled end = absurd settled
nothing_left (whys.Cut cuts.Entropy) number o rest more part first read spans told after settled end = absurd settled
nothing_left (whys.Cut cuts.Memory) number o rest more part first read spans told after settled end = absurd settled

-- so every output is written
pub whole_of : {o : Outcome} {told : List ℕ} {start : ℕ} {after : Option (List ℕ)} {spans : List ℕ
    → List ℕ} {entropy entropy_after : EntropySeen} {out out_after : SinkSeen} {number : ℕ} {why : Why}
    → Ran o start told after spans entropy entropy_after out out_after number why → IsSettled (status_of why)
    → Whole o entropy entropy_after out out_after
whole_of {o = o} {told = told} {after = after} {entropy = entropy} {entropy_after = entropy_after} {out = out}
    {out_after = out_after} {number = number} {why = why} ran settled =
    let none = nothing_left why number o ran.rest ran.more ran.part _ _ _ told after settled ran.end in
    let outputs : ran.done ≡ o.outputs = sym (ran.split
    ∙ (ap (λ (os : List Output). ran.done ++ os) none.outputs ∙ append-nil ran.done)) in
    let drawn : ran.first ++ ran.more ≡ ran.first =
    ap (λ (bs : List Block). ran.first ++ bs) none.blocks ∙ append-nil ran.first in
    let gained : written ran.done ran.first ++ ran.part ≡ written o.outputs ran.first =
    ap (λ (bytes : List ℕ). written ran.done ran.first ++ bytes) none.bytes
    ∙ (append-nil (written ran.done ran.first) ∙ ap (λ (os : List Output). written os ran.first) outputs) in
    record {
      drawn = ran.first;
      enough = ran.enough ∙ ap (λ (os : List Output). draws_of os) outputs;
      draws = subst (λ (bs : List Block). Draws entropy entropy_after bs) drawn ran.draws;
      gains = subst (λ (bytes : List ℕ). Gains out.told out_after.told bytes) gained ran.gains;
    }

-- its status is that of its outcome
settled_end : (why : Why) (number : ℕ) (o : Outcome) (rest : List Output) (more : List Block) (part : List ℕ)
    (first read : ℕ) (spans told : List ℕ) (after : Option (List ℕ))
    → IsSettled (status_of why) → EndsIn why number o rest more part first read spans told after
    → status_of why ≡ status_of_finish o.finish
settled_end (whys.Finished finish) number o rest more part first read spans told after settled end =
    ap status_of_finish end.same
settled_end (whys.Cut cuts.Folder) number o rest more part first read spans told after settled end = absurd settled
settled_end (whys.Cut cuts.Input) number o rest more part first read spans told after settled end = absurd settled
settled_end (whys.Cut cuts.Output) number o rest more part first read spans told after settled end = absurd settled
settled_end (whys.Cut cuts.Entropy) number o rest more part first read spans told after settled end = absurd settled
settled_end (whys.Cut cuts.Memory) number o rest more part first read spans told after settled end = absurd settled

pub settled_status : {o : Outcome} {told : List ℕ} {start : ℕ} {after : Option (List ℕ)} {spans : List ℕ
    → List ℕ} {entropy entropy_after : EntropySeen} {out out_after : SinkSeen} {number : ℕ} {why : Why}
    → Ran o start told after spans entropy entropy_after out out_after number why → IsSettled (status_of why)
    → status_of why ≡ status_of_finish o.finish
settled_status {o = o} {told = told} {after = after} {number = number} {why = why} ran settled =
    settled_end why number o ran.rest ran.more ran.part _ _ _ told after settled ran.end

-- a run that nothing cut short ends as its outcome says
end_settled : (why : Why) (number : ℕ) (o : Outcome) (rest : List Output) (more : List Block) (part : List ℕ)
    (first read : ℕ) (spans told : List ℕ) (after : Option (List ℕ)) (before now : World)
    → EndsIn why number o rest more part first read spans told after
    → (why ≡ whys.Cut cuts.Input → Rose before.input.faults now.input.faults)
    → (why ≡ whys.Cut cuts.Folder → Rose before.files.faults now.files.faults)
    → (why ≡ whys.Cut cuts.Output → Rose before.out.faults now.out.faults)
    → (why ≡ whys.Cut cuts.Entropy → Rose before.entropy.faults now.entropy.faults)
    → Unfailed before now → (status_of why ≡ statuses.Memory → ⊥) → status_of why ≡ status_of_finish o.finish
end_settled (whys.Finished finish) number o rest more part first read spans told after before now end i f w n unfailed
    lasted =
    ap status_of_finish end.same
end_settled (whys.Cut cuts.Folder) number o rest more part first read spans told after before now end i f w n unfailed
    lasted =
    absurd (unfailed.files (f refl))
end_settled (whys.Cut cuts.Input) number o rest more part first read spans told after before now end i f w n unfailed
    lasted =
    absurd (unfailed.input (i refl))
end_settled (whys.Cut cuts.Output) number o rest more part first read spans told after before now end i f w n unfailed
    lasted =
    absurd (unfailed.out (w refl))
end_settled (whys.Cut cuts.Entropy) number o rest more part first read spans told after before now end i f w n
    unfailed lasted
    = absurd (unfailed.entropy (n refl))
end_settled (whys.Cut cuts.Memory) number o rest more part first read spans told after before now end i f w n unfailed
    lasted =
    absurd (lasted refl)

pub settled_of : {o : Outcome} {told : List ℕ} {start : ℕ} {after : Option (List ℕ)} {spans : List ℕ
    → List ℕ} {entropy entropy_after : EntropySeen} {out out_after : SinkSeen} {number : ℕ} {why : Why} {before now :
    World}
    {status : Status}
    → status ≡ status_of why → Ran o start told after spans entropy entropy_after out out_after number why
    → (why ≡ whys.Cut cuts.Input → Rose before.input.faults now.input.faults)
    → (why ≡ whys.Cut cuts.Folder → Rose before.files.faults now.files.faults)
    → (why ≡ whys.Cut cuts.Output → Rose before.out.faults now.out.faults)
    → (why ≡ whys.Cut cuts.Entropy → Rose before.entropy.faults now.entropy.faults)
    → Unfailed before now → (status ≡ statuses.Memory → ⊥) → status ≡ status_of_finish o.finish
settled_of {o = o} {told = told} {after = after} {number = number} {why = why} {before = before} {now = now} is ran i f
    w n unfailed lasted =
    is ∙ end_settled why number o ran.rest ran.more ran.part _ _ _ told after before now ran.end i f w n unfailed
    (λ at. lasted (is ∙ at))
