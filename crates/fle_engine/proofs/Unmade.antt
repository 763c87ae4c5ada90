-- An answer without an output.
use Rattle.std.proofs.Common.{ℕ, None, refl}
use Rattle.bson_tree.specs.Tree.{Items}
use Rattle.context_machine.specs.declared.opened_keys.KeysStop.{KeysStop}
use Rattle.context_machine.specs.declared.opened_keys.KeysStop.TheVariants as stops
use Rattle.encrypt_schema.specs.Commands.Visits.{Refusal}
use Rattle.encrypt_schema.specs.declared.command.marks.MarkFault.{MarkFault}
use Rattle.encrypt_schema.specs.declared.command.marks.MarkFault.TheVariants as faults
use Rattle.fle_outside.specs.Seen.{EntropySeen}
use Rattle.fle_engine.specs.Answers.{AnswerIs, HasAtMost}
use Rattle.fle_engine.specs.Asked.{TellsDraws}
use Rattle.fle_engine.specs.Rulings.{Ruling, StopsAs, Tells, refused, too_long}
use Rattle.fle_engine.specs.declared.answer.Answer.{Answer}
use Rattle.fle_engine.specs.declared.answer.Answer.TheVariants as answers

-- neither an output, nor too few blocks for one
abbrev IsUnmade : Answer → Type 0
IsUnmade (answers.Made output) = ⊥
IsUnmade (answers.Undrawn wanted) = ⊥
IsUnmade _ = Unit {0}

refused_unmade : (c : Items) (e : EntropySeen) (r : Refusal) (a : Answer) → AnswerIs (refused r) c e e a → IsUnmade a
refused_unmade c e r (answers.Made output) is = absurd is
refused_unmade c e r (answers.Refused told) is = tt
refused_unmade c e r answers.TooLong is = tt
refused_unmade c e r (answers.Undrawn wanted) is = absurd is
refused_unmade c e r answers.Memory is = tt

over_unmade : (c : Items) (e : EntropySeen) (a : Answer) → AnswerIs too_long c e e a → IsUnmade a
over_unmade c e (answers.Made output) is = absurd is
over_unmade c e (answers.Refused told) is = tt
over_unmade c e answers.TooLong is = tt
over_unmade c e (answers.Undrawn wanted) is = absurd is
over_unmade c e answers.Memory is = tt

nothing_seen : EntropySeen
nothing_seen = record { told = None; faults = 0; assured = 0 }

-- it has no bytes
at_most : (most : ℕ) (a : Answer) → IsUnmade a → HasAtMost most a
at_most most (answers.Made output) none = absurd none
at_most most (answers.Refused told) none = tt
at_most most answers.TooLong none = tt
at_most most (answers.Undrawn wanted) none = absurd none
at_most most answers.Memory none = tt

-- no block is told of with it
undrawing : (draws : ℕ) (a : Answer) → IsUnmade a → TellsDraws draws a 0
undrawing draws (answers.Made output) none = absurd none
undrawing draws (answers.Refused told) none = refl
undrawing draws answers.TooLong none = refl
undrawing draws (answers.Undrawn wanted) none = absurd none
undrawing draws answers.Memory none = refl

-- ---- what refuses

fault_unmade : (c : Items) (fault : MarkFault) (a : Answer)
    → ((v : Ruling) (e : EntropySeen) → Tells fault v → AnswerIs v c e e a) → IsUnmade a
fault_unmade c (faults.Refused reason at) a told =
    let r : Refusal = record { reason = reason; at = at } in
    refused_unmade c nothing_seen r a (told (refused r) nothing_seen refl)
fault_unmade c faults.Memory a told = over_unmade c nothing_seen a (told too_long nothing_seen tt)

pub fault_short : (most : ℕ) (c : Items) (fault : MarkFault) (a : Answer)
    → ((v : Ruling) (e : EntropySeen) → Tells fault v → AnswerIs v c e e a) → HasAtMost most a
fault_short most c fault a told = at_most most a (fault_unmade c fault a told)

pub fault_undrawing : (draws : ℕ) (c : Items) (fault : MarkFault) (a : Answer)
    → ((v : Ruling) (e : EntropySeen) → Tells fault v → AnswerIs v c e e a) → TellsDraws draws a 0
fault_undrawing draws c fault a told = undrawing draws a (fault_unmade c fault a told)

pub stop_short : (most : ℕ) (c : Items) (stop : KeysStop) (a : Answer)
    → ((v : Ruling) (e : EntropySeen) → StopsAs stop v → AnswerIs v c e e a) → HasAtMost most a
stop_short most c (stops.Refused reason at) a told =
    let r : Refusal = record { reason = reason; at = at } in
    at_most most a (refused_unmade c nothing_seen r a (told (refused r) nothing_seen refl))
stop_short most c stops.TooLong a told =
    at_most most a (over_unmade c nothing_seen a (told too_long nothing_seen refl))
stop_short most c stops.Memory a told = at_most most a (over_unmade c nothing_seen a (told too_long nothing_seen tt))

pub spot_short : (most : ℕ) (c : Items) (r : Refusal) (a : Answer)
    → ((e : EntropySeen) → AnswerIs (refused r) c e e a) → HasAtMost most a
spot_short most c r a told = at_most most a (refused_unmade c nothing_seen r a (told nothing_seen))

pub spot_undrawing : (draws : ℕ) (c : Items) (r : Refusal) (a : Answer)
    → ((e : EntropySeen) → AnswerIs (refused r) c e e a) → TellsDraws draws a 0
spot_undrawing draws c r a told = undrawing draws a (refused_unmade c nothing_seen r a (told nothing_seen))
