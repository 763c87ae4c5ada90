-- What the end of a turn took.
use Rattle.std.proofs.Common.{◌≡◌, ℕ, ◌+◌, ◌*◌, ◌-◌, ◌≤◌, ◌^◌, min, arith, subst}
use Rattle.fle_outside.specs.Filling.{RoseBy, RoseWithin}
use Rattle.fle_stream.specs.declared.why.Finish.{Finish}
use Rattle.fle_stream.specs.declared.why.Cut.{Cut}
use Rattle.fle_stream.specs.declared.why.Cut.TheVariants as cuts
use Rattle.fle_stream.specs.declared.why.Why.{Why}
use Rattle.fle_stream.specs.declared.why.Why.TheVariants as whys

pub none_more : (n : ℕ) → n ≤ n
none_more n = omega arith

pub took_nothing : (n : ℕ) → RoseWithin n n (2 ^ 24)
took_nothing n = (omega arith, omega arith)

-- the bytes of a document are at most as many as one may have
pub took_framed : (before after n : ℕ) → RoseBy before after (n - 0) → n ≤ 2 ^ 24 → RoseWithin before after (2 ^ 24)
took_framed before after n took within = (omega (arith, took.0), omega (arith, took.1, within))

-- a turn that ended the run at its first document took at most that one
pub took_turn : (number before after documents bytes : ℕ) → RoseWithin before after bytes
    → (number ≤ number) × (min (before + 5 * (number - number)) (2 ^ 64 - 1) ≤ after) × (after ≤ before + bytes * 1)
took_turn number before after documents bytes took =
    (omega arith, omega (arith, took.0), omega (arith, took.1))

-- ---- one end isn't another

abbrev IsFinish : Why → Type 0
IsFinish (whys.Finished finish) = Unit {0}
IsFinish (whys.Cut cut) = ⊥

pub finished_no : (finish : Finish) (cut : Cut) → whys.Finished finish ≡ whys.Cut cut → ⊥
finished_no finish cut e = subst IsFinish e tt

abbrev IsIn : Why → Type 0
IsIn (whys.Cut cuts.Input) = Unit {0}
IsIn why = ⊥

pub input_not_output : whys.Cut cuts.Input ≡ whys.Cut cuts.Output → ⊥
input_not_output e = subst IsIn e tt

pub input_not_entropy : whys.Cut cuts.Input ≡ whys.Cut cuts.Entropy → ⊥
input_not_entropy e = subst IsIn e tt

abbrev IsFull : Why → Type 0
IsFull (whys.Cut cuts.Memory) = Unit {0}
IsFull why = ⊥

pub memory_not_input : whys.Cut cuts.Memory ≡ whys.Cut cuts.Input → ⊥
memory_not_input e = subst IsFull e tt

pub memory_not_folder : whys.Cut cuts.Memory ≡ whys.Cut cuts.Folder → ⊥
memory_not_folder e = subst IsFull e tt

pub memory_not_output : whys.Cut cuts.Memory ≡ whys.Cut cuts.Output → ⊥
memory_not_output e = subst IsFull e tt

pub memory_not_entropy : whys.Cut cuts.Memory ≡ whys.Cut cuts.Entropy → ⊥
memory_not_entropy e = subst IsFull e tt

abbrev IsOut : Why → Type 0
IsOut (whys.Cut cuts.Output) = Unit {0}
IsOut why = ⊥

pub output_not_folder : whys.Cut cuts.Output ≡ whys.Cut cuts.Folder → ⊥
output_not_folder e = subst IsOut e tt

pub output_not_input : whys.Cut cuts.Output ≡ whys.Cut cuts.Input → ⊥
output_not_input e = subst IsOut e tt

pub output_not_entropy : whys.Cut cuts.Output ≡ whys.Cut cuts.Entropy → ⊥
output_not_entropy e = subst IsOut e tt

abbrev IsDry : Why → Type 0
IsDry (whys.Cut cuts.Entropy) = Unit {0}
IsDry why = ⊥

pub entropy_not_folder : whys.Cut cuts.Entropy ≡ whys.Cut cuts.Folder → ⊥
entropy_not_folder e = subst IsDry e tt

pub entropy_not_input : whys.Cut cuts.Entropy ≡ whys.Cut cuts.Input → ⊥
entropy_not_input e = subst IsDry e tt

pub entropy_not_output : whys.Cut cuts.Entropy ≡ whys.Cut cuts.Output → ⊥
entropy_not_output e = subst IsDry e tt
