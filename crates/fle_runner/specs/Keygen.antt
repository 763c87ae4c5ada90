-- `keygen MASTER NAME*`: a new key document with these alternate names.
use Rattle.std.specs.Prelude.{◌≡◌, ℕ, Option, List, length}
use Rattle.fle_outside.specs.Blocks.{Block}
use Rattle.fle_outside.specs.Seen.{Draws, EntropySeen}
use Rattle.fle_files.specs.Setup.{with_master}
use Rattle.fle_stream.specs.Task.{Task, makes}
use Rattle.fle_stream.specs.declared.why.Why.{Why}
use Rattle.fle_stream.specs.declared.why.Why.TheVariants as whys
use Rattle.fle_stream.specs.declared.why.Finish.TheVariants as finishes
use Rattle.fle_stream.specs.declared.why.Cut.TheVariants as cuts
pub use Rattle.fle_engine.specs.KeyRulings.{keygen_plan}

-- a new key under the master key that the first file of the words has
abbrev pub keygen_task : List (List ℕ) → ℕ → Option (List ℕ) → Task
keygen_task names now file = with_master 1 file (λ master. makes (keygen_plan names now master))

-- the eight blocks of a key were drawn
pub record DrawsEight (before after : EntropySeen) : Type 0 where
  pub blocks : List Block
  pub eight : length blocks ≡ 8
  pub draws : Draws before after blocks

-- the ends that `keygen` can make
abbrev pub IsOfKeygen : Why → Type 0
IsOfKeygen (whys.Finished finishes.Done) = Unit {0}
IsOfKeygen (whys.Finished (finishes.Setup file fault document)) = Unit {0}
IsOfKeygen (whys.Finished finish) = ⊥
IsOfKeygen (whys.Cut cuts.Input) = ⊥
IsOfKeygen (whys.Cut cut) = Unit {0}

-- the ends that making a key can make
abbrev pub IsOfKey : Why → Type 0
IsOfKey (whys.Finished finishes.Done) = Unit {0}
IsOfKey (whys.Cut cuts.Output) = Unit {0}
IsOfKey (whys.Cut cuts.Entropy) = Unit {0}
IsOfKey (whys.Cut cuts.Memory) = Unit {0}
IsOfKey _ = ⊥
