-- Needs and draws are read from a command's blank; so is what it is sealed to, with blanks.
use Rattle.context_machine.specs.Rings.{needs_of}
use Rattle.context_machine.proofs.Blanked.{equal_sealed}
use Rattle.context_machine.proofs.EqualNeeds.{blank_draws, equal_alone, equal_first}
use Rattle.context_machine.proofs.laws.worlds.equal_blanks.Goals as goal

pub returns : goal.returns
returns c = record {
  needs = equal_alone;
  first_needs = λ rows c d e. equal_first (needs_of rows c) (needs_of rows d) (equal_alone rows c d e);
  draws = blank_draws;
  sealed = equal_sealed;
}
