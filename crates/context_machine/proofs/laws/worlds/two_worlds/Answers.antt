-- What is asked, drawn and measured is read from a command's skeleton.
use Rattle.std.proofs.Common.{List, ap}
use Rattle.context_machine.specs.Asks.{collection_filter, key_filter}
use Rattle.context_machine.specs.Needs.{NeedAt, first_needs, ids_of, names_of}
use Rattle.context_machine.proofs.EqualNeeds.{equal_collections, equal_draws, equal_needs, equal_sizes}
use Rattle.context_machine.proofs.EqualOutputs.{equal_outputs}
use Rattle.context_machine.proofs.laws.worlds.two_worlds.Goals as goal

pub returns : goal.returns
returns c = record {
  needs = equal_needs;
  collection = equal_collections;
  collection_filter = λ rows c d e. ap collection_filter (equal_collections rows c d e);
  key_filter = λ rows c d start e. ap (λ (ns : List NeedAt). key_filter (ids_of (first_needs ns))
      (names_of (first_needs ns))) (equal_needs rows c d start e);
  draws = equal_draws;
  size = equal_sizes;
  outputs = equal_outputs;
}
