use Rattle.std.proofs.Common.{◌≡◌, ◌+◌, [], take, drop}
use Rattle.bson_tree.specs.Tree.{count}
use Rattle.encrypt_schema.specs.Commands.Visits.{names_of}
use Rattle.clear_commands.specs.ClearVerdicts.{fields_refusal}
use Rattle.clear_commands.proofs.judging.judge_fields.Given as goal

abbrev pub invariant-loop-field : goal.invariant-loop-field
invariant-loop-field l = record {
  number : l.k + count l.field-iterator.tree ≡ count l.command.tree;
  elder : drop l.k (names_of l.command.tree) ≡ names_of l.field-iterator.tree;
  first : fields_refusal l.clear l.own (take l.k (names_of l.command.tree)) l.field-iterator.start l.field-iterator.tree
      ≡ fields_refusal l.clear l.own [] (l.command.start + 4) l.command.tree;
}
