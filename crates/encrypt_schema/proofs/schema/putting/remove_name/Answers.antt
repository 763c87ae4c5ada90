use Rattle.std.proofs.Common.{None}
use Rattle.bson_tree.proofs.NameNumbers.{updates_numbers}
use Rattle.encrypt_schema.proofs.schema.putting.remove_name.Goals as goal

pub returns : goal.returns
returns c = record {
  removed = updates_numbers c.args.name.now c.args.numbers.now c.remove.new.self None c.remove.ensures.updates;
}
