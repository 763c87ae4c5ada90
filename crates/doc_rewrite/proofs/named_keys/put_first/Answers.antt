use Rattle.std.proofs.Common.{◌≡◌, false, rules}
use Rattle.std.specs.Prelude.{is_some}
use Rattle.bson_tree.specs.NameNumbers.{number_of_name}
use Rattle.doc_rewrite.proofs.Entries.{first_put}
use Rattle.doc_rewrite.proofs.named_keys.put_first.Goals as goal

pub returns-in-Ok : goal.returns-in-Ok
returns-in-Ok c =
    let lacks : is_some (number_of_name c.args.numbers.now c.args.name.items) ≡ false = search rules in
    record {
      put = first_put c.args.name.items c.args.numbers.now c.insert.new.self c.args.number lacks
          c.in-Ok.ensures.updates;
    }
