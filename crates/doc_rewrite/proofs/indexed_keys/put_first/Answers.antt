use Rattle.std.proofs.Common.{◌≡◌, false, rules}
use Rattle.std.specs.Prelude.{is_some}
use Rattle.doc_rewrite.specs.Numbers.{number_of_id}
use Rattle.doc_rewrite.proofs.Numbered.{first_put}
use Rattle.doc_rewrite.proofs.indexed_keys.put_first.Goals as goal

pub returns-in-Ok : goal.returns-in-Ok
returns-in-Ok c =
    let lacks : is_some (number_of_id c.args.numbers.now c.args.id) ≡ false = search rules in
    record {
      put = first_put c.args.id c.args.numbers.now c.insert.new.self c.args.number lacks c.in-Ok.ensures.updates;
    }
