-- The text has the number, and the others have theirs.
use Rattle.std.proofs.Common.{◌≡◌, ℕ, List, cond, Some, bytes_eq, subst, rules}
use Rattle.bson_tree.specs.NameNumbers.{number_of_name}
use Rattle.bson_tree.proofs.NameNumbers.{updates_numbers}
use Rattle.encrypt_schema.proofs.path.slots.note_first.Goals as goal

pub returns-in-Ok-insert : goal.returns-in-Ok-insert
returns-in-Ok-insert c =
    let named : c.in-Ok.copy.items ≡ c.args.text.now = search rules in
    record {
      put = subst
          (λ (bs : List ℕ). (other : List ℕ) → number_of_name c.insert.new.self other
          ≡ cond (bytes_eq bs other) (Some c.args.number) (number_of_name c.args.firsts.now other))
          named (updates_numbers c.in-Ok.copy.items c.args.firsts.now c.insert.new.self
          (Some c.args.number) c.in-Ok-insert.ensures.updates);
    }
