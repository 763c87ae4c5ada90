use Rattle.std.proofs.Common.{◌≡◌, ℕ, List, cond, Some, bytes_eq, subst, rules}
use Rattle.bson_tree.specs.NameNumbers.{number_of_name}
use Rattle.bson_tree.proofs.NameNumbers.{updates_numbers}
use Rattle.key_vault.proofs.numbers.put_other.Goals as goal

pub returns-in-Ok-insert-clause-put : goal.returns-in-Ok-insert-clause-put
returns-in-Ok-insert-clause-put c =
    let named : c.in-Ok.copy.items ≡ c.args.text.now = search rules in
    subst
    (λ (bs : List ℕ). (other : List ℕ) → number_of_name c.insert.new.self other
    ≡ cond (bytes_eq bs other) (Some c.args.number) (number_of_name c.args.others.now other))
    named (updates_numbers c.in-Ok.copy.items c.args.others.now c.insert.new.self
    (Some c.args.number) c.in-Ok-insert.ensures.updates)
