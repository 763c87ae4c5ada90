use Rattle.std.proofs.Common.{◌≡◌, List, ℕ, None, bytes_eq, subst, sym, ap, ◌∙◌}
use Rattle.std.specs.Cmp.Lexicographic.{bytes_decides}
use Rattle.bson_tree.specs.NameNumbers.{number_of_name}
use Rattle.bson_tree.proofs.NameNumbers.{updates_numbers}
use Rattle.key_vault.proofs.Undone.{gone}
use Rattle.key_vault.specs.Undoing.{number_below}
use Rattle.key_vault.proofs.numbers.take_other.Goals as goal

pub returns-then-is_from : goal.returns-then-is_from
returns-then-is_from c =
    let none = ap (number_below c.args.number) (sym c.get.ensures.value) ∙ c.is_from.ensures.gone c.if-is_from.true in
    record {
      taken = λ other. gone (bytes_eq c.args.text.now other) (number_below c.args.number)
          (number_of_name c.args.others.now other) (number_of_name c.remove.new.self other)
          (λ same. subst
          (λ (t : List ℕ). number_below c.args.number (number_of_name c.args.others.now t) ≡ None)
          ((bytes_decides c.args.text.now other).0 same) none)
          (updates_numbers c.args.text.now c.args.others.now c.remove.new.self None c.remove.ensures.updates other);
    }
