use Rattle.std.proofs.Common.{◌≡◌, ◌∙◌, None, Some, sym, rules}
use Rattle.key_vault.specs.Numbers.{number_of}
use Rattle.key_vault.specs.Keys.{has_id}
use Rattle.key_vault.proofs.Numbered.{found_at, found_none}
use Rattle.key_vault.proofs.vault.Vault.by_id.Goals as goal

pub returns-in-Some : goal.returns-in-Some
returns-in-Some c =
    let number : number_of c.self.inside.keys.items c.self.inside.ids c.args.id.now ≡ Some c.in-Some.number
    = search rules in
    rw (sym c.self.view_is) record {
      found = c.key_at.ensures ∙ found_at c.self.inside.keys.items (has_id c.args.id.now) c.in-Some.number
          (sym (c.self.invariant.0 c.args.id.now) ∙ number);
    }

pub returns-in-None : goal.returns-in-None
returns-in-None c =
    let none : number_of c.self.inside.keys.items c.self.inside.ids c.args.id.now ≡ None
    = search rules in
    rw (sym c.self.view_is) record {
      found = sym (found_none c.self.inside.keys.items (has_id c.args.id.now)
          (sym (c.self.invariant.0 c.args.id.now) ∙ none));
    }
