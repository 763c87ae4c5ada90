use Rattle.std.proofs.Common.{◌≡◌, Bool, subst, sym}
use Rattle.std.specs.Prelude.{MatchBool}
use Rattle.key_vault.proofs.Same.{key_told}
use Rattle.key_vault.proofs.putting.is_same.Goals as goal

pub returns-clause-told : goal.returns-clause-told
returns-clause-told c = subst
    (λ (b : Bool). MatchBool b (c.args.key.now ≡ c.args.other.now) (c.args.key.now ≡ c.args.other.now → ⊥))
    (sym c.have_same_parts.ensures.same) (key_told c.args.key.now c.args.other.now)
