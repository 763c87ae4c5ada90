-- A key is read and added, and what is left makes the vault.
use Rattle.std.proofs.Common.{◌≡◌, List, ℕ, length, sym, subst, rules}
use Rattle.key_vault.specs.Loading.{Left}
use Rattle.key_vault.proofs.Files.{all_left, all_read, key_added}
use Rattle.key_vault.proofs.vault.Vault.load.Goals as goal

pub loop-rest-init : goal.loop-rest-init
loop-rest-init c = subst (λ cs. Left c.args.bytes.now cs c.args.bytes.now) (sym c.empty-vault.ensures.empty)
    (all_left c.args.bytes.now)

pub loop-rest-preserved : goal.loop-rest-preserved
loop-rest-preserved c =
    let added = c.in_ok-n.ensures.added in
    subst (λ (rest : List ℕ). Left c.args.bytes.now c.add_front.new.self rest) (sym c.split_at.ensures.back)
    (key_added c.in_ok-n.n added.0 c.loop-rest.invariant added.1 added.2 c.in_ok-n.ensures.size.0
    c.in_ok-n.ensures.size.1)

pub returns : goal.returns
returns c =
    let none : length c.loop-rest.rest.now ≡ 0 = search rules in
    record { loaded = all_read c.loop-rest.rest.now c.loop-rest.invariant none }
