use Rattle.std.proofs.Math.Logic.{∥∥₁_elim}
use Rattle.std.proofs.Props.{props}
use Rattle.aes_block.proofs.table_form.inv_cipher_tables_pair.Goals as goal

pub returns-clause-first : goal.returns-clause-first
returns-clause-first c = ∥∥₁_elim c.opening.ensures (hlevel props)
    (λ keys. c.opened_two.ensures.first c.args.schedule.now keys)

pub returns-clause-second : goal.returns-clause-second
returns-clause-second c = ∥∥₁_elim c.opening.ensures (hlevel props)
    (λ keys. c.opened_two.ensures.second c.args.schedule.now keys)
