use Rattle.std.proofs.Math.Logic.{∥∥₁_elim}
use Rattle.std.proofs.Props.{props}
use Rattle.aes_block.proofs.table_form.inv_cipher_tables.Goals as goal

pub returns : goal.returns
returns c = record {
  opened = ∥∥₁_elim c.opening.ensures (hlevel props) (λ keys. c.opened.ensures c.args.schedule.now keys);
}
