use Rattle.std.proofs.Math.Logic.{∥∥₁_elim}
use Rattle.std.proofs.Props.{props}
use Rattle.aes_block.proofs.table_form.cipher_tables.Goals as goal

pub returns : goal.returns
returns c = record {
  sealed = ∥∥₁_elim c.sealing.ensures (hlevel props) (λ keys. c.sealed.ensures c.args.schedule.now keys);
}
