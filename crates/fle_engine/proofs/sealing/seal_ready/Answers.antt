-- The command is sealed, or a draw failed.
use Rattle.std.proofs.Common.{◌∙◌, ap}
use Rattle.context_machine.specs.States.{Readied}
use Rattle.fle_engine.specs.Sealing.{wanted_by}
use Rattle.fle_engine.proofs.Seals.{sealed_made, sealed_short}
use Rattle.fle_engine.proofs.sealing.seal_ready.Goals as goal

pub returns-in-Ok : goal.returns-in-Ok
returns-in-Ok g c = record {
  answers = λ keys are.
      sealed_made keys c.args.state.info c.args.state.command c.args.state.table
      (g.N.Entropy.seen c.args.entropy.now) (g.N.Entropy.seen c.finalize.new.entropy) c.in-Ok.done.bytes
      c.into_bytes.result c.requires.whole are c.in-Ok.ensures.sealed c.in-Ok.ensures.size
      c.into_bytes.ensures.bytes;
}

pub returns-in-Err : goal.returns-in-Err
returns-in-Err g c = record {
  answers = λ keys are.
      sealed_short keys c.args.state.info c.args.state.command
      (g.N.Entropy.seen c.args.entropy.now) (g.N.Entropy.seen c.finalize.new.entropy) c.wanted_by.result
      c.requires.whole c.in-Err.ensures.failed
      (c.wanted_by.ensures.wanted ∙ ap (λ (r : Readied). wanted_by r.info r.command) c.in-Err.ensures.back);
}
