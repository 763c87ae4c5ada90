-- The command's bytes are what it comes to.
use Rattle.std.proofs.Common.{◌∙◌, ap, arith, length}
use Rattle.fle_engine.proofs.Seals.{passed_made, passed_over}
use Rattle.fle_engine.proofs.sealing.pass_command.Goals as goal

pub returns-then-bytes-gt-MOST : goal.returns-then-bytes-gt-MOST
returns-then-bytes-gt-MOST c = record {
  answers = λ keys rows e.
      passed_over keys rows c.args.command.now.tree e c.requires.passes
      (omega (arith, c.if-bytes-gt-MOST.true, ap length c.bytes-bytes.ensures.spelling));
}

pub returns-in-Ok : goal.returns-in-Ok
returns-in-Ok c = record {
  answers = λ keys rows e.
      passed_made keys rows c.args.command.now.tree c.in-Ok.bytes e c.requires.passes
      (omega (arith, c.if-bytes-gt-MOST.false, ap length c.bytes-bytes.ensures.spelling))
      (c.in-Ok.ensures.items ∙ c.bytes-bytes.ensures.spelling);
}
