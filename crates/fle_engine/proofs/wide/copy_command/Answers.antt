-- The command's bytes are what it comes to.
use Rattle.std.proofs.Common.{◌∙◌, ap, arith, length}
use Rattle.bson_tree.specs.Spelling.{doc_bytes}
use Rattle.fle_engine.proofs.Cleared.{copied_over}
use Rattle.fle_engine.proofs.Replied.{reply_made}
use Rattle.fle_engine.proofs.wide.copy_command.Goals as goal

pub returns-then-bytes-gt-MOST : goal.returns-then-bytes-gt-MOST
returns-then-bytes-gt-MOST c = record {
  answers = λ e.
      copied_over (doc_bytes c.args.command.now.tree) c.args.command.now.tree e
      (omega (arith, c.if-bytes-gt-MOST.true, ap length c.bytes-bytes.ensures.spelling));
}

pub returns-in-Ok : goal.returns-in-Ok
returns-in-Ok c = record {
  answers = λ e.
      reply_made (doc_bytes c.args.command.now.tree) c.args.command.now.tree c.in-Ok.bytes e
      (c.in-Ok.ensures.items ∙ c.bytes-bytes.ensures.spelling)
      (omega (arith, c.if-bytes-gt-MOST.false, ap length c.bytes-bytes.ensures.spelling));
}
