use Rattle.std.proofs.Common.{◌∙◌, sym, arith}
use Rattle.ext_json.proofs.Escapes.{escaped_nil, plain_more}
use Rattle.ext_json.proofs.quoted.plain_length.Goals as goal

pub loop-n-init : goal.loop-n-init
loop-n-init c = (omega arith, escaped_nil)

pub loop-n-preserved : goal.loop-n-preserved
loop-n-preserved c =
    let within = c.loop-n-test.true in (
      omega (arith, within),
      plain_more c.loop-n.n c.args.text.now _ within c.loop-n.invariant.1
          (sym c.is_plain.ensures ∙ c.if-is_plain.true),
    )
