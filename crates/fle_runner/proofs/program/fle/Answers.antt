-- The verb's end is the program's.
use Rattle.std.proofs.Common.{◌≡◌, ◌∙◌, ap, sym}
use Rattle.std.proofs.lemmas.Int.{to_z-of_z}
use Rattle.std.specs.Int.{cast_unsigned, w64}
use Rattle.fle_runner.proofs.Promises.{keeps_of}
use Rattle.fle_runner.proofs.program.fle.Goals as goal

pub returns-clause-keeps : goal.returns-clause-keeps
returns-clause-keeps g c =
    let same : c.cast_unsigned.result ≡ cast_unsigned w64 c.args.now_ms =
    c.cast_unsigned.ensures ∙ ap (cast_unsigned w64) (to_z-of_z w64 c.args.now_ms c.ranges.now_ms) in
    rw (sym same) (keeps_of c.act-end.ensures.does c.report.ensures.status c.report.ensures.says.1)

pub returns-clause-verb : goal.returns-clause-verb
returns-clause-verb g c = rw c.report.ensures.status c.act-end.ensures.verb
