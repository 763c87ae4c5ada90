use Rattle.std.proofs.Common.{arith}
use Rattle.local_kms.specs.Made.{two_blocks}
use Rattle.local_kms.proofs.Drawings.{short_then, six_made}
use Rattle.local_kms.proofs.making.draw_key.Goals as goal

pub returns-in_default-draw_part-clause-drawn : goal.returns-in_default-draw_part-clause-drawn
returns-in_default-draw_part-clause-drawn g c =
    short_then _ _ _ 2 2 6 (two_blocks 0) c.in-Ok.mac c.in-Ok.ensures.drawn c.in_default-draw_part.ensures.drawn
    (omega arith)

pub returns-in_default-draw_part-2-clause-drawn : goal.returns-in_default-draw_part-2-clause-drawn
returns-in_default-draw_part-2-clause-drawn g c =
    short_then _ _ _ 2 4 6 (two_blocks 0) c.in-Ok.mac c.in-Ok.ensures.drawn
    (short_then _ _ _ 2 2 4 (two_blocks 0) c.in-Ok-draw_part.cipher c.in-Ok-draw_part.ensures.drawn
    c.in_default-draw_part-2.ensures.drawn (omega arith))
    (omega arith)

pub returns-clause-drawn : goal.returns-clause-drawn
returns-clause-drawn g c =
    six_made _ _ _ _ c.in-Ok.mac c.in-Ok-draw_part.cipher c.in-Ok-draw_part-2.iv _ c.in-Ok.ensures.drawn
    c.in-Ok-draw_part.ensures.drawn
    c.in-Ok-draw_part-2.ensures.drawn c.key_of.ensures
