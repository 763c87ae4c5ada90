use Rattle.std.proofs.Common.{arith}
use Rattle.local_kms.specs.Made.{block_at, six_blocks}
use Rattle.local_kms.proofs.Drawings.{short_then, eight_made}
use Rattle.local_kms.proofs.making.draw_seeds.Goals as goal

pub returns-in_default-draw_key-clause-drawn : goal.returns-in_default-draw_key-clause-drawn
returns-in_default-draw_key-clause-drawn g c =
    short_then _ _ _ 1 6 8 (block_at 0) c.in-Ok.id c.in-Ok.ensures.drawn c.in_default-draw_key.ensures.drawn
    (omega arith)

pub returns-in_default-draw_one-clause-drawn : goal.returns-in_default-draw_one-clause-drawn
returns-in_default-draw_one-clause-drawn g c =
    short_then _ _ _ 1 7 8 (block_at 0) c.in-Ok.id c.in-Ok.ensures.drawn
    (short_then _ _ _ 6 1 7 (six_blocks 0) c.in-Ok-draw_key.key c.in-Ok-draw_key.ensures.drawn
    c.in_default-draw_one.ensures.drawn (omega arith))
    (omega arith)

pub returns-clause-drawn : goal.returns-clause-drawn
returns-clause-drawn g c =
    eight_made _ _ _ _ c.in-Ok.id c.in-Ok-draw_key.key c.in-Ok-draw_one.iv c.in-Ok.ensures.drawn
    c.in-Ok-draw_key.ensures.drawn
    c.in-Ok-draw_one.ensures.drawn
