use Rattle.std.proofs.Common.{arith}
use Rattle.local_kms.specs.Made.{block_at}
use Rattle.local_kms.proofs.Drawings.{short_more, short_then, two_made}
use Rattle.local_kms.proofs.making.draw_part.Goals as goal

pub returns-in_default-clause-drawn : goal.returns-in_default-clause-drawn
returns-in_default-clause-drawn g c = short_more _ _ 1 2 c.in_default.ensures.drawn (omega arith)

pub returns-in_default-draw_one-clause-drawn : goal.returns-in_default-draw_one-clause-drawn
returns-in_default-draw_one-clause-drawn g c =
    short_then _ _ _ 1 1 2 (block_at 0) c.in-Ok.first c.in-Ok.ensures.drawn c.in_default-draw_one.ensures.drawn
    (omega arith)

pub returns-clause-drawn : goal.returns-clause-drawn
returns-clause-drawn g c =
    two_made _ _ _ c.in-Ok.first c.in-Ok-draw_one.second _ c.in-Ok.ensures.drawn c.in-Ok-draw_one.ensures.drawn
    c.part_of.ensures
