use Rattle.std.proofs.Common.{ap, ◌∙◌, ◌++◌}
use lib.Lanes.{pick_l}
use Rattle.aes_block.proofs.WideLanes.{second_lanes, second_picked}
use Rattle.aes_block.proofs.wide_lookups.second_of.Goals as goal

pub returns : goal.returns
returns c a b la lb e = ap (λ z. pick_l 0 (z ++ z) second_lanes) e ∙ second_picked a b la lb
