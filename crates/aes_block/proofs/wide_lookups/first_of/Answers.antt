use Rattle.std.proofs.Common.{ap, ◌∙◌, ◌++◌}
use lib.Lanes.{pick_l}
use Rattle.aes_block.proofs.WideLanes.{first_lanes, first_picked}
use Rattle.aes_block.proofs.wide_lookups.first_of.Goals as goal

pub returns : goal.returns
returns c a b la lb e = ap (λ z. pick_l 0 (z ++ z) first_lanes) e ∙ first_picked a b la lb
