use Rattle.std.proofs.Common.{ap}
use Rattle.aes_block.specs.Nibbles.{all_places}
use Rattle.aes_block.proofs.OpenLanes.{open_round_0-is}
use Rattle.aes_block.proofs.opening.open_round_0.Goals as goal

pub turned-requires : goal.turned-requires
turned-requires c = ap all_places c.turn-twice.ensures

pub turned-requires-2 : goal.turned-requires-2
turned-requires-2 c = ap all_places c.turn-twice.ensures

pub turned-requires-3 : goal.turned-requires-3
turned-requires-3 c = ap all_places c.turn-once.ensures

pub returns : goal.returns
returns c s k bs bk ex ek = rw (c.turned-3.ensures, c.turned-2.ensures, c.turned.ensures)
    (open_round_0-is s k bs bk ex ek c.products.ensures.nine c.products.ensures.eleven c.products.ensures.thirteen
    c.products.ensures.fourteen c.turn-once.ensures c.turn-twice.ensures)
