use Rattle.std.proofs.Common.{ap, ◌∙◌, ◌+◌, ◌%◌, arith}
use Rattle.aes_block.specs.Nibbles.{all_places}
use Rattle.aes_block.proofs.OpenPair.{round_at, turns_ok}
use Rattle.aes_block.proofs.opening_pair.open_round.Goals as goal

pub turned-requires : goal.turned-requires
turned-requires c = ap all_places c.turn-twice.ensures ∙ turns_ok (4 + c.args.r % 4) (omega arith)

pub turned-requires-2 : goal.turned-requires-2
turned-requires-2 c = ap all_places c.turn-twice.ensures ∙ turns_ok (4 + c.args.r % 4) (omega arith)

pub turned-requires-3 : goal.turned-requires-3
turned-requires-3 c = ap all_places c.turn-once.ensures ∙ turns_ok (c.args.r % 4) (omega arith)

pub returns : goal.returns
returns c s t k bs bt bk ex ek = round_at c.args.r c.requires.first c.requires.last s t k bs bt bk ex
    (c.key.ensures ∙ ek) c.products.ensures.nine c.products.ensures.eleven c.products.ensures.thirteen
    c.products.ensures.fourteen c.turn-once.ensures c.turn-twice.ensures c.turned.ensures c.turned-2.ensures
    c.turned-3.ensures
