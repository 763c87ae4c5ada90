use Rattle.std.proofs.Common.{rules, of_calls}
use Rattle.aes_block.specs.Block.{IsBlock}
use Rattle.crypto_hooks.proofs.Blocks.{block_from}
use Rattle.crypto_hooks.proofs.pairs.PairHooksBlock256.open_block.Goals as goal

pub unseal-requires : goal.unseal-requires
unseal-requires g c =
    let block : IsBlock c.args.block = block_from c.args.block (search rules) (search rules) in
    let schedule = c.words-words.ensures.schedule in
    let taken = c.requires.1.taken in
    search (rules, of_calls, taken, schedule, block)

pub returns : goal.returns
returns g c =
    c.requires.1.given _ _ _ c.words-words.ensures.schedule
    (block_from c.args.block (search rules) (search rules)) c.unseal.ensures
