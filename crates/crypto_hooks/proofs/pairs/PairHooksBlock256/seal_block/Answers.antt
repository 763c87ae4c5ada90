use Rattle.std.proofs.Common.{rules, of_calls}
use Rattle.aes_block.specs.Block.{IsBlock}
use Rattle.crypto_hooks.proofs.Blocks.{block_from}
use Rattle.crypto_hooks.proofs.pairs.PairHooksBlock256.seal_block.Goals as goal

pub seal-requires : goal.seal-requires
seal-requires g c =
    let block : IsBlock c.args.block = block_from c.args.block (search rules) (search rules) in
    let schedule = c.words-words.ensures.schedule in
    let taken = c.requires.0.taken in
    search (rules, of_calls, taken, schedule, block)

pub returns : goal.returns
returns g c =
    c.requires.0.given _ _ _ c.words-words.ensures.schedule
    (block_from c.args.block (search rules) (search rules)) c.seal.ensures
