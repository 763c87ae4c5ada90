use Rattle.std.proofs.Common.{rules, of_calls}
use Rattle.aes_block.specs.Block.{IsBlock}
use Rattle.crypto_hooks.proofs.Blocks.{block_from}
use Rattle.crypto_hooks.proofs.pairs.PairHooksBlock256.open_two.Goals as goal

pub unseal_two-requires : goal.unseal_two-requires
unseal_two-requires g c =
    let a : IsBlock c.args.first = block_from c.args.first (search rules) (search rules) in
    let b : IsBlock c.args.second = block_from c.args.second (search rules) (search rules) in
    let schedule = c.words-words.ensures.schedule in
    let taken = c.requires.2.taken in
    search (rules, of_calls, taken, schedule, a, b)

pub returns-clause-first : goal.returns-clause-first
returns-clause-first g c =
    (c.requires.2.given _ _ _ _ c.words-words.ensures.schedule
    (block_from c.args.first (search rules) (search rules))
    (block_from c.args.second (search rules) (search rules)) c.unseal_two.ensures).0

pub returns-clause-second : goal.returns-clause-second
returns-clause-second g c =
    (c.requires.2.given _ _ _ _ c.words-words.ensures.schedule
    (block_from c.args.first (search rules) (search rules))
    (block_from c.args.second (search rules) (search rules)) c.unseal_two.ensures).1
