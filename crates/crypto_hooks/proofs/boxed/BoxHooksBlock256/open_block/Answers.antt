use Rattle.std.proofs.Common.{rules}
use Rattle.crypto_hooks.proofs.Blocks.{block_from}
use Rattle.crypto_hooks.proofs.boxed.BoxHooksBlock256.open_block.Goals as goal

pub called-requires : goal.called-requires
called-requires g c =
    c.requires.1.taken c.args.schedule c.args.block c.words-words.ensures.schedule
    (block_from c.args.block (search rules) (search rules))

pub returns : goal.returns
returns g c =
    c.requires.1.given c.args.schedule c.args.block c.called.result c.words-words.ensures.schedule
    (block_from c.args.block (search rules) (search rules)) c.called.ensures
