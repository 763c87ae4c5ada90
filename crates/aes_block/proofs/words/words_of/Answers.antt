use Rattle.std.proofs.Common.{◌∙◌, sym, rules}
use Rattle.aes_block.specs.Block.{four_words}
use Rattle.aes_block.proofs.Entries.{sixteen}
use Rattle.aes_block.proofs.WordBytes.{words_bytes}
use Rattle.aes_block.proofs.words.words_of.Goals as goal

pub returns : goal.returns
unfolding four_words
returns c = words_bytes c.args.s (search rules) _ _ _ _ c.from_be_bytes.ensures c.from_be_bytes-2.ensures
    c.from_be_bytes-3.ensures c.from_be_bytes-4.ensures ∙ sym (sixteen c.args.s (search rules))
