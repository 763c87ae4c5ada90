use Rattle.std.proofs.Common.{◌∙◌, refl}
use Rattle.aes_block.specs.Block.{four_words}
use Rattle.aes_block.proofs.words.bytes_of.Goals as goal

pub returns : goal.returns
unfolding four_words
returns c = rw (
  c.copy_from_slice.ensures.after ∙ c.to_be_bytes.ensures,
  c.copy_from_slice-2.ensures.after
      ∙ c.to_be_bytes-2.ensures,
  c.copy_from_slice-3.ensures.after ∙ c.to_be_bytes-3.ensures,
  c.copy_from_slice-4.ensures.after ∙ c.to_be_bytes-4.ensures,
) refl
