use Rattle.aes_block.specs.Steps.{mix_columns}
use Rattle.aes_block.proofs.Entries.{state_equal}
use Rattle.aes_block.proofs.steps.mix_columns.Goals as goal

pub returns : goal.returns
unfolding mix_columns
returns c = state_equal c.mixed_byte.ensures c.mixed_byte-2.ensures c.mixed_byte-3.ensures c.mixed_byte-4.ensures
    c.mixed_byte-5.ensures c.mixed_byte-6.ensures c.mixed_byte-7.ensures c.mixed_byte-8.ensures c.mixed_byte-9.ensures
    c.mixed_byte-10.ensures c.mixed_byte-11.ensures c.mixed_byte-12.ensures c.mixed_byte-13.ensures
    c.mixed_byte-14.ensures c.mixed_byte-15.ensures c.mixed_byte-16.ensures
