use Rattle.aes_block.specs.Steps.{inv_mix_columns}
use Rattle.aes_block.proofs.Entries.{state_equal}
use Rattle.aes_block.proofs.steps.inv_mix_columns.Goals as goal

pub returns : goal.returns
unfolding inv_mix_columns
returns c = state_equal c.unmixed_byte.ensures c.unmixed_byte-2.ensures c.unmixed_byte-3.ensures
    c.unmixed_byte-4.ensures c.unmixed_byte-5.ensures c.unmixed_byte-6.ensures c.unmixed_byte-7.ensures
    c.unmixed_byte-8.ensures c.unmixed_byte-9.ensures c.unmixed_byte-10.ensures c.unmixed_byte-11.ensures
    c.unmixed_byte-12.ensures c.unmixed_byte-13.ensures c.unmixed_byte-14.ensures c.unmixed_byte-15.ensures
    c.unmixed_byte-16.ensures
