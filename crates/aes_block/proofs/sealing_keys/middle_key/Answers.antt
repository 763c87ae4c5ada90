use Rattle.std.proofs.Common.{ap, ◌∙◌}
use Rattle.std.specs.Prelude.{map, bit_xor}
use Rattle.aes_block.specs.Steps.{round_key}
use Rattle.aes_block.proofs.Bytes.{keyed_is}
use Rattle.aes_block.proofs.sealing_keys.middle_key.Goals as goal

pub returns : goal.returns
returns c = keyed_is (round_key c.args.w.now c.args.r)
    (c.with_63.ensures ∙ ap (map (λ b. bit_xor b 0x63)) c.round_key.ensures) c.in_basis.ensures.mapped c.others.ensures
