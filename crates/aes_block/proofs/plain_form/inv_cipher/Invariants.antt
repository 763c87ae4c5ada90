use Rattle.std.proofs.Common.{◌≡◌, ◌-◌}
use Rattle.aes_block.specs.Cipher.{inv_rounds}
use Rattle.aes_block.proofs.plain_form.inv_cipher.Given as goal

abbrev pub invariant-loop-r : goal.invariant-loop-r
invariant-loop-r l = l.state ≡ inv_rounds l.w l.fn.block (l.r - 1)
