use Rattle.std.proofs.Common.{◌≡◌, ◌-◌}
use Rattle.aes_block.specs.Cipher.{rounds}
use Rattle.aes_block.proofs.plain_form.cipher.Given as goal

abbrev pub invariant-loop-r : goal.invariant-loop-r
invariant-loop-r l = l.state ≡ rounds l.w l.fn.block (l.r - 1)
