use Rattle.std.proofs.Common.{◌≡◌, ◌*◌, ◌-◌, ◌++◌, take, drop}
use Rattle.cbc_mode.specs.Cbc.{sealed_blocks, cbc_sealed}
use Rattle.cbc_mode.specs.Padding.{pad}
use Rattle.cbc_mode.proofs.sealing.cbc_seal_into.Given as goal

abbrev pub invariant-loop-i : goal.invariant-loop-i
invariant-loop-i g l =
    take (16 * l.i) l.out ++ sealed_blocks l.schedule (l.i-end - l.i) l.before (drop (16 * l.i) (pad l.plain))
    ≡ cbc_sealed l.schedule l.fn.iv (pad l.plain)
