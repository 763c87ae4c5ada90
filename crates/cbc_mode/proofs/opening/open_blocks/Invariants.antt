use Rattle.std.proofs.Common.{◌≡◌, ◌*◌, ◌-◌, ◌++◌, length, take, drop}
use Rattle.cbc_mode.specs.Cbc.{opened_blocks, cbc_opened}
use Rattle.cbc_mode.proofs.opening.open_blocks.Given as goal

abbrev pub invariant-loop-i : goal.invariant-loop-i
invariant-loop-i g l = record {
  so_far :
      take (16 * (2 * l.i)) l.out ++ opened_blocks l.schedule (l.count - 2 * l.i) l.before
      (drop (16 * (2 * l.i)) l.sealed)
      ≡ cbc_opened l.schedule l.fn.iv l.sealed;
  behind : drop (length l.sealed) l.out ≡ drop (length l.sealed) l.initial.out;
}
