use Rattle.std.proofs.Common.{◌≡◌, length, take}
use Rattle.aes_block.specs.Block.{xor_bytes}
use Rattle.cbc_mode.proofs.blocks.xored.Given as goal

abbrev pub invariant-loop-i : goal.invariant-loop-i
invariant-loop-i l = record {
  long : length l.out ≡ 16;
  so_far : take l.i l.out ≡ xor_bytes (take l.i l.a) (take l.i l.b);
}
