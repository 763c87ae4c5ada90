use Rattle.std.proofs.Common.{◌≡◌, bit_xor, length, map, take}
use Rattle.hmac_sha512.proofs.key_block.padded.Given as goal

abbrev pub invariant-loop-i : goal.invariant-loop-i
invariant-loop-i l = record {
  long : length l.out ≡ 128;
  so_far : take l.i l.out ≡ map (λ b. bit_xor b l.pad) (take l.i l.block);
}
