-- The first 00 of all bytes is that of the bytes that are left, behind those that were passed.
use Rattle.std.proofs.Common.{◌≡◌, ◌+◌, drop, option_map}
use Rattle.bson_codec.specs.Reading.{before_zero}
use Rattle.bson_codec.proofs.raw.zero_by_one.Given as goal

abbrev pub invariant-loop-i : goal.invariant-loop-i
invariant-loop-i l = option_map (λ n. n + l.i) (before_zero (drop l.i l.bytes)) ≡ before_zero l.bytes
