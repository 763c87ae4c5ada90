use Rattle.std.proofs.Common.{◌≡◌, ◌+◌, ◌*◌, ◌≤◌, ◌^◌, drop}
use Rattle.bson_splice.specs.Values.{given, removed}
use Rattle.bson_splice.proofs.values.sizes_of.Given as goal

abbrev pub invariant-loop-value : goal.invariant-loop-value
invariant-loop-value l = record {
  places : l.places + removed (drop l.value-index l.values) ≡ removed l.values;
  bytes : l.bytes + given (drop l.value-index l.values) ≡ given l.values;
  few : l.places ≤ 2 ^ 32 * l.value-index;
  less : l.bytes ≤ 2 ^ 63 * l.value-index;
}
