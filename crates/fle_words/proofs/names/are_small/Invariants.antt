use Rattle.std.proofs.Common.{◌≡◌, ◌+◌, drop, map}
use Rattle.std.specs.Prelude.{string_bytes}
use Rattle.data_key.specs.Written.{size_of}
use Rattle.fle_words.proofs.names.are_small.Given as goal

abbrev pub invariant-loop-name : goal.invariant-loop-name
invariant-loop-name l = record {
  all : size_of (map string_bytes l.names) + l.left ≡ 15999840 + size_of (map string_bytes (drop l.name-index l.names));
}
