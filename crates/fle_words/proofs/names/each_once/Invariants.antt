use Rattle.std.proofs.Common.{◌≡◌, drop, map}
use Rattle.std.specs.Prelude.{string_bytes}
use Rattle.fle_words.specs.Words.{each_once}
use Rattle.fle_words.proofs.names.each_once.Given as goal

abbrev pub invariant-loop-name : goal.invariant-loop-name
invariant-loop-name l = record {
  once : each_once (map string_bytes l.names) (map string_bytes (drop l.name-index l.names))
      ≡ each_once (map string_bytes l.names) (map string_bytes l.names);
}
