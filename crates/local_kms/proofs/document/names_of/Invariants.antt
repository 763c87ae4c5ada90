use Rattle.std.proofs.Common.{◌≡◌, ◌++◌, drop, map}
use Rattle.std.specs.Prelude.{string_bytes}
use Rattle.local_kms.proofs.document.names_of.Given as goal

abbrev pub invariant-loop-word : goal.invariant-loop-word
invariant-loop-word l = record {
  put : l.names.items ++ map string_bytes (drop l.word-index l.texts) ≡ map string_bytes l.texts;
}
