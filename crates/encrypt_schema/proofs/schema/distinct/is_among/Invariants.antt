use Rattle.std.proofs.Common.{◌≡◌, drop}
use Rattle.encrypt_schema.specs.Language.Names.{is_among}
use Rattle.encrypt_schema.specs.Views.Borrowed.{names}
use Rattle.encrypt_schema.proofs.schema.distinct.is_among.Given as goal

abbrev pub invariant-loop-word : goal.invariant-loop-word
invariant-loop-word l = is_among l.name (names (drop l.word-index l.words)) ≡ is_among l.name (names l.words)
