use Rattle.std.proofs.Common.{◌≡◌, drop}
use Rattle.encrypt_schema.specs.Language.TypeNames.{each_once, once_behind}
use Rattle.encrypt_schema.proofs.schema.types.each_once.Given as goal

abbrev pub invariant-loop-tag : goal.invariant-loop-tag
invariant-loop-tag l = once_behind l.kept.items (drop l.tag-index l.types) ≡ each_once l.types
