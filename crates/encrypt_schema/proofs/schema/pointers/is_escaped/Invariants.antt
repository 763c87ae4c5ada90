use Rattle.std.proofs.Common.{◌≡◌, drop, is_some}
use Rattle.encrypt_schema.specs.Language.Pointers.{unescaped}
use Rattle.encrypt_schema.specs.Views.Stated.{spelled}
use Rattle.encrypt_schema.proofs.schema.pointers.is_escaped.Given as goal

abbrev pub invariant-loop-byte : goal.invariant-loop-byte
invariant-loop-byte l = is_some (spelled l.tilde (drop l.byte-index l.token)) ≡ is_some (unescaped l.token)
