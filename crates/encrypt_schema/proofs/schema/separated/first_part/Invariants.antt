-- The bytes so far have no separator: they belong to the first part.
use Rattle.std.proofs.Common.{◌≡◌, take, drop}
use Rattle.encrypt_schema.specs.Language.Separated.{separated}
use Rattle.encrypt_schema.specs.Views.Parts.{before}
use Rattle.encrypt_schema.proofs.schema.separated.first_part.Given as goal

abbrev pub invariant-loop-i : goal.invariant-loop-i
invariant-loop-i l =
    before (take l.i l.bytes) (separated l.separator (drop l.i l.bytes)) ≡ separated l.separator l.bytes
