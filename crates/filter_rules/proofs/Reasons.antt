-- What keeps a value from being stored comes before what keeps it from being compared.
use Rattle.std.proofs.Common.{◌≡◌, Bool, true, false, ◌++◌, Some}
use Rattle.encrypt_schema.specs.declared.command.reason.Reason.{Reason}
use Rattle.encrypt_schema.specs.declared.command.reason.Reason.TheVariants.{TypeNotAllowed, AlreadyEncrypted}
use Rattle.encrypt_schema.specs.declared.command.reason.Reason.TheVariants.{RandomCompared, OperatorOnProtected}
use Rattle.encrypt_schema.specs.Commands.Offences.{when, least}

-- whether its type isn't allowed, it is a payload, the algorithm is random, it is a regex
pub stored_first : (type payload random regex : Bool) (reason : Reason)
    → Some reason ≡ least (when type TypeNotAllowed ++ when payload AlreadyEncrypted)
    → Some reason
    ≡ least (when type TypeNotAllowed ++ when payload AlreadyEncrypted ++ when random RandomCompared
    ++ when regex OperatorOnProtected)
stored_first true true true true reason h = h
stored_first true true true false reason h = h
stored_first true true false true reason h = h
stored_first true true false false reason h = h
stored_first true false true true reason h = h
stored_first true false true false reason h = h
stored_first true false false true reason h = h
stored_first true false false false reason h = h
stored_first false true true true reason h = h
stored_first false true true false reason h = h
stored_first false true false true reason h = h
stored_first false true false false reason h = h
stored_first false false random regex reason h = absurd cc
