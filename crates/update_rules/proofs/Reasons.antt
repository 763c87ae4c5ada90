-- What the tests of an operator come to.
use Rattle.std.proofs.Common.{◌≡◌, ℕ, Bool, true, false, ◌&&◌, List, [], ◌++◌, cond, refl, ap}
use Rattle.encrypt_schema.specs.declared.command.operators.Operator.{Operator}
use Rattle.encrypt_schema.specs.declared.command.reason.Reason.{Reason}
use Rattle.encrypt_schema.specs.declared.command.reason.Reason.TheVariants.{BadField}
use Rattle.encrypt_schema.specs.Language.Row.{Row}
use Rattle.encrypt_schema.specs.Paths.Dotted.{is_dollar}
use Rattle.encrypt_schema.specs.Commands.Stations.{Entry, Operators, Sets, Argument, Passed}
use Rattle.encrypt_schema.specs.Commands.Stations.{is_document, is_set, operator_of}
use Rattle.encrypt_schema.specs.Commands.Offences.{least, of_role, ruled_offence, unless}

-- no argument of an operator has a role
no_role : (rows : List Row) (set dollar : Bool) (operator : Operator) (e : Entry)
    → of_role rows (cond set Sets (cond dollar (Argument operator) Passed)) e ≡ []
no_role rows true dollar operator e = refl
no_role rows false true operator e = refl
no_role rows false false operator e = refl

-- an operator is refused for its name and its type alone
pub operator_reasons : (rows : List Row) (elder : List (List ℕ)) (e : Entry)
    → ruled_offence rows Operators elder e
    ≡ least (unless (is_dollar e.name) BadField ++ unless (is_document e) BadField)
unfolding ruled_offence
operator_reasons rows elder e =
    ap (λ (role : List Reason). least (role ++ (unless (is_dollar e.name) BadField ++ unless (is_document e) BadField)))
    (no_role rows (is_set e.name && is_document e) (is_dollar e.name && is_document e) (operator_of e.name) e)
