-- MongoDB Client Side Encryption: a command before its marks are known
use Rattle.std.specs.Prelude.{◌≡◌, ◌+◌, ℕ, true, false, not, ◌&&◌, Option, Some, None, is_some, Result}
use Rattle.std.specs.Prelude.{Ok, Err, length, if◌then◌else◌}
use Rattle.bson_tree.specs.Tree.{Items, no_items, item}
use Rattle.command_marker.specs.Commands.{collection_in, is_marked_command, is_wide_command, passes}
use Rattle.encrypt_schema.specs.Commands.More.{target_more_verdict}
use Rattle.encrypt_schema.specs.Commands.Offences.{is_view}
use Rattle.encrypt_schema.specs.Commands.Visits.{target_verdict}
use Rattle.encrypt_schema.specs.Language.Collection.{Collection}
use Rattle.encrypt_schema.specs.Language.Names.{named}
use Rattle.encrypt_schema.specs.declared.command.marks.MarkFault.{MarkFault}
use Rattle.encrypt_schema.specs.declared.command.marks.MarkFault.TheVariants as faults
use Rattle.encrypt_schema.specs.declared.command.reason.Reason.TheVariants as reasons
use Rattle.context_machine.specs.States.{Asks, Started}
use Rattle.context_machine.specs.declared.begun.Begun.{Begun}
use Rattle.context_machine.specs.declared.begun.Begun.TheVariants as begun

-- the command passes; or it is a marked one, of which no info is kept yet; or this field of it is refused by itself.
-- Memory isn't asked for
abbrev pub BeginsAs : Started → Result Begun MarkFault → Type 0
BeginsAs s (Ok (begun.Pass command)) =
    (command ≡ s.command)
    × (target_verdict s.db s.command.start s.command.tree ≡ None)
    × (passes s.command.tree ≡ true)
BeginsAs s (Ok (begun.Ask asks)) =
    (asks ≡ record { command = s.command; info = None })
    × (target_verdict s.db s.command.start s.command.tree ≡ None)
    × (is_marked_command s.command.tree ≡ true)
BeginsAs s (Err (faults.Refused reason at)) =
    target_verdict s.db s.command.start s.command.tree ≡ Some (record { reason = reason; at = at })
BeginsAs s (Err faults.Memory) = ⊥

-- the same of a command that a library takes
abbrev pub BeginsMore : Started → Result Begun MarkFault → Type 0
BeginsMore s (Ok (begun.Pass command)) =
    (command ≡ s.command)
    × (target_more_verdict s.db s.command.start s.command.tree ≡ None)
    × (passes s.command.tree ≡ true)
BeginsMore s (Ok (begun.Ask asks)) =
    (asks ≡ record { command = s.command; info = None })
    × (target_more_verdict s.db s.command.start s.command.tree ≡ None)
    × (is_wide_command s.command.tree ≡ true)
BeginsMore s (Err (faults.Refused reason at)) =
    target_more_verdict s.db s.command.start s.command.tree ≡ Some (record { reason = reason; at = at })
BeginsMore s (Err faults.Memory) = ⊥

-- an info is kept where it has the name of the command's collection and none is kept
abbrev pub fed_info : Asks → Collection → Asks
fed_info a info =
    if named info.name (collection_in a.command.tree) && not (is_some a.info)
    then record { command = a.command; info = Some info } else a

-- an info that may not be there
abbrev pub fed_found : Asks → Option Collection → Asks
fed_found a None = a
fed_found a (Some info) = fed_info a info

-- the offset at which the value of the first field begins, of a command that begins at `at`; 0 where it has no field
abbrev pub first_value : ℕ → Items → ℕ
first_value at no_items = 0
first_value at (item name t is) = at + 4 + (2 + length name)

-- the collection is no view; or the command is refused at the value of its first field. Memory isn't asked for
abbrev pub AsksMarkings : Asks → Result Asks MarkFault → Type 0
AsksMarkings a (Ok b) = (b ≡ a) × (is_view a.info ≡ false)
AsksMarkings a (Err (faults.Refused reason at)) =
    (is_view a.info ≡ true) × (reason ≡ reasons.View) × (at ≡ first_value a.command.start a.command.tree)
AsksMarkings a (Err faults.Memory) = ⊥
