-- What becomes of a command whose fields and collection are looked at.
use Rattle.std.specs.Prelude.{◌≡◌, ℕ, true, List, Result, Ok, Err}
use Rattle.bson_codec.specs.Borrowed.{At}
use Rattle.bson_tree.specs.Tree.{Items}
use Rattle.command_marker.specs.Commands.{passes}
use Rattle.encrypt_schema.specs.Commands.Targets.{rows_in, rows_of}
use Rattle.encrypt_schema.specs.Language.Collection.{Collection}
use Rattle.encrypt_schema.specs.Language.Row.{Row}
use Rattle.encrypt_schema.specs.declared.command.marks.MarkFault.{MarkFault}
use Rattle.fle_engine.specs.Rulings.{Ruling, Tells, contents_with, ruling_with}
use Rattle.fle_engine.specs.declared.starting.Started.{Started}
use Rattle.fle_engine.specs.declared.starting.Started.TheVariants as starts

-- whatever becomes of a command that isn't refused: it passes; or this command comes to what its contents come to under
-- the rules of its collection; or it is refused
abbrev pub StartsAs : List Collection → List ℕ → At → Result Started MarkFault → Type 0
StartsAs infos db command (Ok starts.Passing) = passes command.tree ≡ true
StartsAs infos db command (Ok (starts.Marking state)) =
    (state.command ≡ command)
    × ((accepted : List Row → Items → Ruling) → ruling_with accepted infos db command.tree
    ≡ contents_with accepted (rows_in state.info) command.tree)
    × (rows_of infos command.tree ≡ rows_in state.info)
StartsAs infos db command (Err fault) =
    (accepted : List Row → Items → Ruling) → Tells fault (ruling_with accepted infos db command.tree)
