-- MongoDB's manual, Database Commands: what a command comes to that a library sends, which takes more of them than
-- insert, update, delete and find, and refuses of each what says a value where none belongs
use Rattle.std.specs.Prelude.{◌≡◌, ℕ, true, List, Result, Ok, Err}
use Rattle.bson_codec.specs.Borrowed.{At}
use Rattle.bson_tree.specs.Tree.{Items}
use Rattle.command_marker.specs.Commands.{passes}
use Rattle.context_machine.specs.Rings.{Finder}
use Rattle.encrypt_schema.specs.Commands.More.{contents_verdict, more_verdict, target_more_verdict}
use Rattle.encrypt_schema.specs.Commands.Targets.{rows_in, rows_of}
use Rattle.encrypt_schema.specs.Language.Collection.{Collection}
use Rattle.encrypt_schema.specs.Language.Row.{Row}
use Rattle.encrypt_schema.specs.declared.command.marks.MarkFault.{MarkFault}
use Rattle.data_key.specs.declared.key_doc.KeyDoc.{KeyDoc}
use Rattle.fle_engine.specs.Asked.{asks, info_filter}
use Rattle.fle_engine.specs.Replies.{replies}
use Rattle.fle_engine.specs.Rulings.{Ruling, Tells, by_refusal, makes, plain_plan}
use Rattle.fle_engine.specs.Sealing.{seal_under}
use Rattle.fle_engine.specs.declared.starting.Started.{Started}
use Rattle.fle_engine.specs.declared.starting.Started.TheVariants as starts

-- what a command of this database comes to under these infos: a library refuses it; else by what becomes of it under
-- its rules
abbrev pub more_with : (List Row → Items → Ruling) → List Collection → List ℕ → Items → Ruling
more_with accepted infos db c = by_refusal (more_verdict db infos 0 c) (accepted (rows_of infos c) c)

-- sealed under these keys
unfoldable pub more_ruling : Finder → List Collection → List ℕ → Items → Ruling
more_ruling keys infos db c = more_with (seal_under keys) infos db c

-- replied to
unfoldable pub more_marking : List Collection → List ℕ → Items → Ruling
more_marking infos db c = more_with replies infos db c

-- its keys are asked for that these lack
unfoldable pub more_keys_ruling : List KeyDoc → List Collection → List ℕ → Items → Ruling
more_keys_ruling keys infos db c = more_with (asks keys) infos db c

-- its info is asked for: it is refused for a field by itself, or comes to the filter of the info
unfoldable pub more_info_ruling : List ℕ → Items → Ruling
more_info_ruling db c = by_refusal (target_more_verdict db 0 c) (makes (plain_plan (info_filter c)))

-- the same by its contents under these rules, where its fields aren't refused
abbrev pub more_contents : (List Row → Items → Ruling) → List Row → Items → Ruling
more_contents accepted rows c = by_refusal (contents_verdict rows 0 c) (accepted rows c)

-- whatever becomes of a command that isn't refused: it passes; or this command comes to what its contents come to under
-- the rules of its collection; or it is refused
abbrev pub StartsMore : List Collection → List ℕ → At → Result Started MarkFault → Type 0
StartsMore infos db command (Ok starts.Passing) = passes command.tree ≡ true
StartsMore infos db command (Ok (starts.Marking state)) =
    (state.command ≡ command)
    × ((accepted : List Row → Items → Ruling) → more_with accepted infos db command.tree
    ≡ more_contents accepted (rows_in state.info) command.tree)
    × (rows_of infos command.tree ≡ rows_in state.info)
StartsMore infos db command (Err fault) =
    (accepted : List Row → Items → Ruling) → Tells fault (more_with accepted infos db command.tree)
