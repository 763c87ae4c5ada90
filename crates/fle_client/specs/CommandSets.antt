-- MongoDB's manual, Database Commands: what a command comes to, by the commands that a client takes: insert, update,
-- delete and find; or those that a library takes beside them, each refused for what says a value where none belongs
use Rattle.std.specs.Prelude.{◌≡◌, ℕ, true, false, List, Option, Some, None, Result, Ok, Err}
use Rattle.bson_tree.specs.Tree.{Items}
use Rattle.command_marker.specs.Commands.{passes}
use Rattle.context_machine.specs.Rings.{Finder}
use Rattle.context_machine.specs.States.{Started}
use Rattle.context_machine.specs.declared.begun.Begun.{Begun}
use Rattle.context_machine.specs.declared.begun.Begun.TheVariants as begun
use Rattle.data_key.specs.declared.key_doc.KeyDoc.{KeyDoc}
use Rattle.encrypt_schema.specs.Commands.More.{target_more_verdict}
use Rattle.encrypt_schema.specs.Commands.Targets.{rows_of}
use Rattle.encrypt_schema.specs.Commands.Visits.{Refusal, target_verdict}
use Rattle.encrypt_schema.specs.Language.Collection.{Collection}
use Rattle.encrypt_schema.specs.declared.command.marks.MarkFault.{MarkFault}
use Rattle.encrypt_schema.specs.declared.command.marks.MarkFault.TheVariants as faults
use Rattle.fle_engine.specs.Asked.{command_draws, info_ruling, keys_ruling}
use Rattle.fle_engine.specs.Replies.{mark_ruling}
use Rattle.fle_engine.specs.Rulings.{Ruling}
use Rattle.fle_engine.specs.Sealing.{seal_ruling}
use Rattle.fle_engine.specs.Wide.{wide_draws, wide_info_ruling, wide_keys_ruling, wide_marking, wide_ruling}
use Rattle.fle_client.specs.declared.commands.CommandSet.{CommandSet}
use Rattle.fle_client.specs.declared.commands.CommandSet.TheVariants as sets

-- the verdict on a command's fields by themselves, of a command of this database that begins at `at`
abbrev pub target_by : CommandSet → List ℕ → ℕ → Items → Option Refusal
target_by sets.Four db at c = target_verdict db at c
target_by sets.More db at c = target_more_verdict db at c

-- what a command of this database comes to that is sealed under these keys and infos
abbrev pub seal_by : CommandSet → Finder → List Collection → List ℕ → Items → Ruling
seal_by sets.Four keys infos db c = seal_ruling keys infos db c
seal_by sets.More keys infos db c = wide_ruling keys infos db c

-- the same where it is replied to under these infos
abbrev pub mark_by : CommandSet → List Collection → List ℕ → Items → Ruling
mark_by sets.Four infos db c = mark_ruling infos db c
mark_by sets.More infos db c = wide_marking infos db c

-- the same where its info is asked for
abbrev pub info_by : CommandSet → List ℕ → Items → Ruling
info_by sets.Four db c = info_ruling db c
info_by sets.More db c = wide_info_ruling db c

-- the same where those of its keys are asked for that these lack
abbrev pub keys_by : CommandSet → List KeyDoc → List Collection → List ℕ → Items → Ruling
keys_by sets.Four keys infos db c = keys_ruling keys infos db c
keys_by sets.More keys infos db c = wide_keys_ruling keys infos db c

-- how many blocks are drawn for a command with these infos that is sealed
abbrev pub draws_by : CommandSet → List Collection → Items → ℕ
draws_by sets.Four infos c = command_draws (rows_of infos c) c
draws_by sets.More infos c = wide_draws infos c

-- the command passes; or its info is asked for, and none is kept yet; or this field of it is refused by itself. Memory
-- isn't asked for
abbrev pub BeginsBy : CommandSet → Started → Result Begun MarkFault → Type 0
BeginsBy set s (Ok (begun.Pass command)) =
    (command ≡ s.command)
    × (target_by set s.db s.command.start s.command.tree ≡ None)
    × (passes s.command.tree ≡ true)
BeginsBy set s (Ok (begun.Ask asks)) =
    (asks ≡ record { command = s.command; info = None })
    × (target_by set s.db s.command.start s.command.tree ≡ None)
    × (passes s.command.tree ≡ false)
BeginsBy set s (Err (faults.Refused reason at)) =
    target_by set s.db s.command.start s.command.tree ≡ Some (record { reason = reason; at = at })
BeginsBy set s (Err faults.Memory) = ⊥
