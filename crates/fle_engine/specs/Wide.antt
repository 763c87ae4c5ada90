-- MongoDB's manual, Database Commands: what a command of this database comes to that a library sends. A clear one,
-- which holds no value of a collection's fields, passes with its own fields; any other is judged under its
-- collection's rules.
use Rattle.std.specs.Prelude.{ℕ, List, [], if◌then◌else◌}
use Rattle.bson_tree.specs.Spelling.{doc_bytes}
use Rattle.bson_tree.specs.Tree.{Items}
use Rattle.clear_commands.specs.ClearNames.{is_clear}
use Rattle.clear_commands.specs.ClearVerdicts.{clear_verdict}
use Rattle.command_marker.specs.Reply.{reply_clear_to}
use Rattle.context_machine.specs.Rings.{Finder}
use Rattle.data_key.specs.declared.key_doc.KeyDoc.{KeyDoc}
use Rattle.encrypt_schema.specs.Commands.Targets.{rows_of}
use Rattle.encrypt_schema.specs.Language.Collection.{Collection}
use Rattle.fle_engine.specs.Asked.{command_draws}
use Rattle.fle_engine.specs.More.{more_info_ruling, more_keys_ruling, more_marking, more_ruling}
use Rattle.fle_engine.specs.Replies.{sized}
use Rattle.fle_engine.specs.Rulings.{Ruling, by_refusal, makes, plain_plan}

-- a clear command comes to this, where nothing of it is refused; any other to that
abbrev pub cleared : Ruling → Items → Ruling → Ruling
cleared passing c judged = if is_clear c then by_refusal (clear_verdict 0 c) passing else judged

-- sealed under these keys and infos: a clear one stays as it is
unfoldable pub wide_ruling : Finder → List Collection → List ℕ → Items → Ruling
wide_ruling keys infos db c = cleared (sized (doc_bytes c)) c (more_ruling keys infos db c)

-- replied to
unfoldable pub wide_marking : List Collection → List ℕ → Items → Ruling
wide_marking infos db c = cleared (sized (reply_clear_to c)) c (more_marking infos db c)

-- its keys are asked for that these lack: a clear one needs none
unfoldable pub wide_keys_ruling : List KeyDoc → List Collection → List ℕ → Items → Ruling
wide_keys_ruling keys infos db c = cleared (makes (plain_plan [])) c (more_keys_ruling keys infos db c)

-- its info is asked for: a clear one needs none
unfoldable pub wide_info_ruling : List ℕ → Items → Ruling
wide_info_ruling db c = cleared (makes (plain_plan [])) c (more_info_ruling db c)

-- how many blocks are drawn as it is sealed: none for a clear one
abbrev pub wide_draws : List Collection → Items → ℕ
wide_draws infos c = if is_clear c then 0 else command_draws (rows_of infos c) c
