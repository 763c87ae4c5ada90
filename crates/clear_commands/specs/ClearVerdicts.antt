-- MongoDB's manual, Database Commands: why a clear command is refused, and at which value
use Rattle.std.specs.Prelude.{◌≡◌, ℕ, ◌+◌, Bool, not, ◌&&◌, ◌||◌, List, [], ◌∷◌, ◌++◌, length, Option, Some, None}
use Rattle.std.specs.Prelude.{true, false, Result, Ok, Err, if◌then◌else◌}
use Rattle.bson_tree.specs.Tree.{Tree, Items, no_items, item, kids_of}
use Rattle.bson_tree.specs.Spelling.{value_bytes}
use Rattle.bson_codec.specs.Borrowed.{At}
use Rattle.encrypt_schema.specs.declared.command.reason.Reason.{Reason}
use Rattle.encrypt_schema.specs.declared.command.reason.Reason.TheVariants.{BadField, FieldNotAllowed}
use Rattle.encrypt_schema.specs.Commands.Offences.{when, unless, least}
use Rattle.encrypt_schema.specs.Commands.Visits.{entry, Refusal, refused_at, or_else}
use Rattle.encrypt_schema.specs.Language.Names.{is_among}
use Rattle.encrypt_schema.specs.Language.Values.{all_values, is_array_value, is_document_value, is_string_value}
use Rattle.clear_commands.specs.declared.command.ClearCommand.{ClearCommand}
use Rattle.clear_commands.specs.declared.kind.ClearDocument.{ClearDocument}
use Rattle.clear_commands.specs.declared.kind.ClearDocument.TheVariants as documents
use Rattle.clear_commands.specs.declared.kind.ClearKind.{ClearKind}
use Rattle.clear_commands.specs.declared.kind.ClearKind.TheVariants as kinds
use Rattle.clear_commands.specs.declared.verdict.ClearVerdict.{ClearVerdict}
use Rattle.clear_commands.specs.declared.verdict.ClearVerdict.TheVariants as verdicts
use Rattle.clear_commands.specs.declared.verdict.Refused.{Refused}
use Rattle.clear_commands.specs.ClearFields.{clear_kind, may_stand}
use Rattle.clear_commands.specs.ClearNames.{command_in, is_clear}

-- a document or an array
abbrev pub is_branch : Tree → Bool
is_branch t = is_document_value t || is_array_value t

-- one value
abbrev pub is_word : Tree → Bool
is_word t = not (is_branch t)

-- what a value holds has no elements
abbrev pub is_flat : Tree → Bool
is_flat t = all_values is_word (kids_of t)

-- no document, and no array but one of flat values
abbrev pub is_list : Tree → Bool
is_list t = not (is_document_value t) && all_values is_flat (kids_of t)

-- a field doesn't hold what one of its kind holds
abbrev pub kind_reasons : ClearKind → Tree → List Reason
kind_reasons kinds.Word t = when (is_branch t) FieldNotAllowed
kind_reasons kinds.Anything t = []
kind_reasons kinds.Flat t = unless (is_list t) FieldNotAllowed
kind_reasons kinds.Hint t = unless (is_document_value t || is_string_value t) FieldNotAllowed
kind_reasons (kinds.Own document) t = unless (is_document_value t) FieldNotAllowed
kind_reasons kinds.Unlisted t = FieldNotAllowed ∷ []

-- a field behind fields of these names: it stands for the second time; else by what it holds
abbrev pub clear_reasons : ClearKind → List (List ℕ) → List ℕ → Tree → List Reason
clear_reasons kind elder name t = if is_among name elder then BadField ∷ [] else kind_reasons kind t

-- the first of a document's elements, which begin at `at`, that may not stand in it
abbrev pub elements_refusal : ClearDocument → ℕ → Items → Option Refusal
elements_refusal document at no_items = None
elements_refusal document at (item name t is) =
    or_else
    (refused_at (at + (2 + length name)) (least (unless (may_stand document (entry name t)) FieldNotAllowed)))
    (elements_refusal document (at + (2 + length name) + length (value_bytes t)) is)

-- the refusal inside a field whose value begins at `at`
abbrev pub inside_refusal : ClearKind → ℕ → Tree → Option Refusal
inside_refusal kinds.Hint at t = elements_refusal documents.IndexKeys (at + 4) (kids_of t)
inside_refusal (kinds.Own document) at t = elements_refusal document (at + 4) (kids_of t)
inside_refusal _ at t = None

-- the refusal of a field whose value begins at `at`: its own comes before those inside it
abbrev pub field_refusal : ClearKind → List (List ℕ) → ℕ → List ℕ → Tree → Option Refusal
field_refusal kind elder at name t =
    or_else (refused_at at (least (clear_reasons kind elder name t))) (inside_refusal kind at t)

-- the first refusal of fields that begin at `at`, behind fields of these names, of a command that is called `own`
abbrev pub fields_refusal : ClearCommand → List ℕ → List (List ℕ) → ℕ → Items → Option Refusal
fields_refusal command own elder at no_items = None
fields_refusal command own elder at (item name t is) =
    or_else
    (field_refusal (clear_kind command own name) elder (at + (2 + length name)) name t)
    (fields_refusal command own (elder ++ name ∷ []) (at + (2 + length name) + length (value_bytes t)) is)

-- the same of a document, if it is a clear command
abbrev pub verdict_by : Option ClearCommand → List ℕ → ℕ → Items → Option Refusal
verdict_by None own at c = None
verdict_by (Some command) own at c = fields_refusal command own [] (at + 4) c

-- the verdict on a clear command that begins at `at`
unfoldable pub clear_verdict : ℕ → Items → Option Refusal
clear_verdict at no_items = None
clear_verdict at (item name t is) = verdict_by (command_in (item name t is)) name at (item name t is)

-- nothing is refused, or this is
abbrev pub Refuses : Option Refusal → Result (Unit {0}) Refused → Type 0
Refuses refusal (Ok _) = refusal ≡ None
Refuses refusal (Err refused) = refusal ≡ Some (record { reason = refused.reason; at = refused.at })

-- what becomes of a command: it is no clear one; it is one, and passes; it is one, and is refused here
abbrev pub JudgesClear : At → ClearVerdict → Type 0
JudgesClear c verdicts.NotClear = is_clear c.tree ≡ false
JudgesClear c verdicts.Clear = (is_clear c.tree ≡ true) × (clear_verdict c.start c.tree ≡ None)
JudgesClear c (verdicts.Refused reason at) =
    (is_clear c.tree ≡ true) × (clear_verdict c.start c.tree ≡ Some (record { reason = reason; at = at }))
