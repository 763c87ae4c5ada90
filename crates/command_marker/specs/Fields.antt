-- MongoDB commands: their fields by themselves, one after the other
use Rattle.std.specs.Prelude.{ℕ, ◌+◌, Bool, not, ◌&&◌, ◌||◌, List, [], ◌∷◌, ◌++◌, length, Option, None}
use Rattle.bson_tree.specs.Tree.{Items, no_items, item}
use Rattle.bson_tree.specs.Spelling.{value_bytes}
use Rattle.encrypt_schema.specs.declared.command.reason.Reason.{Reason}
use Rattle.encrypt_schema.specs.declared.command.reason.Reason.TheVariants.{NotACommand, BadField, WrongDb}
use Rattle.encrypt_schema.specs.Language.Names.{named}
use Rattle.encrypt_schema.specs.Commands.Stations.{Entry, command_of}
use Rattle.encrypt_schema.specs.Commands.Offences.{when, least, is_db, is_empty, is_library, is_marked, is_string}
use Rattle.encrypt_schema.specs.Commands.Offences.{text_of}
use Rattle.encrypt_schema.specs.Commands.Visits.{entry, Refusal, refused_at, or_else}

-- the name of a marked command
abbrev pub is_marked_name : List ℕ → Bool
is_marked_name name = is_marked (command_of (name ∷ []))

-- the name of a command that a library alone takes
abbrev pub is_library_name : List ℕ → Bool
is_library_name name = is_library (command_of (name ∷ []))

-- the first field of a command that doesn't pass: no command that is known; a marked command whose value is no
-- string, or is the empty one
abbrev pub first_reasons : Entry → List Reason
first_reasons e =
    when (not (is_marked_name e.name)) NotACommand
    ++ when (is_marked_name e.name && (not (is_string e) || is_empty (text_of e.raw))) BadField

-- the name of a command that a library takes
abbrev pub is_wide_name : List ℕ → Bool
is_wide_name name = is_marked_name name || is_library_name name

-- the first field of a command that doesn't pass, to a library: no command that it takes; one whose value is no string,
-- or is the empty one
abbrev pub first_more : Entry → List Reason
first_more e =
    when (not (is_wide_name e.name)) NotACommand
    ++ when (is_wide_name e.name && (not (is_string e) || is_empty (text_of e.raw))) BadField

-- a later field of a command of this name, on the database `db`, where `$db` was seen before or not
abbrev pub later_reasons : List ℕ → List ℕ → Bool → Entry → List Reason
later_reasons db command seen e =
    when (named e.name command) BadField
    ++ when (is_db e.name && (seen || not (is_string e))) BadField
    ++ when (is_db e.name && is_string e && not (named (text_of e.raw) db)) WrongDb

-- the refusal of the first of later fields, which begin at `at`, that has an offence
abbrev pub later_refusal : List ℕ → List ℕ → Bool → ℕ → Items → Option Refusal
later_refusal db command seen at no_items = None
later_refusal db command seen at (item name t is) =
    or_else
    (refused_at (at + (2 + length name)) (least (later_reasons db command seen (entry name t))))
    (later_refusal db command (seen || is_db name) (at + (2 + length name) + length (value_bytes t)) is)
