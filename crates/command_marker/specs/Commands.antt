-- MongoDB commands: what is answered about one.
use Rattle.std.specs.Prelude.{◌≡◌, ℕ, Bool, true, false, ◌||◌, List, [], Option, Some, None, Result, Ok, Err}
use Rattle.bson_tree.specs.Tree.{Items, no_items, item}
use Rattle.bson_codec.specs.Borrowed.{At}
use Rattle.encrypt_schema.specs.declared.command.marks.Mark.{Mark}
use Rattle.encrypt_schema.specs.declared.command.marks.MarkFault.{MarkFault}
use Rattle.encrypt_schema.specs.declared.command.marks.MarkFault.TheVariants as faults
use Rattle.encrypt_schema.specs.Commands.More.{beyond_verdict, contents_verdict, target_more_verdict}
use Rattle.encrypt_schema.specs.Commands.Offences.{text_of, is_library, is_marked}
use Rattle.encrypt_schema.specs.Language.Row.{Row}
use Rattle.encrypt_schema.specs.Commands.Stations.{is_passed, command_of}
use Rattle.encrypt_schema.specs.Commands.Visits.{names_of, raw_of, Refusal, target_verdict, content_verdict, roles}
use Rattle.command_marker.specs.declared.destination.Target.{Target}
use Rattle.command_marker.specs.declared.destination.Target.TheVariants as targets

-- a command whose values are protected, by the name of its first field: insert, update, delete, find
abbrev pub is_marked_command : Items → Bool
is_marked_command c = is_marked (command_of (names_of c))

-- a command that a library alone takes, by the name of its first field: count, findAndModify, distinct, createIndexes
abbrev pub is_library_command : Items → Bool
is_library_command c = is_library (command_of (names_of c))

-- a command that a library takes: one of either
abbrev pub is_wide_command : Items → Bool
is_wide_command c = is_marked_command c || is_library_command c

-- the name of a command: that of its first field; no byte where there is none
abbrev pub first_name : Items → List ℕ
first_name no_items = []
first_name (item name t is) = name

-- the text in a command's first field: the name of its collection
abbrev pub collection_in : Items → List ℕ
collection_in no_items = []
collection_in (item name t is) = text_of (raw_of t)

-- the command passes
abbrev pub passes : Items → Bool
passes no_items = false
passes (item name t is) = is_passed name

-- nothing is refused, or this is; memory isn't asked for
abbrev pub Refuses : Option Refusal → Result (Unit {0}) MarkFault → Type 0
Refuses refusal (Ok _) = refusal ≡ None
Refuses refusal (Err (faults.Refused reason at)) = refusal ≡ Some (record { reason = reason; at = at })
Refuses refusal (Err faults.Memory) = ⊥

-- the command passes, or it is marked, on this collection, and its fields aren't refused by themselves; else this is
-- refused. Memory isn't asked for
abbrev pub AimsAt : List ℕ → At → Result Target MarkFault → Type 0
AimsAt db c (Ok targets.Pass) = (target_verdict db c.start c.tree ≡ None) × (passes c.tree ≡ true)
AimsAt db c (Ok (targets.Collection name)) =
    (target_verdict db c.start c.tree ≡ None)
    × (is_marked_command c.tree ≡ true)
    × (name.now ≡ collection_in c.tree)
AimsAt db c (Err (faults.Refused reason at)) =
    target_verdict db c.start c.tree ≡ Some (record { reason = reason; at = at })
AimsAt db c (Err faults.Memory) = ⊥

-- the same of a command that a library takes
abbrev pub AimsMore : List ℕ → At → Result Target MarkFault → Type 0
AimsMore db c (Ok targets.Pass) = (target_more_verdict db c.start c.tree ≡ None) × (passes c.tree ≡ true)
AimsMore db c (Ok (targets.Collection name)) =
    (target_more_verdict db c.start c.tree ≡ None)
    × (is_wide_command c.tree ≡ true)
    × (name.now ≡ collection_in c.tree)
AimsMore db c (Err (faults.Refused reason at)) =
    target_more_verdict db c.start c.tree ≡ Some (record { reason = reason; at = at })
AimsMore db c (Err faults.Memory) = ⊥

-- the marks of a command, where its contents are not refused; else this is the verdict; memory may run out
-- at any time
abbrev pub TellsMarks : List Row → At → Result (List Mark) MarkFault → Type 0
TellsMarks rows c (Ok marks) = (marks ≡ roles rows c.start c.tree) × (content_verdict rows c.start c.tree ≡ None)
TellsMarks rows c (Err (faults.Refused reason at)) =
    content_verdict rows c.start c.tree ≡ Some (record { reason = reason; at = at })
TellsMarks rows c (Err faults.Memory) = Unit {0}

-- the same, where a library refuses nothing beyond its contents either; else this is its verdict on them
abbrev pub TellsMore : List Row → At → Result (List Mark) MarkFault → Type 0
TellsMore rows c (Ok marks) =
    (marks ≡ roles rows c.start c.tree)
    × (content_verdict rows c.start c.tree ≡ None)
    × (beyond_verdict rows c.start c.tree ≡ None)
TellsMore rows c (Err (faults.Refused reason at)) =
    contents_verdict rows c.start c.tree ≡ Some (record { reason = reason; at = at })
TellsMore rows c (Err faults.Memory) = Unit {0}

-- a command that is marked under these rules
pub record Command : Type 0 where
  pub rows : List Row
  pub command : At

-- the command is marked, where its contents are not refused; else this is the verdict; memory may run out
-- at any time
abbrev pub MarksAs : List Row → At → Result Command MarkFault → Type 0
MarksAs rows c (Ok marked) =
    (marked ≡ record { rows = rows; command = c }) × (content_verdict rows c.start c.tree ≡ None)
MarksAs rows c (Err (faults.Refused reason at)) =
    content_verdict rows c.start c.tree ≡ Some (record { reason = reason; at = at })
MarksAs rows c (Err faults.Memory) = Unit {0}

-- the command is marked, where a library refuses nothing beyond its contents either; else this is its verdict on them;
-- memory may run out at any time
abbrev pub MarksMore : List Row → At → Result Command MarkFault → Type 0
MarksMore rows c (Ok marked) =
    (marked ≡ record { rows = rows; command = c })
    × (content_verdict rows c.start c.tree ≡ None)
    × (beyond_verdict rows c.start c.tree ≡ None)
MarksMore rows c (Err (faults.Refused reason at)) =
    contents_verdict rows c.start c.tree ≡ Some (record { reason = reason; at = at })
MarksMore rows c (Err faults.Memory) = Unit {0}
