-- MongoDB Client Side Encryption, `keyId` as a JSON pointer (RFC 6901): the field of a stored document that names a
-- key, its text and where that stands.
use Rattle.std.specs.Prelude.{ℕ, zero, suc, ◌+◌, ◌==◌, Bool, true, false, List, [], ◌∷◌, length, map, Option, Some}
use Rattle.std.specs.Prelude.{None}
use Rattle.std.specs.Prelude.{option_and_then, option_map, if◌then◌else◌}
use Rattle.bson_tree.specs.Tree.{Tree, leaf, node, Items, no_items, item}
use Rattle.bson_tree.specs.Spelling.{value_bytes}
use Rattle.bson_codec.specs.Borrowed.{Elem}
use Rattle.encrypt_schema.specs.declared.command.marks.Span.{Span}
use Rattle.encrypt_schema.specs.declared.schema.policy.KeyRef.{KeyRef}
use Rattle.encrypt_schema.specs.declared.schema.policy.KeyRef.TheVariants.{Id, Pointer}
use Rattle.encrypt_schema.specs.Language.Names.{named, is_among}
use Rattle.encrypt_schema.specs.Language.Row.{Row}
use Rattle.encrypt_schema.specs.Language.Values.{names_of, text_of}
use Rattle.encrypt_schema.specs.Paths.Classes.{class}
use Rattle.encrypt_schema.specs.Paths.Dotted.{is_clear}
use Rattle.encrypt_schema.specs.Commands.Stations.{Station, Document}

-- a pointer's target, the string to which it leads: its text, and where that stands
pub record Target : Type 0 where
  pub text : List ℕ
  pub span : Span

-- the targets of the rules' pointers, one for each rule; none where the rule has no pointer, or its target isn't there
abbrev pub Targets : Type 0
Targets = List (Option Target)

-- the only element of a name among elements that begin at `at`; none where there are none or several
abbrev pub only : List ℕ → ℕ → Items → Option Elem
only word at no_items = None
only word at (item name t is) =
    if named word name
    then (if is_among word (names_of is) then None
    else Some (record { name = name; tree = t; start = at + (2 + length name) }))
    else only word (at + (2 + length name) + length (value_bytes t)) is

-- the text of a string (02) that begins at `at`: behind a length of four bytes, and before 00
abbrev pub text_target : ℕ → ℕ → List ℕ → Option Target
text_target at tag bytes =
    if tag == 2
    then Some (record {
      text = text_of bytes;
      span = record { start = at + 4; end = at + 4 + length (text_of bytes) };
    })
    else None

-- RFC 6901, section 4: what names lead to from a value that begins at `at`, each to the only element of its name. Here
-- the values on the way are documents (03), never arrays, and the last is a string
abbrev pub target_in : List (List ℕ) → ℕ → Tree → Option Target
target_in [] at (leaf tag bytes) = text_target at tag bytes
target_in [] at (node tag is) = None
target_in (name ∷ names) at (leaf tag bytes) = None
target_in (name ∷ names) at (node tag is) =
    if tag == 3 then option_and_then (λ e. target_in names e.start e.tree) (only name (at + 4) is) else None

-- the target of a key's pointer in a document that begins at `at`, where no rule concerns the pointer's path
abbrev pub target_of : List Row → ℕ → Items → KeyRef → Option Target
target_of rows at is (Id id) = None
target_of rows at is (Pointer names) = if is_clear (class rows names) then target_in names at (node 3 is) else None

-- the targets of the rules' pointers in a document that begins at `at`
unfoldable pub targets_of : List Row → ℕ → Items → Targets
targets_of rows at is = map (λ row. target_of rows at is row.policy.key) rows

-- a stored document as a whole, from which pointers are read
abbrev pub is_whole : Station → Bool
is_whole (Document []) = true
is_whole _ = false

-- the targets for what stands inside a document of this station that begins at `at`, by those around it
abbrev pub pointed : List Row → Station → Targets → ℕ → Items → Targets
pointed rows s ts at is = if is_whole s then targets_of rows at is else ts

-- the target of the pointer of the rule of a number, counted from 0
abbrev pub nth_target : ℕ → Targets → Option Target
nth_target i [] = None
nth_target zero (t ∷ ts) = t
nth_target (suc i) (t ∷ ts) = nth_target i ts

-- where it stands
abbrev pub nth_span : ℕ → Targets → Option Span
nth_span i ts = option_map (λ t. t.span) (nth_target i ts)
