-- Commands, rules and collections for examples.
use Rattle.std.proofs.Common.{ℕ, ◌+◌, List, [], ◌∷◌, ◌++◌, codes, length}
use Rattle.std.specs.Prelude.{false, true, Option, Some, None}
use Rattle.std.specs.Int.{w32, to_le_bytes}
use Rattle.bson_tree.specs.Tree.{Tree, leaf, node, Items, no_items, item}
use Rattle.encrypt_schema.specs.declared.command.marks.Mark.{Mark}
use Rattle.encrypt_schema.specs.declared.command.marks.Role.{Role}
use Rattle.encrypt_schema.specs.declared.schema.policy.Algorithm.{Algorithm}
use Rattle.encrypt_schema.specs.declared.schema.policy.Algorithm.TheVariants.{Deterministic, Random}
use Rattle.encrypt_schema.specs.declared.schema.policy.KeyRef.TheVariants.{Id}
use Rattle.encrypt_schema.specs.declared.command.reason.Reason.{Reason}
use Rattle.encrypt_schema.specs.Language.Row.{Row}
use Rattle.encrypt_schema.specs.Language.Collection.{Collection}
use Rattle.encrypt_schema.specs.Commands.Visits.{Refusal}

-- a string
abbrev pub text : List ℕ → Tree
text bytes = leaf 2 (to_le_bytes w32 (length bytes + 1) ++ (bytes ++ 0 ∷ []))

-- an int
abbrev pub int : ℕ → Tree
int n = leaf 16 (to_le_bytes w32 n)

-- null
abbrev pub null : Tree
null = leaf 10 []

-- the bool true
abbrev pub yes : Tree
yes = leaf 8 (1 ∷ [])

-- a binary of subtype 06 with the bytes 01 02 03
abbrev pub sealed : Tree
sealed = leaf 5 (3 ∷ 0 ∷ 0 ∷ 0 ∷ 6 ∷ 1 ∷ 2 ∷ 3 ∷ [])

-- a regex, x without options
abbrev pub regex : Tree
regex = leaf 11 (120 ∷ 0 ∷ 0 ∷ [])

-- {}
abbrev pub empty : Tree
empty = node 3 no_items

-- a document's only element
abbrev pub one : List ℕ → Tree → Items
one name t = item name t no_items

-- `$db: "hr"`
abbrev pub on_hr : Items
on_hr = one (codes "$db") (text (codes "hr"))

-- {insert: collection, documents: [document], $db: "hr"}
abbrev pub insert_into : Tree → Tree → Items
insert_into collection document =
    item (codes "insert") collection (item (codes "documents") (node 4 (one (codes "0") document)) on_hr)

-- {update: collection, updates: [update], $db: "hr"}
abbrev pub update_with : Tree → Tree → Items
update_with collection update =
    item (codes "update") collection (item (codes "updates") (node 4 (one (codes "0") update)) on_hr)

-- {update: collection, updates: [{q: {}, u: update}], $db: "hr"}
abbrev pub update_by : Tree → Tree → Items
update_by collection update =
    update_with collection (node 3 (item (codes "q") empty (one (codes "u") update)))

-- {find: collection, filter: filter, $db: "hr"}
abbrev pub find_by : Tree → Tree → Items
find_by collection filter = item (codes "find") collection (item (codes "filter") filter on_hr)

-- {find: collection, filter: filter, projection: projection, $db: "hr"}
abbrev pub find_in : Tree → Tree → Tree → Items
find_in collection filter projection =
    item (codes "find") collection (item (codes "filter") filter (item (codes "projection") projection on_hr))

-- the mark from one offset to another
abbrev pub mark_at : ℕ → ℕ → ℕ → ℕ → Role → Mark
mark_at start end tag policy why = record {
  start = start;
  end = end;
  tag = tag;
  policy = policy;
  role = why;
  name = None;
}

-- the refusal for a reason at an offset
abbrev pub refusal : Reason → ℕ → Option Refusal
refusal reason at = Some (record { reason = reason; at = at })

-- a rule: a path, an algorithm, type bytes
abbrev pub rule : List (List ℕ) → Algorithm → List ℕ → Row
rule path algorithm types =
    record { path = path; others = None; policy = record { algorithm = algorithm; key = Id []; types = types } }

-- each type that a rule may have
abbrev pub all_types : List ℕ
all_types = 1 ∷ 2 ∷ 3 ∷ 4 ∷ 5 ∷ 7 ∷ 8 ∷ 9 ∷ 11 ∷ 12 ∷ 13 ∷ 14 ∷ 15 ∷ 16 ∷ 17 ∷ 18 ∷ 19 ∷ []

-- ssn: deterministic, strings; salary: random, each type
abbrev pub people : List Row
people = rule (codes "ssn" ∷ []) Deterministic (2 ∷ []) ∷ rule (codes "salary" ∷ []) Random all_types ∷ []

-- a.b: deterministic, ints
abbrev pub staff : List Row
staff = rule (codes "a" ∷ codes "b" ∷ []) Deterministic (16 ∷ []) ∷ []

-- x, y: deterministic, strings; z: random, each type
abbrev pub pair : List Row
pair =
    rule (codes "x" ∷ []) Deterministic (2 ∷ [])
    ∷ rule (codes "y" ∷ []) Deterministic (2 ∷ [])
    ∷ rule (codes "z" ∷ []) Random all_types
    ∷ []

-- v is a view
abbrev pub collections : List Collection
collections =
    record { name = codes "people"; view = false; rows = people }
    ∷ record { name = codes "staff"; view = false; rows = staff }
    ∷ record { name = codes "v"; view = true; rows = [] }
    ∷ []
