-- MongoDB Client Side Encryption, decryption: the payloads of a document, and the document with them opened
use Rattle.std.specs.Prelude.{ℕ, ◌+◌, ◌-◌, Bool, false, List, [], ◌∷◌, ◌++◌, length, drop, Option}
use Rattle.std.specs.Prelude.{Some, None, if◌then◌else◌}
use Rattle.bson_tree.specs.Tree.{Tree, leaf, node, Items, no_items, item}
use Rattle.bson_tree.specs.Spelling.{value_bytes}
use Rattle.bson_tree.specs.Filled.{fill_items}
use Rattle.bson_codec.specs.Borrowed.{At}
pub use Rattle.payload6.specs.Payload.{has_number}
unfoldable pub use Rattle.payload6.specs.Payload.{is_sealed}

-- BSON 1.1, binary: behind a length of four bytes and a subtype stand the contents
abbrev pub contents_of : Tree → List ℕ
contents_of (leaf tag bytes) = drop 5 bytes
contents_of (node tag is) = []

-- a value is a payload
abbrev pub opens_here : Tree → Bool
opens_here (leaf tag bytes) = is_sealed tag bytes
opens_here (node tag is) = false

-- a payload's place: where its value begins and ends, how many levels the value that it opens to may add, and its bytes
pub record Place : Type 0 where
  pub start : ℕ
  pub end : ℕ
  pub levels : ℕ
  pub contents : List ℕ

-- the place of a value that begins at `at`
abbrev pub place_of : ℕ → ℕ → Tree → Place
place_of levels at t =
    record { start = at; end = at + length (value_bytes t); levels = levels; contents = contents_of t }

-- the payloads of a value that begins at `at`, in reading order, in a document whose values may add so many levels
abbrev mutual
  pub founds_in : ℕ → ℕ → Tree → List Place
  founds_in levels at (leaf tag bytes) = if is_sealed tag bytes then place_of levels at (leaf tag bytes) ∷ [] else []
  founds_in levels at (node tag is) = founds (levels - 1) (at + 4) is

  -- the same for elements that begin at `at`
  pub founds : ℕ → ℕ → Items → List Place
  founds levels at no_items = []
  founds levels at (item name t is) =
      founds_in levels (at + (2 + length name)) t ++ founds levels (at + (2 + length name) + length (value_bytes t)) is

-- the payloads of a document: at its top a value may add 99 levels, so that the whole has at most 100
abbrev pub payloads_of : At → List Place
payloads_of d = founds 99 (d.start + 4) d.tree

-- what a value opens to, where it is a payload; `value` says what the bytes of a payload open to
abbrev pub opened_value : (List ℕ → Tree) → ℕ → Tree → Option Tree
opened_value value at t = if opens_here t then Some (value (contents_of t)) else None

-- elements that begin at `at` with their payloads opened; what was opened isn't looked into
abbrev pub opened_items : (List ℕ → Tree) → ℕ → Items → Items
opened_items value at is = fill_items (opened_value value) at is
