-- Collection infos from a JSON text: an array of documents as BSON, or the first fault.
use Rattle.std.specs.Prelude.{◌+◌, ◌==◌, ◌&&◌, ℕ, Bool, nat_le, List, [], ◌++◌, length, Option, Some, None}
use Rattle.std.specs.Prelude.{option_and_then, Result, Ok, Err, if◌then◌else◌}
use Rattle.std.specs.Str.{is_utf8}
use Rattle.serde_json.specs.Data.{Data, array, Items as Values, no_items as no_values, item as value_then}
use Rattle.serde_json.specs.Read.{read}
use Rattle.bson_tree.specs.Tree.{Tree, Items, leaf, node}
use Rattle.bson_tree.specs.Spelling.{doc_bytes}
use Rattle.bson_codec.specs.Layout.{level_limit, longest}
use Rattle.ext_json.specs.declared.fault.JsonFault.{JsonFault}
use Rattle.ext_json.specs.declared.fault.JsonFault.TheVariants as faults
use Rattle.ext_json.specs.JsonTrees.{json_tree}
use Rattle.ext_json.specs.Bounds.{is_named, levels_in}

-- the elements of a document; other values are none
abbrev pub document_in : Tree → Option Items
document_in (leaf tag bytes) = None
document_in (node tag is) = if tag == 0x03 then Some is else None

-- the document that a JSON value stands for
abbrev pub document_of : Data → Option Items
document_of d = option_and_then document_in (json_tree d)

-- names without 00, at most 100 levels, and room for it behind so many bytes
abbrev pub is_fit : ℕ → Items → Bool
is_fit size is = is_named is && (nat_le (levels_in is) level_limit && nat_le (size + length (doc_bytes is)) longest)

-- the document of a member behind so many bytes
abbrev pub member_of : ℕ → Data → Option Items
member_of size d = option_and_then (λ is. if is_fit size is then Some is else None) (document_of d)

-- goes on with a document, or ends with the fault
abbrev pub member_then : JsonFault → (Items → Result (List ℕ) JsonFault) → Option Items → Result (List ℕ) JsonFault
member_then fault next None = Err fault
member_then fault next (Some is) = next is

-- the spellings of the members behind `bytes`, of which the first has number k; or the number of the first that has
-- none
abbrev pub members_of : ℕ → List ℕ → Values → Result (List ℕ) JsonFault
members_of k bytes no_values = Ok bytes
members_of k bytes (value_then d ds) =
    member_then (faults.Form k) (λ is. members_of (k + 1) (bytes ++ doc_bytes is) ds) (member_of (length bytes) d)

-- what was read: an array of documents
abbrev pub infos_in : Option Data → Result (List ℕ) JsonFault
infos_in None = Err faults.Syntax
infos_in (Some (array ds)) = members_of 1 [] ds
infos_in (Some _) = Err (faults.Form 0)

-- the infos of a text: it is JSON where it is UTF-8 and `serde_json` reads it
unfoldable pub json_infos : List ℕ → Result (List ℕ) JsonFault
json_infos text = if is_utf8 text then infos_in (read text) else Err faults.Syntax
