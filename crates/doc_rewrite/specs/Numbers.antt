-- Where entries stand in a list of data keys, by their ids and by their alternate names
use Rattle.std.specs.Prelude.{ℕ, ◌+◌, List, [], ◌∷◌, Option, Some, None, bytes_eq, if◌then◌else◌}
use Rattle.std.specs.BTreeMap.{BTreeMap, get_by}
use Rattle.std.specs.Cmp.Lexicographic.{slice_cmp}
use Rattle.std.specs.Ordering.{nat_cmp}
use Rattle.doc_rewrite.specs.declared.key_table.KeyEntry.{KeyEntry}
use Rattle.doc_rewrite.specs.declared.named_keys.NamedEntry.{NamedEntry}

-- the number that a map has for an id
abbrev pub number_of_id : BTreeMap (List ℕ) ℕ → List ℕ → Option ℕ
number_of_id numbers id = get_by (slice_cmp nat_cmp id) numbers

-- the number of the first entry with an id, among entries that are counted from n on
abbrev pub place_from : ℕ → List ℕ → List KeyEntry → Option ℕ
place_from n id [] = None
place_from n id (e ∷ es) = if bytes_eq e.id id then Some n else place_from (n + 1) id es

-- the number of the first entry with an alternate name, among entries that are counted from n on
abbrev pub named_place : ℕ → List ℕ → List NamedEntry → Option ℕ
named_place n name [] = None
named_place n name (e ∷ es) = if bytes_eq e.name name then Some n else named_place (n + 1) name es
