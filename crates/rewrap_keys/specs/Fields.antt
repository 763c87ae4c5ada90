-- MongoDB Client Side Encryption, "rewrapManyDataKey": the fields of a key document that change
use Rattle.std.specs.Prelude.{ℕ, ◌&&◌, ◌==◌, List, bytes_eq, codes, if◌then◌else◌}
use Rattle.bson_tree.specs.Tree.{Tree, Items, no_items, item, tag_of}
use Rattle.data_key.specs.Written.{binary, date}

-- the value of a field at a change of this time: a date of the last change is that time, any other value stays
abbrev pub dated : ℕ → List ℕ → Tree → Tree
dated time name t = if bytes_eq name (codes "updateDate") && (tag_of t == 9) then date time else t

-- the value of a field where the key gets this material
abbrev pub new_value : List ℕ → ℕ → List ℕ → Tree → Tree
new_value material time name t = if bytes_eq name (codes "keyMaterial") then binary 0 material else dated time name t

-- the fields of a key document that gets this material at this time
abbrev pub with_material : List ℕ → ℕ → Items → Items
with_material material time no_items = no_items
with_material material time (item name t is) =
    item name (new_value material time name t) (with_material material time is)
