use Rattle.std.proofs.Common.{◌≡◌, drop, option_map}
use Rattle.serde_json.specs.View.{items_view, members_view}
use Rattle.bson_tree.specs.Tree.{count, join}
use Rattle.ext_json.specs.JsonTrees.{array_items, object_items}
use Rattle.ext_json.proofs.converting.+convert.Given as goal

abbrev pub invariant-convert_items-loop-item : goal.invariant-convert_items-loop-item
invariant-convert_items-loop-item l =
    (count l.kids ≡ l.item-index)
    × (array_items 0 (items_view l.item-items) ≡ option_map (join l.kids)
    (array_items l.item-index (items_view (drop l.item-index l.item-items))))

abbrev pub invariant-convert_members-loop-key : goal.invariant-convert_members-loop-key
invariant-convert_members-loop-key l =
    object_items (members_view l.members.entries)
    ≡ option_map (join l.kids) (object_items (members_view l.key-iterator))
