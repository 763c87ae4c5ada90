use Rattle.std.proofs.Common.{ℕ, ◌+◌, List, Some, sym, ap, ◌∙◌, drop, string_bytes}
use Rattle.serde_json.specs.View.{view, items_view, members_view}
use Rattle.bson_tree.specs.View.{tree}
use Rattle.ext_json.specs.JsonTrees.{array_items, object_items}
use Rattle.ext_json.proofs.Members.{values_cut, values_end, items_step, items_done, members_step, members_done}
use Rattle.ext_json.proofs.converting.+convert.Goals as goal

pub convert_items-loop-item-preserved : goal.convert_items-loop-item-preserved
convert_items-loop-item-preserved t c =
    items_step (array_items 0 (items_view c.deref-item-items.result.now)) c.loop-item.kids c.push.new.self
    c.loop-item.item-index c.len.result c.in_ok-name.name (tree c.in_ok-value.value)
    _ (items_view (drop c.loop-item.item-index c.deref-item-items.result.now))
    (items_view (drop (c.loop-item.item-index + 1) c.deref-item-items.result.now))
    (values_cut c.loop-item.item-index c.deref-item-items.result.now _ c.loop-item-test.true) c.loop-item.invariant
    c.len.ensures.number c.in_ok-name.ensures (rw c.item-item.is at c.in_ok-value.ensures.converts)
    c.in-Ok.ensures.appended

pub convert_items-returns : goal.convert_items-returns
convert_items-returns t c =
    let end = values_end c.loop-item.item-index c.deref-item-items.result.now c.loop-item-test.false in
    rw c.deref-item-items.ensures.value at (items_done _ c.loop-item.kids c.loop-item.item-index
    (items_view (drop c.loop-item.item-index c.deref-item-items.result.now)) end c.loop-item.invariant.1)

pub convert_members-loop-key-preserved : goal.convert_members-loop-key-preserved
convert_members-loop-key-preserved t c =
    members_step (object_items (members_view c.args.members.now.entries)) c.loop-key.kids c.push.new.self
    (string_bytes c.in-Some.key.now) c.in_ok-name.name (tree c.in_ok-value.value)
    (view c.in-Some.member.now) (members_view c.loop-key.key-iterator) (members_view c.next.new.self)
    (ap members_view c.in-Some.ensures.steps) c.loop-key.invariant
    (ap (λ (x : List ℕ). Some x) (sym (c.as_bytes.ensures.value ∙ c.as_str.ensures.value)) ∙ c.in_ok-name.ensures)
    c.in_ok-value.ensures.converts c.in-Ok.ensures.appended

pub convert_members-returns : goal.convert_members-returns
convert_members-returns t c = members_done _ c.loop-key.kids (members_view c.loop-key.key-iterator)
    (ap members_view c.in-None.ensures.steps.0) c.loop-key.invariant
