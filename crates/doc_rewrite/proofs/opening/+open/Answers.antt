use Rattle.std.proofs.Common.{◌≡◌, ◌∙◌, ◌+◌, ◌-◌, ◌*◌, ◌<◌, ◌^◌, ◌++◌, ◌∷◌, [], ap, ap₂, take, arith, length, List}
use Rattle.std.proofs.Common.{ℕ, rules}
use Rattle.bson_tree.specs.Tree.{items_size, tag_of, tree_size}
use Rattle.bson_tree.specs.Spelling.{items_bytes}
use Rattle.bson_tree.proofs.Sizes.{framed_size}
use Rattle.doc_rewrite.specs.Keys.{key_by_id}
use Rattle.doc_rewrite.specs.Opened.{ring_of}
use Rattle.doc_rewrite.proofs.Opens.{begun, closed_document, frame_fits, goes_on, halts, inside_opens, next_keyed}
use Rattle.doc_rewrite.proofs.Opens.{name_fits, next_room, next_shaped}
use Rattle.doc_rewrite.proofs.opening.+open.Goals as goal

pub open_document-overflow_add-at : goal.open_document-overflow_add-at
open_document-overflow_add-at g t c =
    omega (
      arith,
      frame_fits c.args.levels c.args.at (length c.args.out.now) c.args.document.now c.requires.shaped c.requires.room,
      c.requires.small,
    )

pub open_document-close-requires-clause-begun : goal.open_document-close-requires-clause-begun
open_document-close-requires-clause-begun g t c =
    begun c.args.at c.in-Ok.end c.args.out.now c.open_items.new.out _ c.in-Ok.ensures.opened.1
    (omega (
      arith,
      frame_fits c.args.levels c.args.at (length c.args.out.now) c.args.document.now c.requires.shaped c.requires.room,
    ))

pub open_document-returns-in-Ok-clause-opened : goal.open_document-returns-in-Ok-clause-opened
open_document-returns-in-Ok-clause-opened g t c =
    let frame = framed_size (items_bytes c.args.document.now.tree) in (
      c.in-Ok.ensures.opened.0,
      closed_document c.args.at c.in-Ok.end c.close.result c.args.out.now c.open_items.new.out c.close.new.out _
          (frame_fits c.args.levels c.args.at (length c.args.out.now) c.args.document.now c.requires.shaped
          c.requires.room) c.close.ensures.closed c.in-Ok.ensures.opened.1,
      omega (arith, c.in-Ok.ensures.opened.2, c.close.ensures.end, frame),
    )

pub open_item-put_name-named-requires : goal.open_item-put_name-named-requires
open_item-put_name-named-requires g t c = record {
  room = omega (
    arith,
    name_fits c.args.levels c.args.at (length c.args.out.now) c.args.item.now c.requires.shaped c.requires.room,
    ap length c.name.ensures.name,
  );
}

pub open_item-returns-in-Some-clause-opened : goal.open_item-returns-in-Some-clause-opened
open_item-returns-in-Some-clause-opened g t c =
    let e = c.args.item.now in
    let place : c.put_name-named.result ≡ c.args.at + 2 + length e.name =
    omega (arith, c.put_name-named.ensures.end, ap length c.name.ensures.name) in
    let name : take c.put_name-named.result c.put_name-named.new.out
    ≡ take c.args.at c.args.out.now ++ (tag_of e.tree ∷ (e.name ++ 0 ∷ [])) =
    c.put_name-named.ensures.named ∙ ap₂ (λ (n : ℕ) (x : List ℕ). take c.args.at c.args.out.now ++ (n ∷ (x ++ 0 ∷ [])))
    c.tag.ensures.tag c.name.ensures.name in
    let less : c.saturating_sub.result ≡ c.args.levels - 1 = search rules in
    inside_opens (ring_of (key_by_id c.args.keys.now.ids)) c.args.levels e c.in-Some.document c.saturating_sub.result
    c.in-Some.ensures.node c.in-Some.ensures.start less
    c.args.at c.put_name-named.result c.args.out.now c.put_name-named.new.out c.open_document.new.out
    c.open_document.result place name c.open_document.ensures.opened

pub open_items-open_item-requires : goal.open_items-open_item-requires
open_items-open_item-requires g t c κs within =
    let keys = ring_of (key_by_id c.args.keys.now.ids) in
    let inv = c.loop-item.invariant in
    let taken = c.in-Some.ensures.steps in
    let falls : 3 * tree_size c.in-Some.item.tree < 3 * items_size c.args.document.now.tree =
    omega (arith, ap items_size taken.0, inv.size) in
    let small : length c.loop-item.out < 2 ^ 31 = omega (arith, inv.long, c.requires.small) in
    let shaped = next_shaped keys c.args.levels c.args.document.now c.args.out.now c.args.at c.loop-item.item-iterator
    c.next.new.self c.in-Some.item c.loop-item.out c.loop-item.end taken inv.going in
    let keyed = next_keyed keys c.args.levels c.args.document.now c.args.out.now c.args.at c.loop-item.item-iterator
    c.next.new.self c.in-Some.item c.loop-item.out c.loop-item.end taken inv.going in
    let room = next_room keys c.args.levels c.args.document.now c.args.out.now c.args.at c.loop-item.item-iterator
    c.next.new.self c.in-Some.item c.loop-item.out c.loop-item.end taken inv.going (length c.loop-item.out)
    (omega (arith, c.requires.room, inv.long)) in
    search (rules, falls, room, small, shaped, keyed, c.requires.hooks, c.requires.levels)

pub open_items-loop-item-preserved : goal.open_items-loop-item-preserved
open_items-loop-item-preserved g t c =
    let inv = c.loop-item.invariant in
    let taken = c.in-Some.ensures.steps in
    record {
      size = omega (arith, ap items_size taken.0, inv.size);
      long = c.in-Ok.ensures.size ∙ inv.long;
      going = goes_on (ring_of (key_by_id c.args.keys.now.ids)) c.args.levels c.args.document.now c.args.out.now
          c.args.at
          c.loop-item.item-iterator c.next.new.self c.in-Some.item
          c.loop-item.out c.loop-item.end taken inv.going c.open_item.new.out c.in-Ok.behind c.in-Ok.ensures.opened;
    }

pub open_items-returns-in_default-clause-opened : goal.open_items-returns-in_default-clause-opened
open_items-returns-in_default-clause-opened g t c =
    halts (ring_of (key_by_id c.args.keys.now.ids)) c.args.levels c.args.document.now c.args.out.now c.args.at
    c.loop-item.item-iterator c.next.new.self c.in-Some.item
    c.loop-item.out c.loop-item.end c.in-Some.ensures.steps c.loop-item.invariant.going c.open_item.new.out
    c.open_item.result c.in_default.not-Ok c.open_item.ensures.opened
