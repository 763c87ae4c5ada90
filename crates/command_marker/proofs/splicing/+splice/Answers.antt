use Rattle.std.proofs.Common.{◌∙◌, ◌+◌, ◌*◌, ◌<◌, ◌^◌, ◌++◌, length, drop, ap, sym, arith, rules}
use Rattle.bson_tree.specs.Spelling.{items_bytes}
use Rattle.bson_tree.specs.Tree.{Tree, items_size, tree_size, item, no_items}
use Rattle.bson_codec.specs.Borrowed.{At}
use Rattle.bson_splice.proofs.Steps.{item_puts, one_left}
use Rattle.encrypt_schema.specs.declared.command.marks.Mark.{Mark}
use Rattle.command_marker.specs.Splices.{left, spliced, spliced_in}
use Rattle.command_marker.specs.Marked.{marked_by}
use Rattle.bson_splice.proofs.Elements.{takes_none, takes_some}
use Rattle.command_marker.proofs.Elements.{ends, goes_on, puts_before, rests_on, room_next}
use Rattle.command_marker.proofs.splicing.+splice.Goals as goal

pub put_item-unreachable-requires : goal.put_item-unreachable-requires
put_item-unreachable-requires t c =
    absurd (one_left (λ (m : Mark). m.start) c.next_mark-mark.result c.args.item.now
    (drop c.args.next c.args.marks.now) (drop (c.args.next + 1) c.args.marks.now) c.next_mark-mark.ensures.first
    c.in-None.is c.in-Put.ensures.step)

pub put_item-returns-in_ok-put_marked-in-Some : goal.put_item-returns-in_ok-put_marked-in-Some
put_item-returns-in_ok-put_marked-in-Some t c =
    let put = item_puts (λ (m : Mark). m.start) c.next_mark-mark.result c.args.item.now
    (drop c.args.next c.args.marks.now) (drop (c.args.next + 1) c.args.marks.now) c.next_mark-mark.ensures.first
    (marked_by c.args.rows.now c.args.command.now) c.in-Some.mark c.in-Some.is c.in-Put.ensures.step in
    record {
      element = c.in_ok-put_marked-in-Some.ensures.element
          ∙ ap (λ (u : Tree). c.args.out.now.items ++ items_bytes (item c.args.item.now.name u no_items)) (sym put.0);
      left = sym put.1;
    }

pub put_items-loop-item-init : goal.put_items-loop-item-init
put_items-loop-item-init t c =
    let put = marked_by c.args.rows.now c.args.command.now in
    let ms = drop c.args.next c.args.marks.now in
    let here = c.items-items.ensures.elements in
    record {
      size = omega (arith, ap (λ (a : At). items_size a.tree) here);
      made = ap (λ (a : At). c.args.out.now.items ++ items_bytes (spliced put a.start ms a.tree)) here;
      rests = ap (λ (a : At). left a.start ms a.tree) here;
    }

pub put_items-put_item-requires : goal.put_items-put_item-requires
put_items-put_item-requires t c =
    let inv = c.loop-item.invariant in
    let put = marked_by c.args.rows.now c.args.command.now in
    let ms = drop c.loop-item.behind c.args.marks.now in
    let before = puts_before c.start_of.result ms c.loop-item.items c.skip_to-met.result.1 c.skip_to-met.new.self
    c.loop-item.out.items c.put_skipped.new.out.items c.skip_to-met.result.0.now c.start_of.ensures.start
    c.skip_to-met.ensures.taken c.skip_to-met.ensures.bytes c.in_ok-put_skipped.ensures.appended in
    let taken = takes_some before.mid c.skip_to-met.result.1 c.skip_to-met.new.self c.in-Some.item c.in-Some.is
    before.taken in
    let smaller : 3 * tree_size c.in-Some.item.tree < 3 * items_size c.args.document.now.tree =
    omega (arith, ap items_size taken.0, before.fewer, inv.size) in
    let room : length c.put_skipped.new.out.items + length
    (items_bytes (item c.in-Some.item.name (spliced_in put c.in-Some.item.start ms c.in-Some.item.tree) no_items))
    < 2 ^ 31 =
    room_next put c.put_skipped.new.out.items _ _ before.mid c.skip_to-met.new.self c.in-Some.item ms
    (2 ^ 31) taken (before.made put ∙ inv.made) c.requires.room in
    search (rules, smaller, room, c.requires.ruled, c.requires.few)

pub put_items-loop-item-preserved : goal.put_items-loop-item-preserved
put_items-loop-item-preserved t c =
    let inv = c.loop-item.invariant in
    let put = marked_by c.args.rows.now c.args.command.now in
    let ms = drop c.loop-item.behind c.args.marks.now in
    let ns = drop c.in_ok-behind-in-Some.behind c.args.marks.now in
    let before = puts_before c.start_of.result ms c.loop-item.items c.skip_to-met.result.1 c.skip_to-met.new.self
    c.loop-item.out.items c.put_skipped.new.out.items c.skip_to-met.result.0.now c.start_of.ensures.start
    c.skip_to-met.ensures.taken c.skip_to-met.ensures.bytes c.in_ok-put_skipped.ensures.appended in
    let taken = takes_some before.mid c.skip_to-met.result.1 c.skip_to-met.new.self c.in-Some.item c.in-Some.is
    before.taken in
    record {
      size = omega (arith, before.fewer, ap items_size taken.0, inv.size);
      made = goes_on put c.put_skipped.new.out.items c.put_item.new.out.items _ before.mid c.skip_to-met.new.self
          c.in-Some.item ms ns taken (before.made put ∙ inv.made) c.in_ok-behind-in-Some.ensures.element
          c.in_ok-behind-in-Some.ensures.left;
      rests = rests_on put before.mid c.skip_to-met.new.self c.in-Some.item ms ns _ taken (before.rests ∙ inv.rests)
          c.in_ok-behind-in-Some.ensures.left;
    }

pub put_items-loop-item-smaller : goal.put_items-loop-item-smaller
put_items-loop-item-smaller t c =
    let ms = drop c.loop-item.behind c.args.marks.now in
    let before = puts_before c.start_of.result ms c.loop-item.items c.skip_to-met.result.1 c.skip_to-met.new.self
    c.loop-item.out.items c.put_skipped.new.out.items c.skip_to-met.result.0.now c.start_of.ensures.start
    c.skip_to-met.ensures.taken c.skip_to-met.ensures.bytes c.in_ok-put_skipped.ensures.appended in
    let taken = takes_some before.mid c.skip_to-met.result.1 c.skip_to-met.new.self c.in-Some.item c.in-Some.is
    before.taken in
    omega (arith, before.fewer, ap items_size taken.0)

pub put_items-returns-in-None : goal.put_items-returns-in-None
put_items-returns-in-None t c =
    let inv = c.loop-item.invariant in
    let put = marked_by c.args.rows.now c.args.command.now in
    let ms = drop c.loop-item.behind c.args.marks.now in
    let before = puts_before c.start_of.result ms c.loop-item.items c.skip_to-met.result.1 c.skip_to-met.new.self
    c.loop-item.out.items c.put_skipped.new.out.items c.skip_to-met.result.0.now c.start_of.ensures.start
    c.skip_to-met.ensures.taken c.skip_to-met.ensures.bytes c.in_ok-put_skipped.ensures.appended in
    let all = ends put ms _ before.mid _ c.put_skipped.new.out.items
    (takes_none before.mid c.skip_to-met.result.1 c.skip_to-met.new.self c.in-None.is before.taken)
    (before.made put ∙ inv.made) (before.rests ∙ inv.rests) in
    record { elements = all.0; left = all.1 }
