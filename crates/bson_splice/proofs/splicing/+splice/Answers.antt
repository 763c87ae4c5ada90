use Rattle.std.proofs.Common.{◌≡◌, ◌∙◌, ap, sym, arith, length, ℕ, refl, rules, subst, ◌+◌, ◌*◌, ◌<◌, ◌^◌}
use Rattle.bson_tree.specs.Tree.{items_size, tree_size}
use Rattle.bson_codec.specs.Borrowed.{At}
use Rattle.bson_splice.specs.Splicing.{HasRoom, document_made, element_made, elements_made}
use Rattle.bson_splice.proofs.Documents.{room_document, room_keep, room_put, room_name, room_open, keeps, takes}
use Rattle.bson_splice.proofs.Documents.{ends_at, document_splices}
use Rattle.bson_splice.proofs.Fitting.{blanks, blanks_fit}
use Rattle.bson_splice.proofs.Elements.{takes_none, takes_some}
use Rattle.bson_splice.proofs.Going.{starts, ends, goes_on, halts, passes, room_left, room_next}
use Rattle.bson_splice.proofs.splicing.+splice.Goals as goal

pub splice_document-overflow_add-at : goal.splice_document-overflow_add-at
splice_document-overflow_add-at g t c =
    omega (
      arith,
      room_document (g.P.Putter.spans c.args.putter.now) c.args.document.now c.args.at
          (length c.args.out.now) c.requires.room,
      c.requires.small,
    )

pub splice_document-close-behind-requires-clause-begun : goal.splice_document-close-behind-requires-clause-begun
splice_document-close-behind-requires-clause-begun g t c =
    (ends_at g.P.Putter.puts g.P.Putter.spans c.args.document.now c.args.putter.now c.splice_items.new.putter
    c.args.out.now c.splice_items.new.out c.args.at c.in-Ok.end
    c.in-Ok.ensures.spliced c.requires.room c.in-Ok.ensures.size c.in-Ok.ensures.within).0

pub splice_document-close-behind-requires-clause-room : goal.splice_document-close-behind-requires-clause-room
splice_document-close-behind-requires-clause-room g t c =
    (ends_at g.P.Putter.puts g.P.Putter.spans c.args.document.now c.args.putter.now c.splice_items.new.putter
    c.args.out.now c.splice_items.new.out c.args.at c.in-Ok.end
    c.in-Ok.ensures.spliced c.requires.room c.in-Ok.ensures.size c.in-Ok.ensures.within).1

pub splice_document-returns-in-Ok-clause-spliced : goal.splice_document-returns-in-Ok-clause-spliced
splice_document-returns-in-Ok-clause-spliced g t c =
    document_splices g.P.Putter.puts g.P.Putter.spans c.args.document.now c.args.putter.now c.splice_items.new.putter
    c.args.out.now c.splice_items.new.out c.close-behind.new.out c.args.at c.in-Ok.end c.close-behind.result
    c.in-Ok.ensures.spliced
    (room_document (g.P.Putter.spans c.args.putter.now) c.args.document.now c.args.at
    (length c.args.out.now) c.requires.room)
    c.close-behind.ensures.closed

pub splice_document-returns-in-Ok-clause-within : goal.splice_document-returns-in-Ok-clause-within
splice_document-returns-in-Ok-clause-within g t c =
    let ends = (ends_at g.P.Putter.puts g.P.Putter.spans c.args.document.now c.args.putter.now c.splice_items.new.putter
    c.args.out.now c.splice_items.new.out c.args.at c.in-Ok.end
    c.in-Ok.ensures.spliced c.requires.room c.in-Ok.ensures.size c.in-Ok.ensures.within).1 in
    omega (arith, ends, c.close-behind.ensures.end, c.close-behind.ensures.size)

pub splice_item-put_item-end-requires : goal.splice_item-put_item-end-requires
splice_item-put_item-end-requires g t c =
    record {
      room = room_keep (g.P.Putter.spans c.args.putter.now) c.args.item.now c.args.at
          (length c.args.out.now) c.requires.room (λ ps f. (c.in-Keep.ensures.step ps f).0);
    }

pub splice_item-put_next-requires-clause-room : goal.splice_item-put_next-requires-clause-room
splice_item-put_next-requires-clause-room g t c =
    room_put (g.P.Putter.spans c.args.putter.now) c.args.item.now c.args.at
    (length c.args.out.now) c.requires.room c.in-Put.ensures.own

pub splice_item-put_name-named-requires : goal.splice_item-put_name-named-requires
splice_item-put_name-named-requires g t c =
    record {
      room = omega (
        arith,
        room_name (g.P.Putter.spans c.args.putter.now) c.args.item.now c.args.at
            (length c.args.out.now) c.requires.room,
        ap length c.name.ensures.name,
      );
    }

pub splice_item-splice_document-requires : goal.splice_item-splice_document-requires
splice_item-splice_document-requires g t c κs within =
    let ss = g.P.Putter.spans c.args.putter.now in
    let end : c.put_name-named.result ≡ c.args.at + 2 + length c.args.item.now.name =
    omega (arith, c.put_name-named.ensures.end, ap length c.name.ensures.name) in
    let opens = room_open ss c.args.item.now c.in-Open.document c.args.at
    (length c.args.out.now) c.put_name-named.result c.requires.room end
    (λ ps f. (c.in-Open.ensures.step ps f).2) in
    let room = subst (λ (n : ℕ). HasRoom ss (document_made c.in-Open.document) c.put_name-named.result n)
    (sym c.put_name-named.ensures.size) opens in
    let tree : tree_size c.args.item.now.tree ≡ items_size c.in-Open.document.tree + 1 =
    ap tree_size (c.in-Open.ensures.step _ (blanks_fit ss)).0 in
    let falls : 3 * items_size c.in-Open.document.tree + 1 < 3 * tree_size c.args.item.now.tree = omega (arith, tree) in
    let small : length c.put_name-named.new.out < 2 ^ 31 =
    omega (arith, c.put_name-named.ensures.size, c.requires.small) in
    search (rules, falls, room, small)

pub splice_item-returns-in-Keep-clause-spliced : goal.splice_item-returns-in-Keep-clause-spliced
splice_item-returns-in-Keep-clause-spliced g t c =
    keeps g.P.Putter.puts g.P.Putter.spans c.args.item.now c.args.at c.put_item-end.result c.args.putter.now
    c.args.out.now c.put_item-end.new.out
    c.in-Keep.ensures.step c.put_item-end.ensures.element

pub splice_item-returns-in-Ok-clause-spliced : goal.splice_item-returns-in-Ok-clause-spliced
splice_item-returns-in-Ok-clause-spliced g t c =
    takes g.P.Putter.puts g.P.Putter.spans c.args.item.now c.args.at c.in-Ok.end c.args.putter.now c.put_next.new.self
    c.args.out.now c.put_next.new.out
    c.in-Put.ensures.own c.in-Ok.ensures.put

pub splice_items-loop-item-init : goal.splice_items-loop-item-init
splice_items-loop-item-init g t c =
    let here = c.items-items.ensures.elements in
    let ss = g.P.Putter.spans c.args.putter.now in
    record {
      size = omega (arith, ap (λ (a : At). items_size a.tree) here);
      long = refl;
      ready = c.requires.ready;
      inside = omega (arith, c.requires.room (blanks ss) (blanks_fit ss));
      going = starts g.P.Putter.puts g.P.Putter.spans c.args.document.now c.args.putter.now c.args.out.now c.args.at
          c.items-items.result here;
    }

pub splice_items-put_before-here-requires : goal.splice_items-put_before-here-requires
splice_items-put_before-here-requires g t c =
    let inv = c.loop-item.invariant in
    let ss = g.P.Putter.spans c.args.putter.now in
    let fits = room_left g.P.Putter.puts g.P.Putter.spans c.args.document.now c.args.putter.now c.args.out.now c.args.at
    c.loop-item.items c.loop-item.putter c.loop-item.out c.loop-item.end (length c.args.out.now)
    (omega (arith, c.requires.room (blanks ss) (blanks_fit ss))) inv.inside inv.going c.requires.room in
    record {
      room = subst (λ (n : ℕ). HasRoom (g.P.Putter.spans c.loop-item.putter)
          (elements_made c.loop-item.items.start c.loop-item.items.tree) c.loop-item.end n) (sym inv.long) fits;
    }

pub splice_items-splice_item-requires : goal.splice_items-splice_item-requires
splice_items-splice_item-requires g t c κs within =
    let inv = c.loop-item.invariant in
    let ss = g.P.Putter.spans c.args.putter.now in
    let before = c.put_before-here.ensures.put in
    let taken = takes_some before.mid c.put_before-here.result.1 c.put_before-here.new.items c.in-Some.item c.in-Some.is
    before.taken in
    let falls : 3 * tree_size c.in-Some.item.tree < 3 * items_size c.args.document.now.tree =
    omega (arith, ap items_size taken.0, before.fewer, inv.size) in
    let long = c.put_before-here.ensures.size ∙ inv.long in
    let small : length c.put_before-here.new.out < 2 ^ 31 = omega (arith, long, c.requires.small) in
    let fits = room_next g.P.Putter.puts g.P.Putter.spans c.args.document.now c.args.putter.now c.args.out.now c.args.at
    before.mid c.put_before-here.new.items c.in-Some.item c.loop-item.putter c.put_before-here.new.out
    c.put_before-here.result.0 (length c.args.out.now)
    (omega (arith, c.requires.room (blanks ss) (blanks_fit ss))) before.within taken
    (passes g.P.Putter.puts g.P.Putter.spans c.args.document.now c.args.putter.now c.args.out.now c.args.at
    c.loop-item.items c.put_before-here.result.1 c.put_before-here.new.items c.loop-item.putter c.loop-item.out
    c.put_before-here.new.out c.loop-item.end c.put_before-here.result.0 inv.going before) c.requires.room in
    let room = subst (λ (n : ℕ). HasRoom (g.P.Putter.spans c.loop-item.putter)
    (element_made c.in-Some.item) c.put_before-here.result.0 n) (sym long) fits in
    search (rules, falls, room, small)

pub splice_items-loop-item-preserved : goal.splice_items-loop-item-preserved
splice_items-loop-item-preserved g t c =
    let inv = c.loop-item.invariant in
    let before = c.put_before-here.ensures.put in
    let taken = takes_some before.mid c.put_before-here.result.1 c.put_before-here.new.items c.in-Some.item c.in-Some.is
    before.taken in
    record {
      size = omega (arith, before.fewer, ap items_size taken.0, inv.size);
      long = c.in-Ok.ensures.size ∙ c.put_before-here.ensures.size ∙ inv.long;
      ready = c.in-Ok.ensures.ready;
      inside = c.in-Ok.ensures.within;
      going = goes_on g.P.Putter.puts g.P.Putter.spans c.args.document.now c.args.putter.now c.args.out.now c.args.at
          before.mid c.put_before-here.new.items c.in-Some.item c.loop-item.putter c.splice_item.new.putter
          c.put_before-here.new.out c.splice_item.new.out c.put_before-here.result.0 c.in-Ok.behind taken
          (passes g.P.Putter.puts g.P.Putter.spans c.args.document.now c.args.putter.now c.args.out.now c.args.at
          c.loop-item.items c.put_before-here.result.1 c.put_before-here.new.items c.loop-item.putter c.loop-item.out
          c.put_before-here.new.out c.loop-item.end c.put_before-here.result.0 inv.going before)
          c.in-Ok.ensures.spliced;
    }

pub splice_items-loop-item-smaller : goal.splice_items-loop-item-smaller
splice_items-loop-item-smaller g t c =
    let before = c.put_before-here.ensures.put in
    let taken = takes_some before.mid c.put_before-here.result.1 c.put_before-here.new.items c.in-Some.item c.in-Some.is
    before.taken in
    omega (arith, before.fewer, ap items_size taken.0)

pub splice_items-returns-in-Err-clause-spliced : goal.splice_items-returns-in-Err-clause-spliced
splice_items-returns-in-Err-clause-spliced g t c =
    let before = c.put_before-here.ensures.put in
    halts g.P.Putter.puts g.P.Putter.spans c.args.document.now c.args.putter.now c.args.out.now c.args.at
    g.P.Putter.stops before.mid c.loop-item.putter c.splice_item.new.putter c.put_before-here.new.out
    c.put_before-here.result.0
    (passes g.P.Putter.puts g.P.Putter.spans c.args.document.now c.args.putter.now c.args.out.now c.args.at
    c.loop-item.items c.put_before-here.result.1 c.put_before-here.new.items c.loop-item.putter c.loop-item.out
    c.put_before-here.new.out c.loop-item.end c.put_before-here.result.0 c.loop-item.invariant.going before)
    c.in-Err.ensures.spliced

pub splice_items-returns-in-None-clause-spliced : goal.splice_items-returns-in-None-clause-spliced
splice_items-returns-in-None-clause-spliced g t c =
    let before = c.put_before-here.ensures.put in
    ends g.P.Putter.puts g.P.Putter.spans c.args.document.now c.args.putter.now c.args.out.now c.args.at
    before.mid c.loop-item.putter c.put_before-here.new.out c.put_before-here.result.0
    (takes_none before.mid c.put_before-here.result.1 c.put_before-here.new.items c.in-None.is before.taken)
    (passes g.P.Putter.puts g.P.Putter.spans c.args.document.now c.args.putter.now c.args.out.now c.args.at
    c.loop-item.items c.put_before-here.result.1 c.put_before-here.new.items c.loop-item.putter c.loop-item.out
    c.put_before-here.new.out c.loop-item.end c.put_before-here.result.0 c.loop-item.invariant.going before)
