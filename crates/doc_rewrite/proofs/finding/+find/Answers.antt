use Rattle.std.proofs.Common.{◌∙◌, ◌+◌, ◌*◌, ◌<◌, ap, arith, rules}
use Rattle.bson_tree.specs.Tree.{items_size, tree_size}
use Rattle.doc_rewrite.proofs.Telling.{begins, few_next, finds_all, halts, passes_next}
use Rattle.doc_rewrite.proofs.finding.+find.Goals as goal

pub tell_items-loop-item-init : goal.tell_items-loop-item-init
tell_items-loop-item-init g t c =
    let here = c.into_iter-item-iterator.ensures.into_iter_gives ∙ c.items-item-items.ensures.elements in
    record {
      size = omega (arith, ap (λ a. items_size a.tree) here);
      passing = begins g.L.Listener.tells c.args.levels c.args.document.now c.args.count c.args.listener.now
          c.into_iter-item-iterator.result here c.requires.few;
    }

pub tell_items-tell_item-requires : goal.tell_items-tell_item-requires
tell_items-tell_item-requires g t c κs within =
    let inv = c.loop-item.invariant in
    let taken = c.in-Some.ensures.steps in
    let falls : 2 * tree_size c.in-Some.item.tree < 2 * items_size c.args.document.now.tree + 1 =
    omega (arith, ap items_size taken.0, inv.size) in
    let few = few_next g.L.Listener.tells c.args.levels c.args.document.now c.args.count c.args.listener.now
    c.loop-item.item-iterator c.next.new.self c.in-Some.item taken c.loop-item.told c.loop-item.listener inv.passing in
    search (rules, falls, few)

pub tell_items-loop-item-preserved : goal.tell_items-loop-item-preserved
tell_items-loop-item-preserved g t c =
    let inv = c.loop-item.invariant in
    let taken = c.in-Some.ensures.steps in
    record {
      size = omega (arith, ap items_size taken.0, inv.size);
      passing = passes_next g.L.Listener.tells c.args.levels c.args.document.now c.args.count c.args.listener.now
          c.loop-item.item-iterator c.next.new.self c.in-Some.item taken c.loop-item.told c.loop-item.listener
          inv.passing c.in-Ok.behind c.tell_item.new.listener c.in-Ok.ensures.found;
    }

pub tell_items-returns-in_default : goal.tell_items-returns-in_default
tell_items-returns-in_default g t c = record {
  found = halts g.L.Listener.tells c.args.levels c.args.document.now c.args.count c.args.listener.now
      c.loop-item.item-iterator c.next.new.self c.in-Some.item c.in-Some.ensures.steps c.loop-item.told
      c.loop-item.listener c.loop-item.invariant.passing c.tell_item.new.listener c.tell_item.result
      c.in_default.not-Ok c.tell_item.ensures.found;
}

pub tell_items-returns : goal.tell_items-returns
tell_items-returns g t c = record {
  found = finds_all g.L.Listener.tells c.args.levels c.args.document.now c.args.count c.args.listener.now
      _ c.loop-item.told c.loop-item.listener c.in-None.ensures.steps.0 c.loop-item.invariant.passing;
}
