use Rattle.std.proofs.Common.{◌+◌, ap, arith, length, drop, rules}
use Rattle.bson_tree.specs.Tree.{items_size}
use Rattle.doc_rewrite.specs.Sites.{site_seen}
use Rattle.doc_rewrite.specs.Standing.{empties}
use Rattle.doc_rewrite.proofs.Judged.{none_in, own_site, inside_told, goes_on, ended}
use Rattle.command_tests.proofs.rewrite.standing.+stand.Goals as goal

pub stand_at-returns-in_default : goal.stand_at-returns-in_default
stand_at-returns-in_default t c = record {
  taken = none_in c.args.item.now.start c.args.item.now.tree
      (empties (drop c.args.next c.args.sites.now));
}

pub stand_at-returns-in-None : goal.stand_at-returns-in-None
stand_at-returns-in-None t c = record {
  taken = none_in c.args.item.now.start c.args.item.now.tree
      (empties (drop c.args.next c.args.sites.now));
}

pub stand_at-returns-then-site-end : goal.stand_at-returns-then-site-end
stand_at-returns-then-site-end t c = record {
  taken = own_site c.args.item.now (drop c.args.next c.args.sites.now)
      (drop (c.args.next + 1) c.args.sites.now) (site_seen c.in-Some.site) c.in-Some.ensures.first
      (omega (arith, c.if-site-start.true, c.start-start.ensures.start))
      (omega (arith, c.if-site-end.true, c.start-start.ensures.start, ap length c.value.ensures.spelling));
}

pub stand_at-returns-in-Some-child : goal.stand_at-returns-in-Some-child
stand_at-returns-in-Some-child t c = record {
  taken = inside_told c.args.item.now c.in-Some-child.document
      (drop c.args.next c.args.sites.now) c.args.sites.now c.stand_inside.result
      (search (rules, c.in-Some-child.ensures.inside))
      (search (rules, c.in-Some-child.ensures.start)) c.stand_inside.ensures.taken;
}

pub stand_inside-loop-item-preserved : goal.stand_inside-loop-item-preserved
stand_inside-loop-item-preserved t c =
    let inv = c.loop-item.invariant in
    let taken = c.in-Some.ensures.steps in
    record {
      size = omega (arith, ap items_size taken.0, inv.size);
      left = goes_on c.args.document.now c.loop-item.item-iterator c.next.new.self c.in-Some.item
          (drop c.args.next c.args.sites.now) (drop c.loop-item.here c.args.sites.now)
          (drop c.in-Some-stand_at.behind c.args.sites.now)
          taken inv.left c.in-Some-stand_at.ensures.taken;
    }

pub stand_inside-returns : goal.stand_inside-returns
stand_inside-returns t c = record {
  taken = ended c.args.document.now c.loop-item.item-iterator (drop c.args.next c.args.sites.now)
      (drop c.loop-item.here c.args.sites.now)
      (search (rules, c.in-None.ensures.steps)) c.loop-item.invariant.left;
}
