use Rattle.std.proofs.Common.{◌∙◌, ◌+◌, [], take, refl, ap, sym, subst, arith}
use Rattle.bson_tree.specs.Tree.{items_size, count, tag_of}
use Rattle.bson_tree.specs.Spelling.{value_bytes}
use Rattle.bson_codec.specs.Borrowed.{At}
use Rattle.encrypt_schema.specs.Commands.Pointers.{Targets, pointed}
use Rattle.encrypt_schema.specs.Commands.Stations.{station}
use Rattle.encrypt_schema.specs.Commands.Visits.{entry, names_of, visits}
use Rattle.encrypt_schema.proofs.Commands.Elements.{elder_next}
use Rattle.encrypt_schema.proofs.Commands.Settled.{settled_in}
use Rattle.command_marker.specs.Places.{command_station}
use Rattle.command_marker.proofs.Checked.{StillLeft, below_inside, below_silent, inside_child, inside_raw, own_ends}
use Rattle.command_marker.proofs.Checked.{own_goes_on, still_done, still_ends, still_next}
use Rattle.command_marker.proofs.checking.+check.Goals as goal

pub check_elements-loop-item-init : goal.check_elements-loop-item-init
check_elements-loop-item-init t c =
    let rows = c.args.rows.now in
    let s = command_station c.args.at rows in
    let d = c.args.document.now in
    let here = c.into_iter-item-iterator.ensures.into_iter_gives ∙ c.items-item-items.ensures.elements in
    record {
      size = omega (arith, ap (λ (a : At). items_size a.tree) here);
      number = omega (arith, ap (λ (a : At). count a.tree) here);
      elder = sym (ap (λ (a : At). names_of a.tree) here);
      left = λ ts. subst (λ (a : At). StillLeft rows (visits rows s ts (d.start + 4) [] d.tree)
          (visits rows s ts a.start [] a.tree)) (sym here) (λ p. (p, refl));
    }

pub check_elements-loop-item-preserved : goal.check_elements-loop-item-preserved
check_elements-loop-item-preserved t c =
    let rows = c.args.rows.now in
    let s = command_station c.args.at rows in
    let d = c.args.document.now in
    let taken = c.in-Some.ensures.steps in
    let kept = c.loop-item.invariant in
    let names = elder_next _ _ _ _ (kept.elder ∙ ap names_of taken.0) in
    record {
      size = omega (arith, ap items_size taken.0, kept.size);
      number = omega (arith, ap count taken.0, kept.number);
      elder = names.1;
      left = λ ts. still_next rows s ts (take c.loop-item.k (names_of d.tree)) _ c.loop-item.item-iterator
          c.next.new.self c.in-Some.item (visits rows s ts (d.start + 4) [] d.tree) taken names.0
          (c.in-Ok.ensures.told ts) (kept.left ts);
    }

pub check_elements-returns-in-Err : goal.check_elements-returns-in-Err
check_elements-returns-in-Err t c =
    let rows = c.args.rows.now in
    let s = command_station c.args.at rows in
    let d = c.args.document.now in
    record {
      told = λ ts.
          let us : Targets = pointed rows s ts d.start d.tree in
          still_ends rows s us (take c.loop-item.k (names_of d.tree)) c.loop-item.item-iterator c.next.new.self
          c.in-Some.item (visits rows s us (d.start + 4) [] d.tree) c.in-Err.fault c.in-Some.ensures.steps
          (c.in-Err.ensures.told us) (c.loop-item.invariant.left us);
    }

pub check_elements-returns : goal.check_elements-returns
check_elements-returns t c =
    let rows = c.args.rows.now in
    let s = command_station c.args.at rows in
    let d = c.args.document.now in
    record {
      told = λ ts.
          let us : Targets = pointed rows s ts d.start d.tree in
          still_done rows s us (take c.loop-item.k (names_of d.tree)) c.loop-item.item-iterator
          (visits rows s us (d.start + 4) [] d.tree) c.in-None.ensures.steps.0 (c.loop-item.invariant.left us);
    }

pub check_element-returns-in-Ok : goal.check_element-returns-in-Ok
check_element-returns-in-Ok t c =
    let rows = c.args.rows.now in
    let elder = take c.args.k (names_of c.args.document.now.tree) in
    record {
      told = λ ts. own_goes_on rows (command_station c.args.at rows) ts elder c.args.item.now c.check_below.result
          (c.in-Ok.ensures.told rows) (c.check_below.ensures.told ts);
    }

pub check_element-returns-in-Err : goal.check_element-returns-in-Err
check_element-returns-in-Err t c =
    let rows = c.args.rows.now in
    let elder = take c.args.k (names_of c.args.document.now.tree) in
    record {
      told = λ ts. own_ends rows (command_station c.args.at rows) ts elder c.args.item.now c.in-Err.fault
          (c.in-Err.ensures.told rows);
    }

pub check_below-returns-in-Some : goal.check_below-returns-in-Some
check_below-returns-in-Some t c =
    let rows = c.args.rows.now in
    let item = c.args.item.now in
    record {
      told = λ ts free. below_inside rows (station rows (command_station c.args.at rows) (entry item.name item.tree))
          (command_station c.in-Some.place rows) ts item.start item.tree c.check_inside.result c.in-Some.ensures.leads.0
          (c.check_inside.ensures.told ts);
    }

pub check_below-returns-in-None : goal.check_below-returns-in-None
check_below-returns-in-None t c =
    let rows = c.args.rows.now in
    let item = c.args.item.now in
    record {
      told = λ ts free. below_silent rows (station rows (command_station c.args.at rows) (entry item.name item.tree)) ts
          item.start item.tree (c.in-None.ensures.leads free);
    }

pub check_inside-returns-then-is_settled : goal.check_inside-returns-then-is_settled
check_inside-returns-then-is_settled t c =
    let rows = c.args.rows.now in
    let item = c.args.item.now in
    record {
      told = λ ts p. settled_in rows (command_station c.args.at rows) ts item.start item.tree
          (sym (c.is_settled.ensures.settled rows) ∙ c.if-is_settled.true);
    }

pub check_inside-returns-in-Some : goal.check_inside-returns-in-Some
check_inside-returns-in-Some t c =
    let rows = c.args.rows.now in
    let item = c.args.item.now in
    record {
      told = λ ts. inside_child rows (command_station c.args.at rows) ts item.start c.in-Some.document.start
          (tag_of item.tree) item.tree c.in-Some.document.tree c.check_elements.result c.in-Some.ensures.node
          c.in-Some.ensures.start (c.check_elements.ensures.told ts);
    }

pub check_inside-returns-in-None : goal.check_inside-returns-in-None
check_inside-returns-in-None t c =
    let rows = c.args.rows.now in
    let item = c.args.item.now in
    record {
      told = λ ts. inside_raw rows (command_station c.args.at rows) ts item.start (tag_of item.tree) item.tree
          (value_bytes item.tree) c.in-None.ensures.node;
    }
