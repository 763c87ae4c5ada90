use Rattle.std.proofs.Common.{◌≡◌, codes, length, rules, arith}
use Rattle.bson_tree.specs.Tree.{item, no_items, node}
use Rattle.context_machine.specs.Asks.{among, key_filter, listed}
use Rattle.context_machine.specs.Needs.{needs_seen}
use Rattle.context_machine.specs.declared.keys_asked.Choice.TheVariants as choices
use Rattle.context_machine.proofs.Frames.{nested, grown}
use Rattle.context_machine.proofs.keys_asked.put_or.Goals as goal

pub returns : goal.returns
unfolding key_filter
returns c =
    let at : length c.put_name.new.out.items ≡ c.len-at.result = search rules in
    let wide =
    grown c.args.out.now.items c.put_name.new.out.items c.open.new.out.items 4
    (codes "$or") c.in_ok-put_name.ensures.named c.in_ok-open.ensures.opened in
    let all =
    nested c.args.out.now.items c.put_name.new.out.items c.open.new.out.items c.put_choices.new.out.items
    c.close.new.out.items 4 (codes "$or")
    (item (codes "0") (node 3 (among (codes "_id") (listed choices.Ids (needs_seen c.args.needs.now))))
    (item (codes "1") (node 3 (among (codes "keyAltNames") (listed choices.Names (needs_seen c.args.needs.now))))
    no_items))
    c.len-at.result at
    c.in_ok-put_name.ensures.named c.in_ok-open.ensures.opened c.in_ok-put_choices.ensures.put
    c.in_ok-close.ensures.closed in
    record {
      put = all.put;
      size = omega (arith, wide, all.size, c.in_ok-put_choices.ensures.size);
    }
