use Rattle.std.proofs.Common.{◌≡◌, ◌∷◌, [], codes, rules}
use Rattle.bson_tree.specs.Tree.{item, no_items}
use Rattle.context_machine.specs.Asks.{collection_filter, text}
use Rattle.context_machine.proofs.Frames.{whole}
use Rattle.context_machine.proofs.asking.collection_filter.Goals as goal

pub returns : goal.returns
unfolding collection_filter
returns c =
    let four : c.open.new.out.items ≡ 0 ∷ (0 ∷ (0 ∷ (0 ∷ []))) = search rules in
    record {
      filter = whole c.open.new.out.items c.put_collection.new.out.items c.close.new.out.items
          (item (codes "name") (text c.args.name.now) no_items) four
          c.in_ok-put_collection.ensures.put c.in_ok-close.ensures.closed;
    }
