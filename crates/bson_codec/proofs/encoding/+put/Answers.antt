-- At the end of the loop nothing is left to write.
use Rattle.std.proofs.Common.{◌≡◌, ◌≤◌, ◌++◌, sym, ap, ◌∙◌, arith}
use Rattle.std.proofs.lemmas.List.{append-nil}
use Rattle.bson_tree.specs.Tree.{Items, no_items, after, count}
use Rattle.bson_tree.specs.Spelling.{items_bytes}
use Rattle.bson_codec.proofs.Frames.{after_all}
use Rattle.bson_codec.proofs.encoding.+put.Goals as goal

pub put_items-returns : goal.put_items-returns
put_items-returns t c =
    let past : count c.args.kids.now ≤ c.loop-i.i = omega arith in
    let none : after c.loop-i.i c.args.kids.now ≡ no_items = after_all c.loop-i.i c.args.kids.now past in
    record {
      appended = sym (append-nil c.loop-i.out.items)
          ∙ ap (λ (is : Items). c.loop-i.out.items ++ items_bytes is) (sym none) ∙ c.loop-i.invariant.written;
    }
