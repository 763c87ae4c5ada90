-- At the end of the loop nothing is left to measure.
use Rattle.std.proofs.Common.{◌≡◌, ◌≤◌, length, sym, ap, subst, arith}
use Rattle.bson_tree.specs.Tree.{Items, no_items, after, count}
use Rattle.bson_tree.specs.Spelling.{items_bytes}
use Rattle.bson_codec.specs.Layout.{AreElements, IsItems}
use Rattle.bson_codec.proofs.Frames.{after_all}
use Rattle.bson_codec.proofs.measuring.+measure.Goals as goal

pub measure_items-returns : goal.measure_items-returns
measure_items-returns t c =
    let past : count c.args.kids.now ≤ c.loop-i.i = omega arith in
    let none : after c.loop-i.i c.args.kids.now ≡ no_items = after_all c.loop-i.i c.args.kids.now past in
    let nothing : length (items_bytes (after c.loop-i.i c.args.kids.now)) ≡ 0 =
    ap (λ (is : Items). length (items_bytes is)) none in
    let all : c.loop-i.sum ≡ length (items_bytes c.args.kids.now) = omega (arith, c.loop-i.invariant.size, nothing) in
    let laid : AreElements (IsItems c.args.levels) (after c.loop-i.i c.args.kids.now) =
    subst (λ (is : Items). AreElements (IsItems c.args.levels) is) (sym none) tt in
    record { size = (c.loop-i.invariant.front laid, all, omega (arith, c.loop-i.invariant.within, all)) }
