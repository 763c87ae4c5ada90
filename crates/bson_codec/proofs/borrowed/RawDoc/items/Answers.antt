-- The elements of the bytes are those of the document, and there are no more of them than bytes.
use Rattle.std.proofs.Common.{◌+◌, ◌<◌, ◌^◌, ap, subst, ◌∙◌, arith}
use Rattle.bson_tree.specs.Tree.{Items, count}
use Rattle.bson_codec.specs.Borrowed.{At, doc_of}
use Rattle.bson_codec.proofs.Items.{items_are}
use Rattle.bson_codec.proofs.Values.{few_items}
use Rattle.bson_codec.proofs.borrowed.RawDoc.items.Goals as goal

pub returns : goal.returns
returns c =
    let at : Items → At = λ t. record { tree = t; start = c.self.inside.start + 4 } in
    let moved : At → At = λ a. record { tree = a.tree; start = a.start + 4 } in
    let few : count (doc_of c.self.inside.bytes.now) < 2 ^ 31 =
    omega (arith, few_items c.self.inside.bytes.now c.self.invariant.1, c.self.invariant.0) in
    record {
      elements = ap at (items_are c.self.inside.bytes.now c.self.invariant.1) ∙ ap moved c.self.view_is;
      few = subst (λ (a : At). count a.tree < 2 ^ 31) c.self.view_is few;
    }
