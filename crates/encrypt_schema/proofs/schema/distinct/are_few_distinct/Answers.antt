-- A new name stands behind the others.
use Rattle.std.proofs.Common.{◌≡◌, ◌∙◌, ◌<◌, List, ℕ, false, take, sym, ap, rules}
use Rattle.bson_tree.specs.Tree.{item}
use Rattle.encrypt_schema.specs.Language.Names.{is_among}
use Rattle.encrypt_schema.specs.Views.Borrowed.{names}
use Rattle.encrypt_schema.specs.Views.Few.{few}
use Rattle.encrypt_schema.proofs.Language.Few.{one_more}
use Rattle.encrypt_schema.proofs.schema.distinct.are_few_distinct.Goals as goal

pub loop-item-preserved : goal.loop-item-preserved
loop-item-preserved c =
    let room : c.loop-item.count < few = search rules in
    let new : is_among c.name-name.result.now (names (take c.loop-item.count c.loop-item.before)) ≡ false =
    search rules in
    let left = c.next.new.self.tree in
    one_more c.loop-item.before c.loop-item.count c.name-name.result c.in-Some.item.tree c.loop-item.item-iterator.tree
    left c.args.document.now.tree c.loop-item.invariant
    (c.in-Some.ensures.steps.0
    ∙ ap (λ (n : List ℕ). item n c.in-Some.item.tree left) (sym c.name-name.ensures.name)) new room
