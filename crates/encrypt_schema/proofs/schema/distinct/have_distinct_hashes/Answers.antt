-- A name whose hash is new is new.
use Rattle.std.proofs.Common.{◌≡◌, ◌∙◌, sym, ap, rules}
use Rattle.bson_tree.specs.NameNumbers.{hash_of}
use Rattle.encrypt_schema.proofs.Language.Hashed.{none_hashed, one_hashed}
use Rattle.encrypt_schema.proofs.schema.distinct.have_distinct_hashes.Goals as goal

pub loop-item-init : goal.loop-item-init
loop-item-init c =
    let same : c.into_iter-item-iterator.result.tree ≡ c.args.document.now.tree = search rules in
    none_hashed _ c.into_iter-item-iterator.result.tree c.args.document.now.tree same

pub loop-item-preserved : goal.loop-item-preserved
loop-item-preserved c =
    one_hashed _ _ c.hash_of.result c.in-Some.item.name _ _ _ _ c.loop-item.invariant c.in-Some.ensures.steps.0
    (c.hash_of.ensures.hash ∙ ap hash_of c.name.ensures.name) c.in-Ok-true.ensures.updates
    (sym c.in-Ok-true.field-0-test ∙ c.in-Ok-true.ensures.added)
