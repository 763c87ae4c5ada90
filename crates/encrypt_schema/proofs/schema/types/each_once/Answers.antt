-- The types kept are those named.
use Rattle.std.proofs.Common.{◌≡◌, ◌∙◌, ◌≤◌, ℕ, List, length, ap, sym, rules}
use Rattle.std.proofs.lemmas.List.{at_drop_all}
use Rattle.encrypt_schema.specs.Language.TypeNames.{each_once, has_type, once_behind}
use Rattle.encrypt_schema.proofs.Language.TypeLists.{same_types}
use Rattle.encrypt_schema.proofs.schema.types.each_once.Goals as goal

pub returns-clause-same : goal.returns-clause-same
returns-clause-same c =
    let kept = c.loop-tag.kept.items in
    let types = c.args.types.now in
    let past : length types ≤ c.loop-tag.tag-index = search rules in
    let is : c.from_vec.result ≡ kept = search rules in
    let whole : kept ≡ each_once types =
    sym (at_drop_all (once_behind kept) types c.loop-tag.tag-index past) ∙ c.loop-tag.invariant in
    λ tag. ap (λ (ts : List ℕ). has_type ts tag) (is ∙ whole) ∙ same_types types tag
