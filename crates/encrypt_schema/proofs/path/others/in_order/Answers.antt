-- The names so far are found; behind the last one, all.
use Rattle.std.proofs.Common.{◌≤◌, ◌+◌, ℕ, List, ◌∷◌, length, drop, sym, ap, ◌∙◌, rules}
use Rattle.std.proofs.lemmas.List.{drop_more, drop_all}
use Rattle.encrypt_schema.proofs.Paths.Listed.{listed_more, listed_all}
use Rattle.encrypt_schema.proofs.path.others.in_order.Goals as goal

pub loop-name-preserved : goal.loop-name-preserved
loop-name-preserved c =
    let names = c.args.names.now in
    let i = c.loop-name.name-index in
    listed_more c.loop-name.listed c.insert.new.self c.in_ok-key.key.items (drop i names) (drop (i + 1) names) names
    (drop_more names i c.name-item.result c.loop-name-test.true
    ∙ ap (λ (n : List ℕ). n ∷ drop (i + 1) names)
    (sym c.name-item.is ∙ sym c.as_slice.ensures.same ∙ sym c.in_ok-key.ensures.copy))
    c.in-Ok.ensures.updates c.loop-name.invariant

pub returns : goal.returns
returns c =
    let names = c.args.names.now in
    let i = c.loop-name.name-index in
    let past : length names ≤ i = search rules in
    record { same = listed_all c.loop-name.listed (drop i names) names (drop_all i names past) c.loop-name.invariant }
