-- The bytes are cut where the elements are.
use Rattle.std.proofs.Common.{◌≡◌, ◌∙◌, ◌+◌, ◌<◌, ◌^◌, ℕ, List, Option, MatchOption, length, ap, arith, subst, sym}
use Rattle.bson_tree.specs.Spelling.{items_bytes}
use Rattle.bson_tree.specs.Tree.{Items, no_items}
use Rattle.bson_codec.specs.Borrowed.{At, elements_of, SpellsElements}
use Rattle.bson_codec.specs.Cuts.{IsMet, items_before, items_from}
use Rattle.bson_codec.specs.declared.front.Parts.{Parts}
use Rattle.bson_codec.proofs.Cuts.{cut}
use Rattle.bson_codec.proofs.iter.RawIter.skip_to.Goals as goal

pub invariant_of-self : goal.invariant_of-self
invariant_of-self c =
    let n = c.cut_before-width.result.0 in
    let parts = cut c.args.at c.self.inside.at c.self.inside.rest.now n c.self.invariant.1
    c.cut_before-width.ensures.width in
    subst (λ (x : List ℕ). (c.self.inside.at + n + length x < 2 ^ 31) × SpellsElements x)
    (sym c.split_at.ensures.back) (omega (arith, parts.size, c.self.invariant.0), parts.spelled)

pub returns-in-None-clause-bytes : goal.returns-in-None-clause-bytes
returns-in-None-clause-bytes c =
    let parts = cut c.args.at c.self.inside.at c.self.inside.rest.now c.cut_before-width.result.0 c.self.invariant.1
    c.cut_before-width.ensures.width in
    c.split_at.ensures.front ∙ parts.front ∙ ap (λ (s : At). items_bytes (items_before c.args.at s)) c.self.view_is

pub returns-in-Some-clause-bytes : goal.returns-in-Some-clause-bytes
returns-in-Some-clause-bytes c =
    let parts = cut c.args.at c.self.inside.at c.self.inside.rest.now c.cut_before-width.result.0 c.self.invariant.1
    c.cut_before-width.ensures.width in
    c.split_at.ensures.front ∙ parts.front ∙ ap (λ (s : At). items_bytes (items_before c.args.at s)) c.self.view_is

pub returns-in-None-clause-taken : goal.returns-in-None-clause-taken
returns-in-None-clause-taken c =
    let parts = cut c.args.at c.self.inside.at c.self.inside.rest.now c.cut_before-width.result.0 c.self.invariant.1
    c.cut_before-width.ensures.width in
    let here : At = record { tree = elements_of c.self.inside.rest.now; start = c.self.inside.at } in
    let behind : Items = (items_from c.args.at here).tree in
    let none : behind ≡ no_items =
    subst (λ (o : Option Parts). MatchOption o (behind ≡ no_items)
    (λ x. IsMet behind x.tag x.name.now x.value.now x.rest.now)) c.in-None.is c.cut_before-width.ensures.met in (
      ap (λ (s : At). (items_from c.args.at s).tree) (sym c.self.view_is) ∙ none,
      ap elements_of c.split_at.ensures.back ∙ ap (λ (s : At). s.tree) parts.left ∙ none,
    )

pub returns-in-Some-clause-taken : goal.returns-in-Some-clause-taken
returns-in-Some-clause-taken c =
    let parts = cut c.args.at c.self.inside.at c.self.inside.rest.now c.cut_before-width.result.0 c.self.invariant.1
    c.cut_before-width.ensures.width in
    let here : At = record { tree = elements_of c.self.inside.rest.now; start = c.self.inside.at } in
    let behind : Items = (items_from c.args.at here).tree in
    let name = c.in-Some.parts.name.now in
    let met : IsMet behind c.in-Some.parts.tag name c.in-Some.parts.value.now c.in-Some.parts.rest.now =
    subst (λ (o : Option Parts). MatchOption o (behind ≡ no_items)
    (λ x. IsMet behind x.tag x.name.now x.value.now x.rest.now)) c.in-Some.is c.cut_before-width.ensures.met in
    let seen : At → At = items_from c.args.at in (
      ap (λ (s : At). (seen s).tree) (sym c.self.view_is) ∙ met.whole,
      ap (λ (s : At). s.start + (2 + length name)) (parts.left ∙ ap seen c.self.view_is),
      ap (λ (x : List ℕ). c.self.inside.at + c.cut_before-width.result.0 + (2 + length name) + length x) met.bytes,
    )
