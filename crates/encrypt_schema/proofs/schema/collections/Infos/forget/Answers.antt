use Rattle.std.proofs.Common.{◌≡◌, ◌∙◌, ◌-◌, ℕ, List, Option, Some, None, cond, bytes_eq, sym, ap, rules, arith, length}
use Rattle.std.proofs.Common.{get_or}
use Rattle.std.specs.Prelude.{vec_len}
use Rattle.encrypt_schema.specs.Language.Collection.{place_from}
use Rattle.encrypt_schema.specs.Language.Putting.{forgotten, renumbered}
use Rattle.encrypt_schema.proofs.Language.Forgotten.{found_gone, found_left, left_distinct, none_left}
use Rattle.encrypt_schema.proofs.Language.Numbered.{found_none}
use Rattle.encrypt_schema.proofs.Language.Placed.{within}
use Rattle.encrypt_schema.proofs.Language.Renumbered.{forgotten_numbers, removed_at}
use Rattle.encrypt_schema.proofs.schema.collections.Infos.forget.Goals as goal

pub swap_remove-requires : goal.swap_remove-requires
swap_remove-requires c =
    let below = within c.args.name.now c.self.inside.infos.items c.in-Some.number
    (sym (c.self.invariant.0 c.args.name.now) ∙ sym c.in-Some.ensures.number) in
    let count : vec_len c.self.inside.infos ≡ length c.self.inside.infos.items = search rules in
    omega (arith, below, count)

pub invariant_of-self : goal.invariant_of-self
invariant_of-self c =
    let cs = c.self.inside.infos.items in
    let name = c.args.name.now in
    let number = c.in-Some.number in
    let placed : place_from 0 name cs ≡ Some number = sym (c.self.invariant.0 name) ∙ sym c.in-Some.ensures.number in
    let left : c.swap_remove.new.self.items ≡ forgotten name cs =
    c.swap_remove.ensures.items ∙ removed_at number name cs c.swap_remove.result placed in
    let last : c.index.result.now ≡ get_or cs (length cs - 1) c.index.result.now = search rules in
    rw left (
      (λ q. c.remove_name.ensures.removed q
          ∙ ap (λ (o : Option ℕ). cond (bytes_eq name q) None o)
          (c.renumber.ensures.renumbered q
          ∙ (rw (c.self.invariant.0 q)
          (ap (λ (n : List ℕ). cond (bytes_eq n q) (renumbered number (place_from 0 q cs)) (place_from 0 q cs))
          c.name.ensures.name)))
          ∙ forgotten_numbers number name q cs c.index.result.now c.self.invariant.1 placed last),
      left_distinct name cs c.self.invariant.1,
    )

pub returns-in-Some-clause-forgotten : goal.returns-in-Some-clause-forgotten
returns-in-Some-clause-forgotten c = rw (sym c.self.view_is) (c.swap_remove.ensures.items
    ∙ removed_at c.in-Some.number c.args.name.now c.self.inside.infos.items c.swap_remove.result
    (sym (c.self.invariant.0 c.args.name.now) ∙ sym c.in-Some.ensures.number))

pub returns-in-Some-clause-gone : goal.returns-in-Some-clause-gone
returns-in-Some-clause-gone c =
    let cs = c.self.inside.infos.items in
    let left : c.swap_remove.new.self.items ≡ forgotten c.args.name.now cs =
    c.swap_remove.ensures.items
    ∙ removed_at c.in-Some.number c.args.name.now cs c.swap_remove.result
    (sym (c.self.invariant.0 c.args.name.now) ∙ sym c.in-Some.ensures.number) in
    rw left (found_gone c.args.name.now cs c.self.invariant.1)

pub returns-in-Some-clause-others : goal.returns-in-Some-clause-others
returns-in-Some-clause-others c =
    let cs = c.self.inside.infos.items in
    let left : c.swap_remove.new.self.items ≡ forgotten c.args.name.now cs =
    c.swap_remove.ensures.items
    ∙ removed_at c.in-Some.number c.args.name.now cs c.swap_remove.result
    (sym (c.self.invariant.0 c.args.name.now) ∙ sym c.in-Some.ensures.number) in
    rw (sym c.self.view_is) (rw left (λ q. found_left c.args.name.now cs q c.self.invariant.1))

pub returns-in-None-clause-forgotten : goal.returns-in-None-clause-forgotten
returns-in-None-clause-forgotten c =
    let cs = c.self.inside.infos.items in
    rw (sym c.self.view_is) (sym (none_left c.args.name.now cs
    (found_none cs c.args.name.now (sym (c.self.invariant.0 c.args.name.now) ∙ sym c.in-None.ensures.number))))

pub returns-in-None-clause-gone : goal.returns-in-None-clause-gone
returns-in-None-clause-gone c =
    rw (sym c.self.view_is) (found_none c.self.inside.infos.items c.args.name.now
    (sym (c.self.invariant.0 c.args.name.now) ∙ sym c.in-None.ensures.number))
