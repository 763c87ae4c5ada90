-- The slot of the id is filled, and then that of one name after another.
use Rattle.std.proofs.Common.{◌∙◌, ◌∷◌, ◌++◌, List, [], ap, refl, subst, sym, take, ℕ}
use Rattle.std.proofs.lemmas.List.{take_more}
use Rattle.context_machine.specs.declared.slots.Slots.{Slots}
use Rattle.context_machine.proofs.Filled.{FillsFront, fills_id, fills_name}
use Rattle.context_machine.proofs.slots.Slots.fill.Goals as goal

pub loop-name-init : goal.loop-name-init
loop-name-init c =
    let now : Slots = record { ids = c.fill_id.new.ids; names = c.args.self.now.names } in
    fills_id c.args.self.now now c.args.key.now.id c.args.number refl c.fill_id.ensures.filled

pub loop-name-preserved : goal.loop-name-preserved
loop-name-preserved c =
    let next : Slots = record { ids = c.loop-name.self.ids; names = c.fill_name.new.names } in
    let before = take c.loop-name.name-index c.as_slice-name-items.result.now in
    subst (λ (names : List (List ℕ)). FillsFront c.args.self.now next c.args.key.now.id names c.args.number)
    (ap (λ (name : List ℕ). before ++ name ∷ []) (c.as_slice.ensures.same ∙ c.name-item.is)
    ∙ sym (take_more c.as_slice-name-items.result.now c.loop-name.name-index c.name-item.result c.loop-name-test.true))
    (fills_name c.args.self.now c.loop-name.self next c.args.key.now.id before c.as_slice.result.now c.args.number
    c.loop-name.invariant refl c.fill_name.ensures.filled)
