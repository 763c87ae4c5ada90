-- A new need gets a slot, where they are many.
use Rattle.std.proofs.Common.{◌≡◌, ◌∙◌, ◌<◌, ◌∷◌, [], ◌++◌, ap, length, map, rules, subst, sym}
use Rattle.std.proofs.lemmas.List.{length-map, map-append}
use Rattle.context_machine.specs.Needs.{need_at_seen, needs_seen}
use Rattle.context_machine.proofs.Filled.{slot_more}
use Rattle.context_machine.proofs.needed.put_new.Goals as goal

pub returns-then-before-gt-FEW-clause-slots : goal.returns-then-before-gt-FEW-clause-slots
returns-then-before-gt-FEW-clause-slots c =
    let put : c.push.new.self.items ≡ c.args.needs.now.items ++ c.args.n ∷ [] = search rules in
    let many : 8 < length c.args.needs.now.items = search rules in
    let seen : needs_seen c.push.new.self.items ≡ needs_seen c.args.needs.now.items ++ need_at_seen c.args.n ∷ [] =
    ap (map need_at_seen) put ∙ map-append need_at_seen c.args.needs.now.items (c.args.n ∷ []) in
    slot_more (needs_seen c.args.needs.now.items) (needs_seen c.push.new.self.items) c.args.slots.now c.add.new.self
    (need_at_seen c.args.n) c.add.result seen
    (subst (λ k. 8 < k) (sym (length-map c.args.needs.now.items need_at_seen)) many) c.requires.slots c.add.ensures.put
