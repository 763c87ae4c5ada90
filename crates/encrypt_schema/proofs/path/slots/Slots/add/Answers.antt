-- No slot, that of a rule with the same key, or a new one.
use Rattle.std.proofs.Common.{◌≡◌, ◌++◌, ◌∷◌, [], ℕ, List, Option, IfSome, sym, ap, subst, subst₂, ◌∙◌}
use Rattle.encrypt_schema.specs.Language.Policies.{policy_at}
use Rattle.encrypt_schema.specs.Views.Slots.{AreSlots}
use Rattle.encrypt_schema.proofs.Paths.Sharing.{slot_none, slot_again, slot_new}
use Rattle.encrypt_schema.proofs.path.slots.Slots.add.Goals as goal

pub returns-in_default : goal.returns-in_default
returns-in_default c = record {
  added = λ rows row h same.
      subst₂ (λ (ss : List (Option ℕ)) (n : ℕ). AreSlots ss n (rows ++ row ∷ []))
      (sym c.in_ok-push.ensures.pushed) (sym c.push.ensures.count)
      (slot_none c.args.self.now.slots.items c.args.self.now.count rows row h);
}

pub returns-in_ok-push-in-Some-same : goal.returns-in_ok-push-in-Some-same
returns-in_ok-push-in-Some-same c = record {
  added = λ rows row h same.
      subst₂ (λ (ss : List (Option ℕ)) (n : ℕ). AreSlots ss n (rows ++ row ∷ []))
      (sym (c.in_ok-push-in-Some-same.ensures.pushed
      ∙ ap (λ (o : Option ℕ). c.args.self.now.slots.items ++ o ∷ []) c.slot-slot.ensures.slot))
      (sym c.push-in-Some-same.ensures.count)
      (slot_again c.args.self.now.slots.items c.args.self.now.count rows row c.in-Some-same.i h
      (subst (λ (o : Option ℕ). IfSome o (λ k. (policy_at k rows).key ≡ row.policy.key)) c.in-Some-same.is same));
}

pub returns-in_ok-push_new-in-None : goal.returns-in_ok-push_new-in-None
returns-in_ok-push_new-in-None c = record {
  added = λ rows row h same.
      subst₂ (λ (ss : List (Option ℕ)) (n : ℕ). AreSlots ss n (rows ++ row ∷ []))
      (sym c.in_ok-push_new-in-None.ensures.pushed) (sym c.in_ok-push_new-in-None.ensures.count)
      (slot_new c.args.self.now.slots.items c.args.self.now.count rows row h);
}
