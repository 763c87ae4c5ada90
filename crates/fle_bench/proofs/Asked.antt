-- Payloads whose keys are looked up while they are found.
use Rattle.std.proofs.Common.{◌≡◌, Bool, true, List, [], ◌∷◌, ap, subst, ◌∙◌}
use Rattle.std.specs.Prelude.{is_some}
use Rattle.doc_rewrite.specs.declared.found.FoundAt.{FoundAt}
use Rattle.doc_rewrite.specs.Finding.{HasKeysFor, Tells}
use Rattle.doc_rewrite.specs.Keys.{Table, key_by_id}

module _ {S : Type 0} (keys : S → Table) (all : S → Bool) where
  -- one more key was looked up
  abbrev pub Asks : S → S → FoundAt → Type 0
  Asks a b f = (keys b ≡ keys a) × (all b ≡ true → (all a ≡ true) × (is_some (key_by_id (keys a).ids f.key_id) ≡ true))

  asked_all : (a b : S) (fs : List FoundAt) → Tells Asks a b fs → all b ≡ true
      → (all a ≡ true) × HasKeysFor (key_by_id (keys a).ids) fs
  asked_all a b [] told there = (ap all told ∙ there, tt)
  asked_all a b (f ∷ fs) told there =
      let rest = asked_all told.0 b fs told.2 there in
      let one = told.1.1 rest.0 in
      (one.0, (one.1, subst (λ (t : Table). HasKeysFor (key_by_id t.ids) fs) told.1.0 rest.1))

  pub asked : (a b : S) (fs gs : List FoundAt) → fs ≡ gs → Tells Asks a b fs → all b ≡ true
      → HasKeysFor (key_by_id (keys a).ids) gs
  asked a b fs gs same told there = subst (HasKeysFor (key_by_id (keys a).ids)) same (asked_all a b fs told there).1
