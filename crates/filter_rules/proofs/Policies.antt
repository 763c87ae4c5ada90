-- The algorithm of the rule of a number.
use Rattle.std.proofs.Common.{◌≡◌, ℕ, zero, suc, true, List, [], ◌∷◌, Some, None, slice_get, option_map, refl, sym, ap}
use Rattle.encrypt_schema.specs.declared.schema.policy.Policy.{Policy}
use Rattle.encrypt_schema.specs.Language.Row.{Row}
use Rattle.encrypt_schema.specs.Language.Policies.{policy_at, is_random}
use Rattle.encrypt_schema.proofs.Language.PolicyAt.{policy_found}

-- that of the rule that is there
pub random_found : (i : ℕ) (rows : List Row) (policy : Policy)
    → Some policy ≡ option_map (λ (row : Row). row.policy) (slice_get rows i)
    → is_random (policy_at i rows).algorithm ≡ is_random policy.algorithm
random_found i rows policy found = ap (λ (p : Policy). is_random p.algorithm) (policy_found i rows policy (sym found))

-- past the last rule it counts as random
pub random_past : (i : ℕ) (rows : List Row) → None ≡ option_map (λ (row : Row). row.policy) (slice_get rows i)
    → is_random (policy_at i rows).algorithm ≡ true
unfolding policy_at
random_past i [] past = refl
random_past zero (row ∷ rows) past = absurd cc
random_past (suc i) (row ∷ rows) past = random_past i rows past
