-- MongoDB Client Side Encryption: the policies of rules, and what they allow
use Rattle.std.specs.Prelude.{ℕ, zero, suc, Bool, true, false, ◌&&◌, List, [], ◌∷◌, bytes_eq}
use Rattle.std.specs.List.{list_all}
use Rattle.encrypt_schema.specs.declared.schema.policy.Algorithm.{Algorithm}
use Rattle.encrypt_schema.specs.declared.schema.policy.Algorithm.TheVariants.{Deterministic, Random}
use Rattle.encrypt_schema.specs.declared.schema.policy.KeyRef.{KeyRef}
use Rattle.encrypt_schema.specs.declared.schema.policy.KeyRef.TheVariants.{Id, Pointer}
use Rattle.encrypt_schema.specs.declared.schema.policy.Policy.{Policy}
use Rattle.encrypt_schema.specs.Language.Row.{Row}
pub use Rattle.encrypt_schema.specs.Language.TypeNames.{has_type}
use Rattle.encrypt_schema.specs.Paths.Classes.{is_same_path}

-- a policy that allows no type
abbrev pub no_policy : Policy
no_policy = record { algorithm = Random; key = Id []; types = [] }

-- the policy of the rule of a number, counted from 0; past the last rule one that allows no type
unfoldable pub policy_at : ℕ → List Row → Policy
policy_at i [] = no_policy
policy_at zero (row ∷ rows) = row.policy
policy_at (suc i) (row ∷ rows) = policy_at i rows

-- `AEAD_AES_256_CBC_HMAC_SHA_512-Random`
abbrev pub is_random : Algorithm → Bool
is_random Deterministic = false
is_random Random = true

-- each type of the first is one of the second
abbrev pub are_types_of : List ℕ → List ℕ → Bool
are_types_of types others = list_all (λ tag. has_type others tag) types

-- two algorithms are one
abbrev pub is_same_algorithm : Algorithm → Algorithm → Bool
is_same_algorithm Deterministic Deterministic = true
is_same_algorithm Deterministic Random = false
is_same_algorithm Random Deterministic = false
is_same_algorithm Random Random = true

-- two keys are named in one way: by an id, or by a pointer
abbrev pub is_same_key : KeyRef → KeyRef → Bool
is_same_key (Id id) (Id other) = bytes_eq id other
is_same_key (Pointer names) (Pointer others) = is_same_path names others
is_same_key _ _ = false

-- two policies have equal algorithms, keys and sets of types
unfoldable pub is_same_policy : Policy → Policy → Bool
is_same_policy policy other =
    is_same_algorithm policy.algorithm other.algorithm
    && is_same_key policy.key other.key
    && are_types_of policy.types other.types
    && are_types_of other.types policy.types
