-- The slots of rules, numbers from 0: rules of one slot have one key
use Rattle.std.specs.Prelude.{◌≡◌, ◌<◌, ◌≤◌, ℕ, List, length, get_or, Option, Some, None}
use Rattle.encrypt_schema.specs.declared.path.rows.Rule.{Rule}
use Rattle.encrypt_schema.specs.declared.path.spots.Spot.{Spot}
use Rattle.encrypt_schema.specs.Language.Policies.{policy_at}
use Rattle.encrypt_schema.specs.Language.Row.{Row}
use Rattle.encrypt_schema.specs.Views.Spots.{grid_rows, HoldsRules}

-- what a list has at a place; none where it has nothing there, or ends before
abbrev pub nth_known : {A : Type 0} → List (Option A) → ℕ → Option A
nth_known known i = get_or known i None

-- rules of one slot have one key
abbrev pub ShareKeys : List (Option ℕ) → List Row → Type 0
ShareKeys slots rows = (i j s : ℕ) → nth_known slots i ≡ Some s → nth_known slots j ≡ Some s
    → (policy_at i rows).key ≡ (policy_at j rows).key

-- the slots of rules: so many, each below their number
pub record AreSlots (slots : List (Option ℕ)) (count : ℕ) (rows : List Row) : Type 0 where
  pub shared : ShareKeys slots rows
  pub below : (i s : ℕ) → nth_known slots i ≡ Some s → s < count
  pub few : count ≤ length slots
  pub each : length slots ≡ length rows

-- rules in memory: their paths are those of a tree of names, and their slots are these
pub record AreHeld (spots : List Spot) (rules : List Rule) (slots : List (Option ℕ)) (count : ℕ) : Type 0 where
  pub grid : HoldsRules spots rules
  pub keys : AreSlots slots count (grid_rows spots rules)
