-- A measure of trees of which some fact holds, within a number of bytes.
use Rattle.std.specs.Prelude.{◌≡◌, ◌≤◌, ℕ, Option, Some, None}

-- the size, where the fact holds and the size is at most `room`; else none
abbrev pub Measures : Option ℕ → Type 0 → ℕ → ℕ → Type 0
Measures None P size room = P → size ≤ room → ⊥
Measures (Some n) P size room = P × (n ≡ size) × (size ≤ room)
