-- Counts of calls and of faults: 64 bits, and they stand still at their last value.
use Rattle.std.specs.Prelude.{ℕ, ◌+◌, ◌-◌, ◌^◌, ◌≤◌, ◌==◌, ◌&&◌, Bool, List, min, nat_lt}
use Rattle.std.specs.List.{list_any}

-- the number that comes after n, up to the last one
abbrev pub next_count : ℕ → ℕ
next_count n = min (n + 1) (2 ^ 64 - 1)

-- a count of faults rose, or stands at its last value
abbrev pub Rose : ℕ → ℕ → Type 0
Rose before now = next_count before ≤ now

-- a call fails by the list of the numbers of calls that are to fail: the list has its number, which isn't the last one
abbrev pub fails_at : List ℕ → ℕ → Bool
fails_at failing call = nat_lt call (2 ^ 64 - 1) && list_any (λ n. n == call) failing
