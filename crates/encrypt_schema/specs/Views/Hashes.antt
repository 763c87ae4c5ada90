-- Hashes of names
use Rattle.std.specs.Prelude.{ℕ, Bool}
use Rattle.std.specs.BTreeSet.{BTreeSet, contains_by}
use Rattle.std.specs.Ordering.{nat_cmp}

-- the set has this hash
abbrev pub has_hash : BTreeSet ℕ → ℕ → Bool
has_hash hashes hash = contains_by (nat_cmp hash) hashes
