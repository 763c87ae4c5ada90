-- What filling a piece takes from a source that tells what it has left.
use Rattle.std.specs.Prelude.{◌≡◌, ℕ, ◌+◌, ◌-◌, ◌^◌, ◌<◌, ◌≤◌, min, Option, Some, List, [], ◌++◌, length, take, drop}
use Rattle.fle_outside.specs.declared.filling.Fill.{Fill}
use Rattle.fle_outside.specs.declared.filling.Fill.TheVariants as fills

-- whole: the piece is the front of what was left; ended: the piece begins with all that was left; failed: at most the
-- piece's length was handed out
abbrev pub FillTakes : List ℕ → Option (List ℕ) → Fill → List ℕ → Type 0
FillTakes told after fills.Whole piece = (told ≡ piece ++ drop (length piece) told)
    × (after ≡ Some (drop (length piece) told))
FillTakes told after (fills.Ended n) piece = (length told ≡ n) × (told ≡ take n piece) × (after ≡ Some [])
FillTakes told after fills.Failed piece = (m : ℕ) × (m ≤ length piece) × (after ≡ Some (drop m told))

-- a source that ended gave fewer bytes than the piece has
abbrev pub FillWithin : Fill → ℕ → Type 0
FillWithin fills.Whole size = Unit {0}
FillWithin (fills.Ended n) size = n < size
FillWithin fills.Failed size = Unit {0}

-- a count of bytes, which stands still at its last value, rose by n
abbrev pub RoseBy : ℕ → ℕ → ℕ → Type 0
RoseBy before after n = (min (before + n) (2 ^ 64 - 1) ≤ after) × (after ≤ before + n)

-- it rose by at most n
abbrev pub RoseWithin : ℕ → ℕ → ℕ → Type 0
RoseWithin before after n = (min before (2 ^ 64 - 1) ≤ after) × (after ≤ before + n)

-- the bytes that a source handed out, told or not: as many as the answer says, and by a failure at most the piece's
-- length
abbrev pub FillCounts : ℕ → ℕ → Fill → ℕ → Type 0
FillCounts before after fills.Whole size = RoseBy before after size
FillCounts before after (fills.Ended n) size = RoseBy before after n
FillCounts before after fills.Failed size = RoseWithin before after size
