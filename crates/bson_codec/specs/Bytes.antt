-- Lists of numbers that are lists of bytes.
use Rattle.std.specs.Prelude.{ℕ, ◌<◌, List, get_or}

-- each number is below 256
abbrev pub AreBytes : List ℕ → Type 0
AreBytes bs = (i : ℕ) → get_or bs i 0 < 256
