-- Few things
use Rattle.std.specs.Prelude.{ℕ}

-- so many are looked through, one after another; of more a set or a map is kept
abbrev pub few : ℕ
few = 8
