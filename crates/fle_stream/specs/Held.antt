-- A line that is held before it is written.
use Rattle.std.specs.Prelude.{ℕ, List}

-- the bytes that are held, and how many pieces found no room
pub record Held : Type 0 where
  pub bytes : List ℕ
  pub faults : ℕ
