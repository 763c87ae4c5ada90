-- One turn more.
use Rattle.std.proofs.Common.{◌≡◌, ℕ, ◌+◌, ◌-◌, List, length, refl, add-one, arith}
use Rattle.fle_bench.specs.Turns.{last, repeated}

pub repeated-next : (turn : List ℕ → List ℕ) (x out : List ℕ) (n : ℕ) → out ≡ turn (repeated turn x n)
    → out ≡ repeated turn x (n + 1)
unfolding repeated
repeated-next turn x out n e = rw add-one e

-- what feeds the first turn is its own end
pub first-fed : (turn : List ℕ → List ℕ) (x : List ℕ) (k : ℕ) → length x ≡ k → x ≡ last k (repeated turn x 0)
unfolding repeated
first-fed turn x k long =
    let none : length x - k ≡ 0 = omega (arith, long) in
    rw none refl
