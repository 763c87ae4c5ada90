use Rattle.std.proofs.Common.{◌≡◌, ◌<◌, ℕ, List, length, take}
use Rattle.fle_aead.specs.Sealed.{IsSealed}
use Rattle.fle_bench.proofs.aead.open_kept.Given as goal

abbrev pub invariant-loop-turn : goal.invariant-loop-turn
invariant-loop-turn l = 0 < l._turn → (iv p : List ℕ) → IsSealed l.fn.bytes l.aad iv p l.sealed
    → take (length p) l.out ≡ p
