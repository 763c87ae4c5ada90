use Rattle.std.proofs.Common.{◌≡◌, ◌-◌, List, ℕ}
use Rattle.aes_block.specs.Block.{IsBlock}
use Rattle.aes_block.specs.Cipher.{inv_rounds}
use Rattle.aes_block.specs.Opening.{AreOpeningKeys, both_at}
use Rattle.aes_block.proofs.opening_pair.opened_two.Given as goal

abbrev pub invariant-loop-r : goal.invariant-loop-r
invariant-loop-r l = record {
  first : IsBlock l.fn.a;
  second : IsBlock l.fn.b;
  states : (w : List ℕ) → AreOpeningKeys l.fn.keys.keys w
      → l.x ≡ both_at (l.r - 1) (inv_rounds w l.fn.a (l.r - 1)) (inv_rounds w l.fn.b (l.r - 1));
}
