-- When a function of a schedule and a block answers what FIPS 197 defines.
use Rattle.std.specs.Prelude.{◌≡◌, ℕ, List}
use Rattle.std.specs.Fn.{Shared}
use Rattle.aes_block.specs.Block.{IsBlock, IsSchedule}
use denote.Ref.{Bor}

-- for every key schedule and every block, f may be called and answers this function of the two
pub record Answers {F : Type 0} (g : Shared F (Bor (List ℕ) × (List ℕ × Unit {0})) (List ℕ))
    (answer : List ℕ → List ℕ → List ℕ) (f : F) : Type 0 where
  pub taken : (s : Bor (List ℕ)) (b : List ℕ) → IsSchedule s.now → IsBlock b → g.pre f (s, (b, tt))
  pub given : (s : Bor (List ℕ)) (b r : List ℕ) → IsSchedule s.now → IsBlock b
      → g.post f (s, (b, tt)) r → r ≡ answer s.now b

-- for every key schedule and every two blocks, f may be called and answers this function of the
-- schedule and each block
pub record AnswersPair {F : Type 0} (g : Shared F (Bor (List ℕ) × (List ℕ × (List ℕ × Unit {0}))) (List ℕ × List ℕ))
    (answer : List ℕ → List ℕ → List ℕ) (f : F) : Type 0 where
  pub taken : (s : Bor (List ℕ)) (a b : List ℕ) → IsSchedule s.now → IsBlock a → IsBlock b → g.pre f (s, (a, (b, tt)))
  pub given : (s : Bor (List ℕ)) (a b : List ℕ) (r : List ℕ × List ℕ) → IsSchedule s.now → IsBlock a → IsBlock b
      → g.post f (s, (a, (b, tt))) r → (r.0 ≡ answer s.now a) × (r.1 ≡ answer s.now b)

-- the same, where it is told by itself when f may be called and what it then answers
pub record AnswersBy (pre : Bor (List ℕ) → List ℕ → Type 0) (post : Bor (List ℕ) → List ℕ → List ℕ → Type 0)
    (answer : List ℕ → List ℕ → List ℕ) : Type 0 where
  pub taken : (s : Bor (List ℕ)) (b : List ℕ) → IsSchedule s.now → IsBlock b → pre s b
  pub given : (s : Bor (List ℕ)) (b r : List ℕ) → IsSchedule s.now → IsBlock b → post s b r → r ≡ answer s.now b
