-- Words, their bytes, and lists whose elements fit.
use Rattle.std.proofs.Common.{◌≡◌, ℕ, zero, suc, ◌<◌, ◌^◌, List, [], ◌∷◌, ◌++◌, length, get_or, arith, refl}
use Rattle.std.specs.Int.{w32, from_be_bytes}
use Rattle.std.proofs.lemmas.Nat.{be_bytes_4}
use Rattle.std.proofs.lemmas.List.Elements.{All-from_get_or}
use Rattle.aes_block.specs.Block.{IsBlock, IsSchedule, word_bytes}

pub schedule_from : (w : List ℕ) → length w ≡ 60 → ((k : ℕ) → get_or w k 0 < 2 ^ 32) → IsSchedule w
schedule_from w l fit = record { len = l; words_fit = All-from_get_or (λ x. x < 2 ^ 32) w 0 (λ i _. fit i) }

pub block_from : (s : List ℕ) → length s ≡ 16 → ((k : ℕ) → get_or s k 0 < 256) → IsBlock s
block_from s l fit = record { len = l; bytes = All-from_get_or (λ x. x < 256) s 0 (λ i _. fit i) }

-- a word that was made of four bytes has these bytes
pub word_bytes-made : (a b c d : ℕ) → a < 256 → b < 256 → c < 256 → d < 256 → (w : ℕ)
    → w ≡ from_be_bytes w32 (a ∷ b ∷ c ∷ d ∷ []) → word_bytes w ≡ a ∷ b ∷ c ∷ d ∷ []
word_bytes-made a b c d la lb lc ld w e = be_bytes_4 (a ∷ b ∷ c ∷ d ∷ []) w refl fits e where
  fits : (i : ℕ) → get_or (a ∷ b ∷ c ∷ d ∷ []) i 0 < 256
  fits zero = la
  fits (suc zero) = lb
  fits (suc (suc zero)) = lc
  fits (suc (suc (suc zero))) = ld
  fits (suc (suc (suc (suc i)))) = omega arith

pub joined : {a b c d p q r s : List ℕ} → a ≡ p → b ≡ q → c ≡ r → d ≡ s → a ++ (b ++ (c ++ d)) ≡ p ++ (q ++ (r ++ s))
joined e f g h = cc

-- four words that were made of 16 bytes have these bytes
pub words_bytes : (s : List ℕ) → ((k : ℕ) → get_or s k 0 < 256) → (x y z t : ℕ)
    → x ≡ from_be_bytes w32 (get_or s 0 0 ∷ get_or s 1 0 ∷ get_or s 2 0 ∷ get_or s 3 0 ∷ [])
    → y ≡ from_be_bytes w32 (get_or s 4 0 ∷ get_or s 5 0 ∷ get_or s 6 0 ∷ get_or s 7 0 ∷ [])
    → z ≡ from_be_bytes w32 (get_or s 8 0 ∷ get_or s 9 0 ∷ get_or s 10 0 ∷ get_or s 11 0 ∷ [])
    → t ≡ from_be_bytes w32 (get_or s 12 0 ∷ get_or s 13 0 ∷ get_or s 14 0 ∷ get_or s 15 0 ∷ [])
    → word_bytes x ++ (word_bytes y ++ (word_bytes z ++ word_bytes t))
    ≡ get_or s 0 0 ∷ get_or s 1 0 ∷ get_or s 2 0 ∷ get_or s 3 0 ∷ get_or s 4 0 ∷ get_or s 5 0 ∷ get_or s 6 0
    ∷ get_or s 7 0 ∷ get_or s 8 0 ∷ get_or s 9 0 ∷ get_or s 10 0 ∷ get_or s 11 0 ∷ get_or s 12 0 ∷ get_or s 13 0
    ∷ get_or s 14 0 ∷ get_or s 15 0 ∷ []
words_bytes s fit x y z t ex ey ez et = joined
    (word_bytes-made _ _ _ _ (fit 0) (fit 1) (fit 2) (fit 3) x ex)
    (word_bytes-made _ _ _ _ (fit 4) (fit 5) (fit 6) (fit 7) y ey)
    (word_bytes-made _ _ _ _ (fit 8) (fit 9) (fit 10) (fit 11) z ez)
    (word_bytes-made _ _ _ _ (fit 12) (fit 13) (fit 14) (fit 15) t et)
