-- Parts appended one after another.
use Rattle.std.proofs.Common.{◌≡◌, ℕ, List, ◌++◌, append_assoc}

pub six_parts : (old a b c d e f o p q r s t : List ℕ) → o ≡ old ++ a → p ≡ o ++ b → q ≡ p ++ c → r ≡ q ++ d
    → s ≡ r ++ e → t ≡ s ++ f
    → t ≡ old ++ (a ++ (b ++ (c ++ (d ++ (e ++ f)))))
six_parts old a b c d e f o p q r s t h i j k l m = rw (m, l, k, j, i, h) (simp append_assoc)

pub five_parts : (a b c d e o p q r s : List ℕ) → o ≡ a → p ≡ o ++ b → q ≡ p ++ c → r ≡ q ++ d → s ≡ r ++ e
    → s ≡ a ++ (b ++ (c ++ (d ++ e)))
five_parts a b c d e o p q r s h i j k l = rw (l, k, j, i, h) (simp append_assoc)
