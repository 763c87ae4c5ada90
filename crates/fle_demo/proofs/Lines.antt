-- The line of the demo, from its parts.
use Rattle.std.proofs.Common.{◌≡◌, ℕ, List, ◌++◌, append_assoc}
use Rattle.std.specs.Prelude.{codes, decimal}
use Rattle.fle_demo.specs.Sums.{Sums, digest_text, line_of_sums}

-- a text, four pairs and two texts, appended one after another
joined : (a b c d e f g h i k l o p q r s t u : List ℕ) → o ≡ a → p ≡ o ++ (b ++ c) → q ≡ p ++ (d ++ e)
    → r ≡ q ++ (f ++ g) → s ≡ r ++ (h ++ i) → t ≡ s ++ k → u ≡ t ++ l
    → u ≡ a ++ (b ++ (c ++ (d ++ (e ++ (f ++ (g ++ (h ++ (i ++ (k ++ l)))))))))
joined a b c d e f g h i k l o p q r s t u one two three four five six seven =
    rw (seven, six, five, four, three, two, one) (simp append_assoc)

pub line_parts : (n : ℕ) (s : Sums) (o p q r t u v : List ℕ) → o ≡ codes "demo: "
    → p ≡ o ++ (decimal n ++ codes " commands, ") → q ≡ p ++ (decimal s.given ++ codes " bytes in, ")
    → r ≡ q ++ (decimal s.made ++ codes " bytes out, ") → t ≡ r ++ (decimal s.equal ++ codes " equal, ")
    → u ≡ t ++ digest_text s.sealed → v ≡ u ++ codes "\n" → v ≡ line_of_sums n s
unfolding line_of_sums
line_parts n s o p q r t u v one two three four five six seven =
    joined (codes "demo: ") (decimal n) (codes " commands, ") (decimal s.given) (codes " bytes in, ") (decimal s.made)
    (codes " bytes out, ") (decimal s.equal) (codes " equal, ") (digest_text s.sealed) (codes "\n") o p q r t u v one
    two
    three four five six seven
