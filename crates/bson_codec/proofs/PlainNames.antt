-- Names that are written out hold no 00.
use Rattle.std.proofs.Common.{◌≡◌, ℕ, zero, suc, Bool, true, false, List, [], ◌∷◌, arith}
use Rattle.std.proofs.lemmas.Bool.{false≢true}
use Rattle.bson_codec.specs.Layout.{IsName}

-- names that are written out
abbrev pub is_name : List ℕ → Bool
is_name [] = true
is_name (zero ∷ bs) = false
is_name (suc b ∷ bs) = is_name bs

pub named : (bs : List ℕ) → is_name bs ≡ true → IsName bs
named [] h = tt
named (zero ∷ bs) h = absurd (false≢true h)
named (suc b ∷ bs) h = (omega arith, named bs h)
