-- Places, and what takes them.
use Rattle.std.proofs.Common.{◌≡◌, ℕ, List, [], ◌∷◌, ◌++◌, replicate, refl, sym, subst, arith}
use Rattle.std.proofs.lemmas.List.{length-replicate}
use Rattle.bson_tree.specs.Tree.{leaf}
use Rattle.bson_splice.specs.Spans.{Span, Fits, AreFits, Runs}
use Rattle.bson_splice.specs.Splices.{Put}

-- what takes places and is as long as may be
abbrev pub blank : Span → Put
blank s = record { start = s.start; end = s.end; value = λ t. leaf 0 (replicate (s.most t) 0) }

abbrev pub blanks : List Span → List Put
blanks [] = []
blanks (s ∷ ss) = blank s ∷ blanks ss

pub blank_fits : (s : Span) → Fits s (blank s)
blank_fits s = record { start = refl; end = refl; size = λ t. omega (arith, length-replicate {A = ℕ} (s.most t) 0) }

pub blanks_fit : (ss : List Span) → AreFits ss (blanks ss)
blanks_fit [] = tt
blanks_fit (s ∷ ss) = (blank_fits s, blanks_fit ss)

-- nothing takes no place
pub none_fit : (ps : List Put) → AreFits [] ps → ps ≡ []
none_fit [] f = refl
none_fit (p ∷ ps) f = absurd f

-- the next place is taken by the first of them
pub record First (ss : List Span) (ps : List Put) (at : ℕ) : Type 0 where
  pub it : Put
  pub rest : List Put
  pub are : ps ≡ it ∷ rest
  pub starts : it.start ≡ at

module _ {S : Type 0} (step : S → S → Put → Type 0) where
  -- some are put in, and then others
  pub runs_then : (a b c : S) (ps qs : List Put) → Runs step a b ps → Runs step b c qs → Runs step a c (ps ++ qs)
  runs_then a b c [] qs first second = subst (λ (s : S). Runs step s c qs) (sym first) second
  runs_then a b c (p ∷ ps) qs first second = (first.0, first.1, runs_then first.0 b c ps qs first.2 second)
