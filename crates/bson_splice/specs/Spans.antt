-- Values of a document whose places are to be taken, before it is known by what
use Rattle.std.specs.Prelude.{◌≡◌, ◌≤◌, ℕ, List, [], ◌∷◌, length}
use Rattle.bson_tree.specs.Tree.{Tree}
use Rattle.bson_tree.specs.Spelling.{value_bytes}
use Rattle.bson_splice.specs.Splices.{Put}

-- where a value begins, where it ends, and how many bytes take its place at most
pub record Span : Type 0 where
  pub start : ℕ
  pub end : ℕ
  pub most : Tree → ℕ

-- this takes that place
pub record Fits (s : Span) (p : Put) : Type 0 where
  pub start : p.start ≡ s.start
  pub end : p.end ≡ s.end
  pub size : (t : Tree) → length (value_bytes (p.value t)) ≤ s.most t

-- these take those places, one each
abbrev pub AreFits : List Span → List Put → Type 0
AreFits [] [] = Unit {0}
AreFits [] (p ∷ ps) = ⊥
AreFits (s ∷ ss) [] = ⊥
AreFits (s ∷ ss) (p ∷ ps) = Fits s p × AreFits ss ps

-- the first of them begins at this offset
abbrev pub IsNextAt : List Span → ℕ → Type 0
IsNextAt [] at = ⊥
IsNextAt (s ∷ ss) at = s.start ≡ at

-- how many bytes take the first place at most
abbrev pub most_next : List Span → Tree → ℕ
most_next [] t = 0
most_next (s ∷ ss) t = s.most t

-- from one state to another these were put in, each in one step
abbrev pub Runs : {S : Type 0} → (S → S → Put → Type 0) → S → S → List Put → Type 0
Runs step before after [] = before ≡ after
Runs {S} step before after (p ∷ ps) = (mid : S) × step before mid p × Runs step mid after ps
