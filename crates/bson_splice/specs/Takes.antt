-- Values of a document that are replaced: in reading order, each from its first to its last byte, none inside another
use Rattle.std.specs.Prelude.{◌≡◌, ◌≤◌, ℕ, ◌+◌, List, [], ◌∷◌, length}
use Rattle.bson_tree.specs.Tree.{Tree, leaf, node, Items, no_items, item}
use Rattle.bson_tree.specs.Spelling.{value_bytes}
use Rattle.bson_splice.specs.Splices.{Put}

mutual
  -- a value that begins at `at` takes from the front of a list: its own, or those inside it; the others are left
  pub data TakesIn : ℕ → Tree → List Put → List Put → Type 0 where
    own : (at : ℕ) (t : Tree) (p : Put) (ps : List Put) → p.start ≡ at → p.end ≡ at + length (value_bytes t)
        → TakesIn at t (p ∷ ps) ps
    raw : (at tag : ℕ) (bytes : List ℕ) (ps : List Put) → TakesIn at (leaf tag bytes) ps ps
    inside : (at tag : ℕ) (is : Items) (ps rest : List Put) → Takes (at + 4) is ps rest
        → TakesIn at (node tag is) ps rest

  -- and so do elements that begin at `at`
  pub data Takes : ℕ → Items → List Put → List Put → Type 0 where
    done : (at : ℕ) (ps : List Put) → Takes at no_items ps ps
    next : (at : ℕ) (name : List ℕ) (t : Tree) (is : Items) (ps mid rest : List Put)
        → TakesIn (at + (2 + length name)) t ps mid
        → Takes (at + (2 + length name) + length (value_bytes t)) is mid rest
        → Takes at (item name t is) ps rest

-- the places that are taken have m bytes, and what takes them has n
abbrev pub Trades : List Put → ℕ → ℕ → Type 0
Trades [] m n = (m ≡ 0) × (n ≡ 0)
Trades (p ∷ ps) m n =
    (a b k l : ℕ)
    × (m ≡ a + k)
    × (n ≡ b + l)
    × ((t : Tree) → p.end ≡ p.start + length (value_bytes t)
    → length (value_bytes (p.value t)) + a ≡ length (value_bytes t) + b)
    × Trades ps k l

-- the places that are taken have m bytes, and what takes them has at most n
abbrev pub Caps : List Put → ℕ → ℕ → Type 0
Caps [] m n = (m ≡ 0) × (n ≡ 0)
Caps (p ∷ ps) m n =
    (a b k l : ℕ)
    × (m ≡ a + k)
    × (n ≡ b + l)
    × ((t : Tree) → p.end ≡ p.start + length (value_bytes t)
    → length (value_bytes (p.value t)) + a ≤ length (value_bytes t) + b)
    × Caps ps k l
