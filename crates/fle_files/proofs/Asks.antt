-- Files that are asked for one after another.
use Rattle.std.proofs.Common.{List, ℕ, [], ◌∷◌}
use Rattle.std.proofs.lemmas.List.Elements.{Contains-append_left, Contains-append_right}
use Rattle.fle_outside.specs.Seen.{AsksOnly, FolderSeen}
use Rattle.fle_outside.proofs.Asked.{asks_more, asks_then}

-- the first of these files, and no other yet
pub asks_first : (name : List ℕ) (names : List (List ℕ)) {before after : FolderSeen}
    → AsksOnly (name ∷ []) before after → AsksOnly (name ∷ names) before after
asks_first name names asks =
    asks_more (name ∷ []) (name ∷ names) (λ other is. Contains-append_left (name ∷ []) names other is) asks

-- the first of them, and then those behind it
pub asks_behind : (name : List ℕ) (names : List (List ℕ)) {before between after : FolderSeen}
    → AsksOnly (name ∷ []) before between → AsksOnly names between after → AsksOnly (name ∷ names) before after
asks_behind name names first others =
    asks_then (name ∷ names) (asks_first name names first)
    (asks_more names (name ∷ names) (λ other is. Contains-append_right (name ∷ []) names other is) others)
