-- Documents as bytes: a length that is written last.
use Rattle.std.proofs.Common.{◌≡◌, ℕ, zero, suc, ◌+◌, ◌≤◌, List, [], ◌∷◌, ◌++◌, length, take, drop, refl, sym, ap, ◌∙◌}
use Rattle.std.proofs.Common.{append_assoc, arith}
use Rattle.std.specs.Int.{to_le_bytes, w32}
use Rattle.std.proofs.lemmas.List.{take_at, drop_at, drop-drop}
use Rattle.bson_tree.specs.Tree.{Items, no_items, item, after, count}
use Rattle.bson_tree.specs.Spelling.{framed}

-- a document's elements behind four bytes, and 00: once its length is put in, it is framed
pub framed_at : (front elements items : List ℕ) (at size : ℕ)
    → length front ≡ at → items ≡ front ++ (0 ∷ (0 ∷ (0 ∷ (0 ∷ (elements ++ 0 ∷ []))))) → size ≡ length elements + 5
    → take at items ++ (to_le_bytes w32 size ++ drop (at + 4) items) ≡ front ++ framed elements
framed_at front elements items at size here is sized =
    let body : List ℕ = 0 ∷ (0 ∷ (0 ∷ (0 ∷ (elements ++ 0 ∷ [])))) in
    let before : take at items ≡ front = ap (take at) is ∙ take_at front body at here in
    let inside : drop (at + 4) items ≡ elements ++ 0 ∷ [] =
    sym (drop-drop 4 at items) ∙ ap (drop 4) (ap (drop at) is ∙ drop_at front body at here) in
    rw (before, inside, sized) refl

-- where no bytes are behind a document's elements but 00
pub with_end : (old items front elements : List ℕ) → items ≡ old ++ 0 ∷ []
    → old ≡ front ++ (0 ∷ (0 ∷ (0 ∷ (0 ∷ elements))))
    → items ≡ front ++ (0 ∷ (0 ∷ (0 ∷ (0 ∷ (elements ++ 0 ∷ [])))))
with_end old items front elements last is = rw (last, is) (append_assoc front (0 ∷ (0 ∷ (0 ∷ (0 ∷ elements)))) (0 ∷ []))

-- behind all children there is none
pub after_all : (i : ℕ) (is : Items) → count is ≤ i → after i is ≡ no_items
after_all zero no_items h = refl
after_all (suc i) no_items h = refl
after_all zero (item name t is) h = absurd (omega arith)
after_all (suc i) (item name t is) h = after_all i is (omega arith)
