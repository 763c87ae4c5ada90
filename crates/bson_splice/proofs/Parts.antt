-- Bytes put over others in a buffer.
use Rattle.std.proofs.Common.{◌≡◌, ◌∙◌, ℕ, ◌+◌, ◌-◌, ◌≤◌, List, ◌++◌, length, take, drop, sym, ap, append_assoc, arith}
use Rattle.std.proofs.Common.{length-append, length-take-le, subst}
use Rattle.std.proofs.lemmas.List.{take_at, drop_at, drop-drop, take-append-drop}

-- four bytes of the first n are put over
pub patched : (a n : ℕ) (xs ys front four elements : List ℕ) → length front ≡ a → length four ≡ 4 → length ys ≡ 4
    → take n xs ≡ (front ++ four) ++ elements → n ≤ length xs
    → take n (take a xs ++ (ys ++ drop 4 (drop a xs))) ≡ front ++ (ys ++ elements)
patched a n xs ys front four elements here four4 ys4 old inside =
    let rest : List ℕ = drop n xs in
    let whole : xs ≡ front ++ (four ++ (elements ++ rest)) =
    sym (take-append-drop n xs) ∙ ap (λ (x : List ℕ). x ++ rest) old ∙ append_assoc (front ++ four) elements rest
    ∙ append_assoc front four (elements ++ rest) in
    let before : take a xs ≡ front = ap (take a) whole ∙ take_at front (four ++ (elements ++ rest)) a here in
    let behind : drop 4 (drop a xs) ≡ elements ++ rest =
    ap (drop 4) (ap (drop a) whole ∙ drop_at front (four ++ (elements ++ rest)) a here)
    ∙ drop_at four (elements ++ rest) 4 four4 in
    let joined : front ++ (ys ++ (elements ++ rest)) ≡ (front ++ (ys ++ elements)) ++ rest =
    ap (λ (x : List ℕ). front ++ x) (sym (append_assoc ys elements rest))
    ∙ sym (append_assoc front (ys ++ elements) rest) in
    let size : length (front ++ (ys ++ elements)) ≡ n =
    omega (
      arith,
      length-append front (ys ++ elements),
      length-append ys elements,
      ap length old,
      length-append (front ++ four) elements,
      length-append front four,
      length-take-le n xs inside,
      here,
      four4,
      ys4,
    )
    in
    rw (before, behind) (ap (take n) joined ∙ take_at (front ++ (ys ++ elements)) rest n size)

-- what is the same from an offset on is the same from a later one on
pub later : (m n : ℕ) (xs ys : List ℕ) → m ≤ n → drop m xs ≡ drop m ys → drop n xs ≡ drop n ys
later m n xs ys h same =
    let k : m + (n - m) ≡ n = omega (arith, h) in
    subst (λ (i : ℕ). drop i xs ≡ drop i ys) k
    (sym (drop-drop (n - m) m xs) ∙ ap (drop (n - m)) same ∙ drop-drop (n - m) m ys)

-- bytes that are put over others leave those behind them
pub behind_put : (a n k : ℕ) (xs ys : List ℕ) → a ≤ length xs → length ys ≡ n → k ≡ n
    → drop (a + n) (take a xs ++ (ys ++ drop k (drop a xs))) ≡ drop (a + n) xs
behind_put a n k xs ys inside size same =
    sym (drop-drop n a (take a xs ++ (ys ++ drop k (drop a xs))))
    ∙ ap (drop n) (drop_at (take a xs) (ys ++ drop k (drop a xs)) a (length-take-le a xs inside))
    ∙ drop_at ys (drop k (drop a xs)) n size
    ∙ ap (λ (i : ℕ). drop i (drop a xs)) same
    ∙ drop-drop n a xs
