-- The padded message, block by block.
use Rattle.std.proofs.Common.{◌≡◌, ℕ, ◌+◌, ◌-◌, ◌*◌, ◌/◌, ◌%◌, ◌<◌, ◌≤◌, List, ◌++◌, length, take, drop, replicate}
use Rattle.std.proofs.Common.{arith, ap, sym, ◌∙◌, refl, get_or}
use Rattle.std.proofs.lemmas.List.{append_assoc, get_or-append_right, get_or-drop, get_or-replicate, length-append}
use Rattle.std.proofs.lemmas.List.{length-drop, length-replicate, length-take-le, drop-append-le, drop-replicate}
use Rattle.std.proofs.lemmas.List.{take-append-drop, take-append-le, take_all, take_at}
use Rattle.std.proofs.lemmas.Grind.{same_number_lists}
use Rattle.std.proofs.Math.Seq.{take-add}
use Rattle.cbc_mode.specs.Padding.{pad}

pub length-pad : (p : List ℕ) → length (pad p) ≡ 16 * (length p / 16 + 1)
unfolding pad
length-pad p =
    omega (
      arith,
      length-append p (replicate (16 - length p % 16) (16 - length p % 16)),
      length-replicate (16 - length p % 16) (16 - length p % 16),
    )

-- whole blocks at the front leave the padding as it is
pub drop-pad : (p : List ℕ) (at : ℕ) → at ≤ length p → at % 16 ≡ 0 → drop at (pad p) ≡ pad (drop at p)
unfolding pad
drop-pad p at inside whole =
    let same : 16 - length (drop at p) % 16 ≡ 16 - length p % 16 = omega (arith, length-drop at p) in
    rw same (drop-append-le at p _ inside)

-- fewer than 16 bytes, and the same number up to 16 behind them
pub short-pad : (rest new : List ℕ) (n : ℕ) → length rest < 16 → n ≡ 16 - length rest → new ≡ rest
    → new ++ drop (length rest) (replicate 16 n) ≡ pad rest
unfolding pad
short-pad rest new n short is same =
    let e : 16 - length rest % 16 ≡ n = omega arith in
    rw (e, same, drop-replicate (length rest) 16 n, ← is) refl

pub take-pad_short : (p : List ℕ) → length p < 16 → take 16 (pad p) ≡ pad p
take-pad_short p short = take_all 16 (pad p) (omega (arith, length-pad p))

pub take-pad_long : (p : List ℕ) → 16 ≤ length p → take 16 (pad p) ≡ take 16 p
unfolding pad
take-pad_long p long = take-append-le 16 p _ long

-- the last byte of a padded block is the number of its bytes of padding
pub last-pad : (p : List ℕ) → length p < 16 → get_or (pad p) 15 0 ≡ 16 - length p
unfolding pad
last-pad p short =
    let n : 16 - length p % 16 ≡ 16 - length p = omega arith in
    rw n (get_or-append_right p (replicate (16 - length p) (16 - length p)) (length p) 15 0 refl (omega arith)
    ∙ get_or-replicate (16 - length p) (15 - length p) (16 - length p) 0 (omega arith))

-- a block that ends in as many bytes as its last byte says, each of them that number, is padded
pub padded_from : (b : List ℕ) (v : ℕ) → length b ≡ 16 → 1 ≤ v → v ≤ 16
    → ((k : ℕ) → 16 - v ≤ k → k < 16 → get_or b k 0 ≡ v) → b ≡ pad (take (16 - v) b)
unfolding pad
padded_from b v long low high same =
    let front : length (take (16 - v) b) ≡ 16 - v = length-take-le (16 - v) b (omega arith) in
    let n : 16 - length (take (16 - v) b) % 16 ≡ v = omega arith in
    let count : length (drop (16 - v) b) ≡ v = omega (arith, length-drop (16 - v) b) in
    let back : drop (16 - v) b ≡ replicate v v =
    same_number_lists (drop (16 - v) b) (replicate v v) (omega (arith, count, length-replicate v v))
    (λ k below. get_or-drop (16 - v) b k 0 ∙ same (16 - v + k) (omega arith) (omega (arith, count))
    ∙ sym (get_or-replicate v k v 0 (omega (arith, count)))) in
    rw (n, ← back) (sym (take-append-drop (16 - v) b))

-- and a padded block ends so
pub padded_ends : (b p : List ℕ) → length p < 16 → b ≡ pad p
    → (k : ℕ) → 16 - get_or b 15 0 ≤ k → k < 16 → get_or b k 0 ≡ get_or b 15 0
unfolding pad
padded_ends b p short is k low high =
    let v : get_or b 15 0 ≡ 16 - length p = ap (λ s. get_or s 15 0) is ∙ last-pad p short in
    let n : 16 - length p % 16 ≡ 16 - length p = omega arith in
    let here : get_or (pad p) k 0 ≡ 16 - length p =
    rw n (get_or-append_right p (replicate (16 - length p) (16 - length p)) (length p) k 0 refl (omega (arith, v))
    ∙ get_or-replicate (16 - length p) (k - length p) (16 - length p) 0 (omega arith)) in
    ap (λ s. get_or s k 0) is ∙ here ∙ sym v

-- whole blocks in front leave the padding as it is
pub append-pad : (a p : List ℕ) → length a % 16 ≡ 0 → a ++ pad p ≡ pad (a ++ p)
unfolding pad
append-pad a p whole =
    let same : 16 - length (a ++ p) % 16 ≡ 16 - length p % 16 = omega (arith, length-append a p) in
    rw same (sym (append_assoc a p _))

-- a list of whole blocks is padded where its last block is
pub padded_from_last : (o : List ℕ) (n : ℕ) → 0 < length o → length o % 16 ≡ 0 → n < 16
    → take 16 (drop (length o - 16) o) ≡ pad (take n (take 16 (drop (length o - 16) o)))
    → o ≡ pad (take (length o - 16 + n) o)
padded_from_last o n some whole short is =
    let at : ℕ = length o - 16 in
    let last : take 16 (drop at o) ≡ drop at o = take_all 16 (drop at o) (omega (arith, length-drop at o)) in
    let front : length (take at o) % 16 ≡ 0 = omega (arith, length-take-le at o (omega arith)) in
    let is' : drop at o ≡ pad (take n (drop at o)) = rw last at is in
    sym (take-append-drop at o) ∙ ap (λ s. take at o ++ s) is' ∙ append-pad (take at o) _ front
    ∙ ap pad (sym (take-add at n o))

-- and its last block is padded where it is
pub last_from_padded : (o p : List ℕ) → o ≡ pad p
    → (length (drop (length o - 16) p) < 16) × (take 16 (drop (length o - 16) o) ≡ pad (drop (length o - 16) p))
last_from_padded o p is =
    let long : length o ≡ 16 * (length p / 16 + 1) = ap length is ∙ length-pad p in
    let at : length o - 16 ≡ 16 * (length p / 16) = omega arith in
    let short : length (drop (16 * (length p / 16)) p) < 16 = omega (arith, length-drop (16 * (length p / 16)) p) in
    let back : drop (16 * (length p / 16)) o ≡ pad (drop (16 * (length p / 16)) p) =
    ap (drop (16 * (length p / 16))) is ∙ drop-pad p (16 * (length p / 16)) (omega arith) (omega arith) in
    rw at (short, rw back (take-pad_short _ short))

-- the message is determined by its padded form
pub pad-injective : (p q : List ℕ) → pad p ≡ pad q → p ≡ q
unfolding pad
pad-injective p q same =
    let pl : length (pad p) ≡ 16 * (length p / 16 + 1) = length-pad p in
    let ql : length (pad q) ≡ 16 * (length q / 16 + 1) = length-pad q in
    let count : length (pad p) ≡ length (pad q) = ap length same in
    let at : ℕ = 16 * (length p / 16) in
    let pd : drop at (pad p) ≡ pad (drop at p) = drop-pad p at (omega arith) (omega arith) in
    let qd : drop at (pad q) ≡ pad (drop at q) = drop-pad q at (omega arith) (omega arith) in
    let plong : length (drop at p) ≡ length p - at = length-drop at p in
    let qlong : length (drop at q) ≡ length q - at = length-drop at q in
    let last : 16 - length (drop at p) ≡ 16 - length (drop at q) =
    sym (last-pad (drop at p) (omega arith)) ∙ ap (λ s. get_or s 15 0) (sym pd ∙ ap (drop at) same ∙ qd)
    ∙ last-pad (drop at q) (omega arith) in
    let long : length p ≡ length q = omega arith in
    sym (take_at p _ (length p) refl) ∙ ap (take (length p)) same ∙ take_at q _ (length p) (sym long)
