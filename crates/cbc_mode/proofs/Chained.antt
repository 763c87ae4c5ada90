-- The chain of blocks, one block further.
use Rattle.std.proofs.Common.{◌≡◌, ℕ, zero, suc, ◌+◌, ◌-◌, ◌*◌, ◌/◌, ◌<◌, ◌≤◌, List, [], ◌∷◌, ◌++◌, length, take, drop}
use Rattle.std.proofs.Common.{arith, ap, refl, get_or, bit_xor}
use Rattle.std.proofs.lemmas.List.{append_assoc, append-nil, drop-drop, drop_at, length-append, length-take-le}
use Rattle.std.proofs.lemmas.List.{take_all, take_at}
use Rattle.aes_block.specs.Block.{xor_bytes}
use Rattle.aes_block.specs.Cipher.{cipher, inv_cipher}
use Rattle.cbc_mode.specs.Cbc.{sealed_blocks, opened_blocks, cbc_sealed, cbc_opened}

-- the exclusive or of two lists, one byte further
pub xor_bytes-more : (a b : List ℕ) (i : ℕ) → i < length a → i < length b
    → xor_bytes (take (suc i) a) (take (suc i) b)
    ≡ xor_bytes (take i a) (take i b) ++ bit_xor (get_or a i 0) (get_or b i 0) ∷ []
xor_bytes-more (x ∷ a) (y ∷ b) zero p q = refl
xor_bytes-more (x ∷ a) (y ∷ b) (suc i) p q = ap (λ s. bit_xor x y ∷ s)
    (xor_bytes-more a b i (omega arith) (omega arith))
xor_bytes-more [] b i p q = absurd (omega arith)
xor_bytes-more (x ∷ a) [] i p q = absurd (omega arith)

-- block i of n is sealed next
pub sealed-more : (w : List ℕ) (n i : ℕ) (before p : List ℕ) → i < n
    → sealed_blocks w (n - i) before (drop (16 * i) p)
    ≡ cipher w (xor_bytes (take 16 (drop (16 * i) p)) before)
    ++ sealed_blocks w (n - (i + 1)) (cipher w (xor_bytes (take 16 (drop (16 * i) p)) before)) (drop (16 * (i + 1)) p)
unfolding sealed_blocks
sealed-more w n i before p h =
    let left : n - i ≡ suc (n - (i + 1)) = omega arith in
    let at : 16 * (i + 1) ≡ 16 * i + 16 = omega arith in
    rw (left, at, ← drop-drop 16 (16 * i) p) refl

-- block i of n is opened next
pub opened-more : (w : List ℕ) (n i : ℕ) (before c : List ℕ) → i < n
    → opened_blocks w (n - i) before (drop (16 * i) c)
    ≡ xor_bytes (inv_cipher w (take 16 (drop (16 * i) c))) before
    ++ opened_blocks w (n - (i + 1)) (take 16 (drop (16 * i) c)) (drop (16 * (i + 1)) c)
unfolding opened_blocks
opened-more w n i before c h =
    let left : n - i ≡ suc (n - (i + 1)) = omega arith in
    let at : 16 * (i + 1) ≡ 16 * i + 16 = omega arith in
    rw (left, at, ← drop-drop 16 (16 * i) c) refl

-- a block put behind i blocks
pub put-front : (i : ℕ) (out b new : List ℕ) → new ≡ take (16 * i) out ++ (b ++ drop (16 * i + 16) out)
    → 16 * (i + 1) ≤ length out → length b ≡ 16 → take (16 * (i + 1)) new ≡ take (16 * i) out ++ b
put-front i out b new put room long =
    rw (put, ← append_assoc) (take_at (take (16 * i) out ++ b) _ (16 * (i + 1))
    (omega (arith, length-append (take (16 * i) out) b, length-take-le (16 * i) out (omega arith))))

-- and what lies behind it
pub put-behind : (i m : ℕ) (out b new : List ℕ) → new ≡ take (16 * i) out ++ (b ++ drop (16 * i + 16) out)
    → 16 * (i + 1) ≤ length out → length b ≡ 16 → 16 * (i + 1) ≤ m → drop m new ≡ drop m out
put-behind i m out b new put room long far =
    let k : ℕ = m - (16 * i + 16) in
    let at : m ≡ (16 * i + 16) + k = omega arith in
    let front : length (take (16 * i) out ++ b) ≡ 16 * i + 16 =
    omega (arith, length-append (take (16 * i) out) b, length-take-le (16 * i) out (omega arith)) in
    rw (
      at,
      put,
      ← append_assoc,
      ← drop-drop k (16 * i + 16),
      drop_at (take (16 * i) out ++ b) _ (16 * i + 16) front,
      drop-drop,
    ) refl

-- what the loop of sealing keeps, one block further
pub seal_step : (w : List ℕ) (n i : ℕ) (before p out c new whole : List ℕ) → i < n
    → c ≡ cipher w (xor_bytes (take 16 (drop (16 * i) p)) before)
    → new ≡ take (16 * i) out ++ (c ++ drop (16 * i + 16) out) → 16 * (i + 1) ≤ length out → length c ≡ 16
    → take (16 * i) out ++ sealed_blocks w (n - i) before (drop (16 * i) p) ≡ whole
    → take (16 * (i + 1)) new ++ sealed_blocks w (n - (i + 1)) c (drop (16 * (i + 1)) p) ≡ whole
seal_step w n i before p out c new whole h is put room long kept =
    rw (put-front i out c new put room long, append_assoc, is) (rw (sealed-more w n i before p h) at kept)

-- what the loop of opening keeps, one block further
pub open_step : (w : List ℕ) (n i : ℕ) (before c out b o new whole : List ℕ) → i < n
    → b ≡ take 16 (drop (16 * i) c) → o ≡ xor_bytes (inv_cipher w b) before
    → new ≡ take (16 * i) out ++ (o ++ drop (16 * i + 16) out) → 16 * (i + 1) ≤ length out → length o ≡ 16
    → take (16 * i) out ++ opened_blocks w (n - i) before (drop (16 * i) c) ≡ whole
    → take (16 * (i + 1)) new ++ opened_blocks w (n - (i + 1)) b (drop (16 * (i + 1)) c) ≡ whole
open_step w n i before c out b o new whole h block is put room long kept =
    rw (put-front i out o new put room long, append_assoc, is, block) (rw (opened-more w n i before c h) at kept)

pub seal_begin : (w iv p : List ℕ) (n : ℕ) → n ≡ length p / 16 → sealed_blocks w n iv p ≡ cbc_sealed w iv p
unfolding cbc_sealed
seal_begin w iv p n is = rw is refl

pub seal_end : (w : List ℕ) (n i : ℕ) (before p out whole : List ℕ) → n ≤ i → length out ≤ 16 * i
    → take (16 * i) out ++ sealed_blocks w (n - i) before (drop (16 * i) p) ≡ whole → out ≡ whole
unfolding sealed_blocks
seal_end w n i before p out whole over all kept =
    let none : n - i ≡ 0 = omega arith in
    rw (none, append-nil, take_all (16 * i) out all) at kept

pub open_begin : (w iv c : List ℕ) (n : ℕ) → n ≡ length c / 16 → opened_blocks w n iv c ≡ cbc_opened w iv c
unfolding cbc_opened
open_begin w iv c n is = rw is refl

pub open_end : (w : List ℕ) (n i m : ℕ) (before c out whole : List ℕ) → n ≤ i → 16 * i ≡ m
    → take (16 * i) out ++ opened_blocks w (n - i) before (drop (16 * i) c) ≡ whole → take m out ≡ whole
unfolding opened_blocks
open_end w n i m before c out whole over all kept =
    let none : n - i ≡ 0 = omega arith in
    rw (none, append-nil, all) at kept
