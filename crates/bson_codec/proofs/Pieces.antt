-- Bytes and the pieces at their front.
use Rattle.std.proofs.Common.{◌≡◌, ℕ, suc, ◌+◌, ◌<◌, ◌≤◌, List, [], ◌∷◌, ◌++◌, length, get_or, take, drop, refl, sym}
use Rattle.std.proofs.Common.{ap, subst, ◌∙◌, append_assoc, arith, inl, inr, add-one}
use Rattle.std.proofs.lemmas.Bool.{cases_lt}
use Rattle.std.proofs.lemmas.List.{take_at, drop_at, drop-drop, take-append-drop, length-append, length-take}
use Rattle.std.proofs.lemmas.List.{length-take-le, append-nil, get_or-drop, get_or-take, get_or_past}
use Rattle.std.proofs.Math.Seq.{drop-cons}
use Rattle.bson_codec.specs.Bytes.{AreBytes}

pub AreBytes-drop : (n : ℕ) (bs : List ℕ) → AreBytes bs → AreBytes (drop n bs)
AreBytes-drop n bs h i = rw get_or-drop (h (n + i))

pub AreBytes-take : (n : ℕ) (bs : List ℕ) → AreBytes bs → AreBytes (take n bs)
AreBytes-take n bs h i =
    elim (cases_lt i n) [
      | inl lt ↦ rw (get_or-take n bs i 0 lt) (h i)
      | inr le ↦ rw (get_or_past (take n bs) i 0 (omega (arith, length-take n bs))) (omega arith)
    ]

pub AreBytes-rest : (b : ℕ) (bs : List ℕ) → AreBytes (b ∷ bs) → AreBytes bs
AreBytes-rest b bs h i = h (suc i)

-- n bytes at the front are these
pub record Begins (bs text : List ℕ) (n : ℕ) : Type 0 where
  pub parts : bs ≡ text ++ drop n bs
  pub size : length text ≡ n

-- any bytes at the front
pub begins_take : (n : ℕ) (bs : List ℕ) → n ≤ length bs → Begins bs (take n bs) n
begins_take n bs h = record { parts = sym (take-append-drop n bs); size = length-take-le n bs h }

-- one piece, and the next one behind it
pub begins_then : (bs a b : List ℕ) (m n : ℕ) → Begins bs a m → Begins (drop m bs) b n → Begins bs (a ++ b) (m + n)
begins_then bs a b m n p q =
    record {
      parts = p.parts ∙ ap (λ (x : List ℕ). a ++ x) (q.parts ∙ ap (λ (x : List ℕ). b ++ x) (drop-drop n m bs))
          ∙ sym (append_assoc a b (drop (m + n) bs));
      size = omega (arith, length-append a b, p.size, q.size);
    }

-- a piece is what `take` takes
pub begins_is : (bs text : List ℕ) (n : ℕ) → Begins bs text n → take n bs ≡ text
begins_is bs text n p = ap (take n) p.parts ∙ take_at text (drop n bs) n p.size

pub begins_fits : (bs text : List ℕ) (n : ℕ) → Begins bs text n → n ≤ length bs
begins_fits bs text n p = omega (arith, ap length p.parts, length-append text (drop n bs), p.size)

-- a piece and what follows it
pub begins_of : (text rest : List ℕ) → Begins (text ++ rest) text (length text)
begins_of text rest = record {
  parts = ap (λ (x : List ℕ). text ++ x) (sym (drop_at text rest (length text) refl));
  size = refl;
}

-- all of the bytes
pub begins_all : (bs : List ℕ) → Begins bs bs (length bs)
begins_all bs = subst (λ (x : List ℕ). Begins x bs (length bs)) (append-nil bs) (begins_of bs [])

-- the first of two pieces, and the second behind it
pub begins_first : (bs a b : List ℕ) (n : ℕ) → Begins bs (a ++ b) n → Begins bs a (length a)
begins_first bs a b n p =
    let whole : bs ≡ a ++ (b ++ drop n bs) = p.parts ∙ append_assoc a b (drop n bs) in
    record {
      parts = whole ∙ ap (λ (x : List ℕ). a ++ x)
          (sym (ap (drop (length a)) whole ∙ drop_at a (b ++ drop n bs) (length a) refl));
      size = refl;
    }

pub begins_second : (bs a b : List ℕ) (n : ℕ) → Begins bs (a ++ b) n → Begins (drop (length a) bs) b (length b)
begins_second bs a b n p =
    let whole : bs ≡ a ++ (b ++ drop n bs) = p.parts ∙ append_assoc a b (drop n bs) in
    let behind : drop (length a) bs ≡ b ++ drop n bs =
    ap (drop (length a)) whole ∙ drop_at a (b ++ drop n bs) (length a) refl in
    subst (λ (x : List ℕ). Begins x b (length b)) (sym behind) (begins_of b (drop n bs))

-- the byte at a place below the end
pub begins_byte : (bs : List ℕ) (i : ℕ) → i < length bs → Begins (drop i bs) (get_or bs i 0 ∷ []) 1
begins_byte bs i h =
    record {
      parts = drop-cons bs i 0 h ∙ ap (λ (x : List ℕ). get_or bs i 0 ∷ x)
          (rw add-one refl ∙ sym (drop-drop 1 i bs));
      size = refl;
    }
