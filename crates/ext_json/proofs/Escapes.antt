-- Strings with their escapes (RFC 8259, section 7), cut into pieces.
use Rattle.std.proofs.Common.{◌≡◌, ℕ, inl, inr, ◌+◌, ◌<◌, ◌==◌, ◌||◌, Bool, true, false, not, List, [], ◌∷◌, ◌++◌}
use Rattle.std.proofs.Common.{length, get_or, take, drop, refl, sym, ◌∙◌, ap, arith, append_assoc, append-nil}
use Rattle.std.proofs.Common.{take-append-drop, nat_lt, add-one, cond}
use Rattle.std.proofs.lemmas.Bool.{false≢true}
use Rattle.std.proofs.lemmas.Bool.Decides.{eqb_tells}
use Rattle.std.proofs.Math.Seq.{take-suc}
use Rattle.ext_json.specs.Quoted.{escape, escaped}

pub escaped-append : (xs ys : List ℕ) → escaped (xs ++ ys) ≡ escaped xs ++ escaped ys
unfolding escaped
escaped-append [] ys = refl
escaped-append (x ∷ xs) ys = ap (λ (z : List ℕ). escape x ++ z) (escaped-append xs ys)
    ∙ sym (append_assoc (escape x) (escaped xs) (escaped ys))

-- the front of a string and the rest
pub escaped_cut : (n : ℕ) (xs : List ℕ) → escaped xs ≡ escaped (take n xs) ++ escaped (drop n xs)
escaped_cut n xs = ap escaped (sym (take-append-drop n xs)) ∙ escaped-append (take n xs) (drop n xs)

pub escaped_one : (x : ℕ) → escaped (x ∷ []) ≡ escape x
unfolding escaped
escaped_one x = append-nil (escape x)

pub escaped_nil : escaped [] ≡ []
unfolding escaped
escaped_nil = refl

pub escaped_end : (xs : List ℕ) → (length xs == 0) ≡ true → escaped xs ≡ []
escaped_end [] e = escaped_nil
escaped_end (x ∷ xs) e = elim (eqb_tells (length (x ∷ xs)) 0)
    [ inl t ↦ absurd (omega (arith, t.1)) | inr f ↦ absurd (false≢true (sym f.0 ∙ e)) ]

-- a string of one byte
pub alone : (xs : List ℕ) (d : ℕ) → length xs ≡ 1 → escaped xs ≡ escape (get_or xs 0 d)
alone [] d e = absurd (omega (arith, e))
alone (x ∷ []) d e = escaped_one x
alone (x ∷ (y ∷ xs)) d e = absurd (omega (arith, e))

-- ---- bytes that stand as they are

escape_choice : (a b : Bool) (x : ℕ) (p q : List ℕ) → not (a || b) ≡ true → cond a p (cond b q (x ∷ [])) ≡ x ∷ []
escape_choice true b x p q e = absurd cc
escape_choice false true x p q e = absurd cc
escape_choice false false x p q e = refl

plain_byte : (x : ℕ) → not (x == 34 || x == 92 || nat_lt x 32) ≡ true → escape x ≡ x ∷ []
plain_byte x e = escape_choice (x == 34 || x == 92) (nat_lt x 32) x _ _ e

plain_end : (front xs : List ℕ) (x : ℕ) → escaped front ≡ front → escape x ≡ x ∷ [] → xs ≡ front ++ (x ∷ [])
    → escaped xs ≡ xs
plain_end front xs x same plain is =
    ap escaped is ∙ (escaped-append front (x ∷ [])
    ∙ (ap (λ (y : List ℕ). y ++ escaped (x ∷ [])) same
    ∙ (ap (λ (y : List ℕ). front ++ y) (escaped_one x ∙ plain) ∙ sym is)))

-- one more of them
pub plain_more : (n : ℕ) (xs : List ℕ) (d : ℕ) → n < length xs → escaped (take n xs) ≡ take n xs
    → not (get_or xs n d == 34 || get_or xs n d == 92 || nat_lt (get_or xs n d) 32) ≡ true
    → escaped (take (n + 1) xs) ≡ take (n + 1) xs
plain_more n xs d within front plain =
    let more : take (n + 1) xs ≡ take n xs ++ (get_or xs n d ∷ []) = rw add-one (take-suc xs n d within) in
    plain_end (take n xs) (take (n + 1) xs) (get_or xs n d) front (plain_byte (get_or xs n d) plain) more
