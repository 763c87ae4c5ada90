-- The first 00 of a list of bytes (BSON 1.1, "cstring").
use Rattle.std.proofs.Common.{◌≡◌, ℕ, ◌+◌, ◌<◌, ◌≤◌, ◌==◌, false, inl, inr, List, [], ◌∷◌, ◌++◌, length, get_or, take}
use Rattle.std.proofs.Common.{drop, drop-cons, add-one, refl, sym, ap, ◌∙◌, arith, append_assoc, append-nil}
use Rattle.std.proofs.Math.Seq.{take-suc}
use Rattle.std.proofs.lemmas.List.{nil_from_length, length-drop}
use Rattle.std.proofs.lemmas.Bool.Decides.{eqb_tells}
use Rattle.ext_json.specs.Parts.{before_zero, after_zero}

pub record ZeroStep (bs : List ℕ) (n : ℕ) : Type 0 where
  pub before : before_zero bs ≡ take n bs ++ before_zero (drop n bs)
  pub after : after_zero bs ≡ after_zero (drop n bs)

not_zero : (x : ℕ) → (x ≡ 0 → ⊥) → (x == 0) ≡ false
not_zero x some = elim (eqb_tells x 0) [ inl t ↦ absurd (some t.1) | inr f ↦ f.0 ]

pub before_more : (x : ℕ) (bs : List ℕ) → (x ≡ 0 → ⊥) → before_zero (x ∷ bs) ≡ x ∷ before_zero bs
unfolding before_zero
before_more x bs some = rw (not_zero x some) refl

pub after_more : (x : ℕ) (bs : List ℕ) → (x ≡ 0 → ⊥) → after_zero (x ∷ bs) ≡ after_zero bs
unfolding after_zero
after_more x bs some = rw (not_zero x some) refl

pub before_here : (x : ℕ) (bs : List ℕ) → x ≡ 0 → before_zero (x ∷ bs) ≡ []
unfolding before_zero
before_here x bs e = rw e refl

pub after_here : (x : ℕ) (bs : List ℕ) → x ≡ 0 → after_zero (x ∷ bs) ≡ bs
unfolding after_zero
after_here x bs e = rw e refl

pub before_nil : before_zero [] ≡ []
unfolding before_zero
before_nil = refl

pub after_nil : after_zero [] ≡ []
unfolding after_zero
after_nil = refl

pub zero_next : (bs : List ℕ) (n d : ℕ) → n < length bs → (get_or bs n d ≡ 0 → ⊥) → ZeroStep bs n → ZeroStep bs (n + 1)
zero_next bs n d within some so_far =
    let cut : drop n bs ≡ get_or bs n d ∷ drop (n + 1) bs = rw add-one (drop-cons bs n d within) in
    let more : take (n + 1) bs ≡ take n bs ++ (get_or bs n d ∷ []) = rw add-one (take-suc bs n d within) in
    record {
      before = so_far.before ∙ (ap (λ (x : List ℕ). take n bs ++ before_zero x) cut
          ∙ (ap (λ (x : List ℕ). take n bs ++ x) (before_more (get_or bs n d) (drop (n + 1) bs) some)
          ∙ (sym (append_assoc (take n bs) (get_or bs n d ∷ []) (before_zero (drop (n + 1) bs)))
          ∙ ap (λ (x : List ℕ). x ++ before_zero (drop (n + 1) bs)) (sym more))));
      after = so_far.after ∙ (ap after_zero cut ∙ after_more (get_or bs n d) (drop (n + 1) bs) some);
    }

pub zero_found : (bs : List ℕ) (n d : ℕ) → n < length bs → get_or bs n d ≡ 0 → ZeroStep bs n
    → (before_zero bs ≡ take n bs) × (after_zero bs ≡ drop 1 (drop n bs))
zero_found bs n d within none so_far =
    let cut : drop n bs ≡ get_or bs n d ∷ drop (n + 1) bs = rw add-one (drop-cons bs n d within) in (
      so_far.before ∙ (ap (λ (x : List ℕ). take n bs ++ before_zero x) cut
          ∙ (ap (λ (x : List ℕ). take n bs ++ x) (before_here (get_or bs n d) (drop (n + 1) bs) none)
          ∙ append-nil (take n bs))),
      so_far.after ∙ (ap after_zero cut ∙ (after_here (get_or bs n d) (drop (n + 1) bs) none ∙ sym (ap (drop 1) cut))),
    )

pub zero_missing : (bs : List ℕ) (n : ℕ) → length bs ≤ n → ZeroStep bs n
    → (before_zero bs ≡ take n bs) × (after_zero bs ≡ drop 1 (drop n bs))
zero_missing bs n past so_far =
    let nothing : drop n bs ≡ [] = nil_from_length (drop n bs) (omega (arith, past, length-drop n bs)) in (
      so_far.before ∙ (ap (λ (x : List ℕ). take n bs ++ before_zero x) nothing
          ∙ (ap (λ (x : List ℕ). take n bs ++ x) before_nil ∙ append-nil (take n bs))),
      so_far.after ∙ (ap after_zero nothing ∙ (after_nil ∙ sym (ap (drop 1) nothing))),
    )

-- the first zero of bytes
pub ruleset zeros = (zero_next, zero_found, zero_missing)
