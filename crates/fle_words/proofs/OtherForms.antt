-- The same of `encrypt-with` and of `rewrap`: their words have their form, and no others.
use Rattle.std.proofs.Common.{◌≡◌, ◌∙◌, ℕ, ◌<◌, ◌≤◌, false, true, nat_lt, List, [], ◌∷◌, length, Some, refl, sym, ap}
use Rattle.std.proofs.Common.{subst, arith, inl, inr}
use Rattle.std.specs.Prelude.{codes, ◌==◌, ◌||◌}
use Rattle.std.specs.Cmp.Lexicographic.{same_text}
use Rattle.std.proofs.lemmas.Bool.Decides.{nat_tests}
use Rattle.fle_words.specs.Words.{Form, encrypt_with, rewrap}
use Rattle.fle_words.specs.Words.{decrypt_words, demo_words, encrypt_with_words, encrypt_words, form_of, is_verb}
use Rattle.fle_words.specs.Words.{keygen_words, keys_words, mark_words, rewrap_words, show_words, verb_form}
use Rattle.fle_words.proofs.Forms.{Fits, accepted, decrypt_only, demo_only, encrypt_only, encrypt_with_only, filled}
use Rattle.fle_words.proofs.Forms.{keygen_only, keys_only, mark_only, none_of, not_none, passed, rewrap_only, show_only}
use Rattle.fle_words.proofs.Forms.{some_of, taken, words_of}

pub encrypt_with_form_is : (db vault schemas master : List ℕ) → 0 < length db → length db ≤ 63
    → 0 < length vault → 0 < length schemas → 0 < length master
    → form_of (codes "encrypt-with" ∷ db ∷ vault ∷ schemas ∷ master ∷ []) ≡ Some (encrypt_with db vault schemas master)
encrypt_with_form_is db vault schemas master d short v s m =
    let fits : nat_lt 63 (length db) ≡ false = grind (arith, nat_tests) in
    rw (filled (length db) d) (rw fits (rw (filled (length vault) v) (rw (filled (length schemas) s)
    (rw (filled (length master) m) refl))))

pub rewrap_form_is : (from to vault : List ℕ) → 0 < length from → 0 < length to → 0 < length vault
    → form_of (codes "rewrap" ∷ from ∷ to ∷ vault ∷ []) ≡ Some (rewrap from to vault)
rewrap_form_is from to vault f t v =
    rw (filled (length from) f) (rw (filled (length to) t) (rw (filled (length vault) v) refl))

fit_encrypt_with : (words : List (List ℕ)) (form : Form) → encrypt_with_words words ≡ Some form
    → (words ≡ words_of (Some form)) × Fits (Some form)
fit_encrypt_with [] form is = absurd cc
fit_encrypt_with (a ∷ []) form is = absurd cc
fit_encrypt_with (a ∷ b ∷ []) form is = absurd cc
fit_encrypt_with (a ∷ b ∷ c ∷ []) form is = absurd cc
fit_encrypt_with (a ∷ b ∷ c ∷ d ∷ []) form is =
    let made =
    accepted (length a == 0 || nat_lt 63 (length a) || length b == 0 || length c == 0 || length d == 0)
    (encrypt_with a b c d) form is in
    let n = none_of (length a == 0 || nat_lt 63 (length a) || length b == 0 || length c == 0) (length d == 0) made.0 in
    let o = none_of (length a == 0 || nat_lt 63 (length a) || length b == 0) (length c == 0) n.0 in
    let p = none_of (length a == 0 || nat_lt 63 (length a)) (length b == 0) o.0 in
    let q = none_of (length a == 0) (nat_lt 63 (length a)) p.0 in
    let long : nat_lt 63 (length a) ≡ false = q.1 in
    let short : length a ≤ 63 = grind (arith, nat_tests) in
    let fits : Fits (Some (encrypt_with a b c d)) =
    (some_of (length a) q.0, short, some_of (length b) p.1, some_of (length c) o.1, some_of (length d) n.1) in
    (ap words_of made.1, subst Fits made.1 fits)
fit_encrypt_with (a ∷ b ∷ c ∷ d ∷ e ∷ words) form is = absurd cc

fit_rewrap : (words : List (List ℕ)) (form : Form) → rewrap_words words ≡ Some form
    → (words ≡ words_of (Some form)) × Fits (Some form)
fit_rewrap [] form is = absurd cc
fit_rewrap (a ∷ []) form is = absurd cc
fit_rewrap (a ∷ b ∷ []) form is = absurd cc
fit_rewrap (a ∷ b ∷ c ∷ []) form is =
    let made = accepted (length a == 0 || length b == 0 || length c == 0) (rewrap a b c) form is in
    let n = none_of (length a == 0 || length b == 0) (length c == 0) made.0 in
    let o = none_of (length a == 0) (length b == 0) n.0 in
    let fits : Fits (Some (rewrap a b c)) =
    (some_of (length a) o.0, some_of (length b) o.1, some_of (length c) n.1) in
    (ap words_of made.1, subst Fits made.1 fits)
fit_rewrap (a ∷ b ∷ c ∷ d ∷ words) form is = absurd cc

verb_encrypts_with : (verb : List ℕ) (words : List (List ℕ)) (db vault schemas master : List ℕ)
    → verb_form verb words ≡ Some (encrypt_with db vault schemas master)
    → (is_verb verb (codes "encrypt-with") ≡ true)
    × (encrypt_with_words words ≡ Some (encrypt_with db vault schemas master))
verb_encrypts_with verb words db vault schemas master is =
    let f = encrypt_with db vault schemas master in
    let a =
    passed 1 (is_verb verb (codes "mark")) (mark_words words) _ f
    (mark_only words) (λ e. absurd cc, λ e. absurd cc) is in
    let b =
    passed 2 (is_verb verb (codes "show")) (show_words words) _ f
    (show_only words) (λ e. absurd cc, λ e. absurd cc) a in
    let c =
    passed 3 (is_verb verb (codes "keys")) (keys_words words) _ f
    (keys_only words) (λ e. absurd cc, λ e. absurd cc) b in
    let d =
    passed 4 (is_verb verb (codes "keygen")) (keygen_words words) _ f
    (keygen_only words) (λ e. absurd cc, λ e. absurd cc) c in
    let e =
    passed 5 (is_verb verb (codes "encrypt")) (encrypt_words words) _ f
    (encrypt_only words) (λ e. absurd cc, λ e. absurd cc) d in
    elim (taken (is_verb verb (codes "encrypt-with")) (encrypt_with_words words) _ f e) [
      | inl this ↦ this
      | inr others ↦
          let g =
          passed 7 (is_verb verb (codes "decrypt")) (decrypt_words words) _ f
          (decrypt_only words) (λ e. absurd cc, λ e. absurd cc) others in
          let h =
          passed 8 (is_verb verb (codes "demo")) (demo_words words) _ f
          (demo_only words) (λ e. absurd cc, λ e. absurd cc) g in
          let i =
          passed 9 (is_verb verb (codes "rewrap")) (rewrap_words words) _ f
          (rewrap_only words) (λ e. absurd cc, λ e. absurd cc) h in
          absurd (not_none f i)
    ]

verb_rewraps : (verb : List ℕ) (words : List (List ℕ)) (from to vault : List ℕ)
    → verb_form verb words ≡ Some (rewrap from to vault)
    → (is_verb verb (codes "rewrap") ≡ true) × (rewrap_words words ≡ Some (rewrap from to vault))
verb_rewraps verb words from to vault is =
    let f = rewrap from to vault in
    let a =
    passed 1 (is_verb verb (codes "mark")) (mark_words words) _ f
    (mark_only words) (λ e. absurd cc, λ e. absurd cc) is in
    let b =
    passed 2 (is_verb verb (codes "show")) (show_words words) _ f
    (show_only words) (λ e. absurd cc, λ e. absurd cc) a in
    let c =
    passed 3 (is_verb verb (codes "keys")) (keys_words words) _ f
    (keys_only words) (λ e. absurd cc, λ e. absurd cc) b in
    let d =
    passed 4 (is_verb verb (codes "keygen")) (keygen_words words) _ f
    (keygen_only words) (λ e. absurd cc, λ e. absurd cc) c in
    let e =
    passed 5 (is_verb verb (codes "encrypt")) (encrypt_words words) _ f
    (encrypt_only words) (λ e. absurd cc, λ e. absurd cc) d in
    let g =
    passed 6 (is_verb verb (codes "encrypt-with")) (encrypt_with_words words) _ f
    (encrypt_with_only words) (λ e. absurd cc, λ e. absurd cc) e in
    let h =
    passed 7 (is_verb verb (codes "decrypt")) (decrypt_words words) _ f
    (decrypt_only words) (λ e. absurd cc, λ e. absurd cc) g in
    let i =
    passed 8 (is_verb verb (codes "demo")) (demo_words words) _ f
    (demo_only words) (λ e. absurd cc, λ e. absurd cc) h in
    elim (taken (is_verb verb (codes "rewrap")) (rewrap_words words) _ f i) [
      | inl this ↦ this
      | inr others ↦ absurd (not_none f others)
    ]

pub encrypt_with_form_had : (words : List (List ℕ)) (db vault schemas master : List ℕ)
    → form_of words ≡ Some (encrypt_with db vault schemas master)
    → (words ≡ codes "encrypt-with" ∷ db ∷ vault ∷ schemas ∷ master ∷ [])
    × (0 < length db) × (length db ≤ 63) × (0 < length vault) × (0 < length schemas) × (0 < length master)
encrypt_with_form_had [] db vault schemas master is = absurd cc
encrypt_with_form_had (verb ∷ words) db vault schemas master is =
    let had = verb_encrypts_with verb words db vault schemas master is in
    let fit = fit_encrypt_with words (encrypt_with db vault schemas master) had.1 in
    let same : verb ≡ codes "encrypt-with" = same_text verb (codes "encrypt-with") (sym had.0) in (
      ap (λ (v : List ℕ). v ∷ words) same ∙ ap (λ (ws : List (List ℕ)). codes "encrypt-with" ∷ ws) fit.0,
      fit.1.0,
      fit.1.1,
      fit.1.2,
      fit.1.3,
      fit.1.4,
    )

pub rewrap_form_had : (words : List (List ℕ)) (from to vault : List ℕ) → form_of words ≡ Some (rewrap from to vault)
    → (words ≡ codes "rewrap" ∷ from ∷ to ∷ vault ∷ []) × (0 < length from) × (0 < length to) × (0 < length vault)
rewrap_form_had [] from to vault is = absurd cc
rewrap_form_had (verb ∷ words) from to vault is =
    let had = verb_rewraps verb words from to vault is in
    let fit = fit_rewrap words (rewrap from to vault) had.1 in
    let same : verb ≡ codes "rewrap" = same_text verb (codes "rewrap") (sym had.0) in (
      ap (λ (v : List ℕ). v ∷ words) same ∙ ap (λ (ws : List (List ℕ)). codes "rewrap" ∷ ws) fit.0,
      fit.1.0,
      fit.1.1,
      fit.1.2,
    )
