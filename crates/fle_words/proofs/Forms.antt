-- The words have the form of `encrypt`, or of `decrypt`, exactly where they are its words with their conditions.
use Rattle.std.proofs.Common.{◌≡◌, ◌∙◌, ℕ, ◌<◌, ◌≤◌, ◌⊎◌, Bool, true, false, cond, nat_lt, List, [], ◌∷◌, length}
use Rattle.std.proofs.Common.{Option, Some, None, refl, sym, ap, subst, arith, inl, inr}
use Rattle.std.specs.Prelude.{codes, ◌==◌, ◌||◌}
use Rattle.std.specs.Cmp.Lexicographic.{same_text}
use Rattle.std.proofs.lemmas.Bool.Decides.{nat_tests}
use Rattle.fle_words.specs.Words.{Form, mark, show, keys, keygen, encrypt, encrypt_with, decrypt, demo, rewrap}
use Rattle.fle_words.specs.Words.{count_in, counted_form, decrypt_words, demo_words, encrypt_with_words}
use Rattle.fle_words.specs.Words.{encrypt_words, form_of, is_verb, keygen_words, keys_words, mark_words, rewrap_words}
use Rattle.fle_words.specs.Words.{show_words, verb_form}

-- a word that isn't empty
pub filled : (n : ℕ) → 0 < n → (n == 0) ≡ false
filled n some = grind (arith, nat_tests)

pub some_of : (n : ℕ) → (n == 0) ≡ false → 0 < n
some_of n filled = grind (arith, nat_tests)

-- the words of `encrypt` have its form
pub encrypt_form_is : (db vault schemas master : List ℕ) → 0 < length db → length db ≤ 63
    → 0 < length vault → 0 < length schemas → 0 < length master
    → form_of (codes "encrypt" ∷ db ∷ vault ∷ schemas ∷ master ∷ []) ≡ Some (encrypt db vault schemas master)
encrypt_form_is db vault schemas master d short v s m =
    let fits : nat_lt 63 (length db) ≡ false = grind (arith, nat_tests) in
    rw (filled (length db) d) (rw fits (rw (filled (length vault) v) (rw (filled (length schemas) s)
    (rw (filled (length master) m) refl))))

-- the words of `decrypt` have its form
pub decrypt_form_is : (vault master : List ℕ) → 0 < length vault → 0 < length master
    → form_of (codes "decrypt" ∷ vault ∷ master ∷ []) ≡ Some (decrypt vault master)
decrypt_form_is vault master v m = rw (filled (length vault) v) (rw (filled (length master) m) refl)

-- the number of a form's verb; 0 where there is none
abbrev pub kind : Option Form → ℕ
kind None = 0
kind (Some (mark db schemas)) = 1
kind (Some show) = 2
kind (Some (keys vault)) = 3
kind (Some (keygen master names)) = 4
kind (Some (encrypt db vault schemas master)) = 5
kind (Some (encrypt_with db vault schemas master)) = 6
kind (Some (decrypt vault master)) = 7
kind (Some (demo db n)) = 8
kind (Some (rewrap from to vault)) = 9

-- there is no form, or one of this number
abbrev pub Only : ℕ → Option Form → Type 0
Only n form = (kind form ≡ 0) ⊎ (kind form ≡ n)

unless_refused : (n : ℕ) (refused : Bool) (form : Option Form) → Only n form → Only n (cond refused None form)
unless_refused n true form only = inl refl
unless_refused n false form only = only

pub mark_only : (words : List (List ℕ)) → Only 1 (mark_words words)
mark_only [] = inl refl
mark_only (db ∷ []) = inl refl
mark_only (db ∷ schemas ∷ []) = unless_refused 1 _ (Some (mark db schemas)) (inr refl)
mark_only (db ∷ schemas ∷ c ∷ words) = inl refl

pub show_only : (words : List (List ℕ)) → Only 2 (show_words words)
show_only [] = inr refl
show_only (word ∷ words) = inl refl

pub keys_only : (words : List (List ℕ)) → Only 3 (keys_words words)
keys_only [] = inl refl
keys_only (vault ∷ []) = unless_refused 3 _ (Some (keys vault)) (inr refl)
keys_only (vault ∷ b ∷ words) = inl refl

pub keygen_only : (words : List (List ℕ)) → Only 4 (keygen_words words)
keygen_only [] = inl refl
keygen_only (master ∷ names) = unless_refused 4 _ (Some (keygen master names)) (inr refl)

pub encrypt_only : (words : List (List ℕ)) → Only 5 (encrypt_words words)
encrypt_only [] = inl refl
encrypt_only (a ∷ []) = inl refl
encrypt_only (a ∷ b ∷ []) = inl refl
encrypt_only (a ∷ b ∷ c ∷ []) = inl refl
encrypt_only (a ∷ b ∷ c ∷ d ∷ []) = unless_refused 5 _ (Some (encrypt a b c d)) (inr refl)
encrypt_only (a ∷ b ∷ c ∷ d ∷ e ∷ words) = inl refl

pub encrypt_with_only : (words : List (List ℕ)) → Only 6 (encrypt_with_words words)
encrypt_with_only [] = inl refl
encrypt_with_only (a ∷ []) = inl refl
encrypt_with_only (a ∷ b ∷ []) = inl refl
encrypt_with_only (a ∷ b ∷ c ∷ []) = inl refl
encrypt_with_only (a ∷ b ∷ c ∷ d ∷ []) = unless_refused 6 _ (Some (encrypt_with a b c d)) (inr refl)
encrypt_with_only (a ∷ b ∷ c ∷ d ∷ e ∷ words) = inl refl

pub decrypt_only : (words : List (List ℕ)) → Only 7 (decrypt_words words)
decrypt_only [] = inl refl
decrypt_only (a ∷ []) = inl refl
decrypt_only (a ∷ b ∷ []) = unless_refused 7 _ (Some (decrypt a b)) (inr refl)
decrypt_only (a ∷ b ∷ c ∷ words) = inl refl

counted_only : (db : List ℕ) (n : Option ℕ) → Only 8 (counted_form db n)
counted_only db None = inl refl
counted_only db (Some n) = inr refl

pub demo_only : (words : List (List ℕ)) → Only 8 (demo_words words)
demo_only [] = inl refl
demo_only (a ∷ []) = inl refl
demo_only (a ∷ b ∷ []) = unless_refused 8 _ (counted_form a (count_in b)) (counted_only a (count_in b))
demo_only (a ∷ b ∷ c ∷ words) = inl refl

pub rewrap_only : (words : List (List ℕ)) → Only 9 (rewrap_words words)
rewrap_only [] = inl refl
rewrap_only (a ∷ []) = inl refl
rewrap_only (a ∷ b ∷ []) = inl refl
rewrap_only (a ∷ b ∷ c ∷ []) = unless_refused 9 _ (Some (rewrap a b c)) (inr refl)
rewrap_only (a ∷ b ∷ c ∷ d ∷ words) = inl refl

-- a verb whose forms have another number isn't the one
abbrev pub Differs : ℕ → Form → Type 0
Differs n form = (0 ≡ kind (Some form) → ⊥) × (n ≡ kind (Some form) → ⊥)

not_this : (n : ℕ) (own : Option Form) (form : Form) → Only n own → Differs n form → own ≡ Some form → ⊥
not_this n own form (inl none) differs is = differs.0 (sym none ∙ ap kind is)
not_this n own form (inr this) differs is = differs.1 (sym this ∙ ap kind is)

pub passed : (n : ℕ) (this : Bool) (own others : Option Form) (form : Form) → Only n own → Differs n form
    → cond this own others ≡ Some form → others ≡ Some form
passed n true own others form only differs is = absurd (not_this n own form only differs is)
passed n false own others form only differs is = is

-- the verb is this one, or one behind it
pub taken : (this : Bool) (own others : Option Form) (form : Form) → cond this own others ≡ Some form
    → ((this ≡ true) × (own ≡ Some form)) ⊎ (others ≡ Some form)
taken true own others form is = inl (refl, is)
taken false own others form is = inr is

pub none_of : (a b : Bool) → (a || b) ≡ false → (a ≡ false) × (b ≡ false)
none_of false b is = (refl, is)
none_of true b is = absurd cc

pub accepted : (refused : Bool) (own form : Form) → cond refused None (Some own) ≡ Some form
    → (refused ≡ false) × (Some own ≡ Some form)
accepted true own form is = absurd cc
accepted false own form is = (refl, is)

-- the words of a form behind its verb
abbrev pub words_of : Option Form → List (List ℕ)
words_of (Some (encrypt db vault schemas master)) = db ∷ vault ∷ schemas ∷ master ∷ []
words_of (Some (encrypt_with db vault schemas master)) = db ∷ vault ∷ schemas ∷ master ∷ []
words_of (Some (decrypt vault master)) = vault ∷ master ∷ []
words_of (Some (rewrap from to vault)) = from ∷ to ∷ vault ∷ []
words_of _ = []

-- what is asked of them
abbrev pub Fits : Option Form → Type 0
Fits (Some (encrypt db vault schemas master)) =
    (0 < length db) × (length db ≤ 63) × (0 < length vault) × (0 < length schemas) × (0 < length master)
Fits (Some (encrypt_with db vault schemas master)) =
    (0 < length db) × (length db ≤ 63) × (0 < length vault) × (0 < length schemas) × (0 < length master)
Fits (Some (decrypt vault master)) = (0 < length vault) × (0 < length master)
Fits (Some (rewrap from to vault)) = (0 < length from) × (0 < length to) × (0 < length vault)
Fits _ = Unit {0}

fit_encrypt : (words : List (List ℕ)) (form : Form) → encrypt_words words ≡ Some form
    → (words ≡ words_of (Some form)) × Fits (Some form)
fit_encrypt [] form is = absurd cc
fit_encrypt (a ∷ []) form is = absurd cc
fit_encrypt (a ∷ b ∷ []) form is = absurd cc
fit_encrypt (a ∷ b ∷ c ∷ []) form is = absurd cc
fit_encrypt (a ∷ b ∷ c ∷ d ∷ []) form is =
    let made =
    accepted (length a == 0 || nat_lt 63 (length a) || length b == 0 || length c == 0 || length d == 0)
    (encrypt a b c d) form is in
    let n = none_of (length a == 0 || nat_lt 63 (length a) || length b == 0 || length c == 0) (length d == 0) made.0 in
    let o = none_of (length a == 0 || nat_lt 63 (length a) || length b == 0) (length c == 0) n.0 in
    let p = none_of (length a == 0 || nat_lt 63 (length a)) (length b == 0) o.0 in
    let q = none_of (length a == 0) (nat_lt 63 (length a)) p.0 in
    let long : nat_lt 63 (length a) ≡ false = q.1 in
    let short : length a ≤ 63 = grind (arith, nat_tests) in
    let fits : Fits (Some (encrypt a b c d)) =
    (some_of (length a) q.0, short, some_of (length b) p.1, some_of (length c) o.1, some_of (length d) n.1) in
    (ap words_of made.1, subst Fits made.1 fits)
fit_encrypt (a ∷ b ∷ c ∷ d ∷ e ∷ words) form is = absurd cc

fit_decrypt : (words : List (List ℕ)) (form : Form) → decrypt_words words ≡ Some form
    → (words ≡ words_of (Some form)) × Fits (Some form)
fit_decrypt [] form is = absurd cc
fit_decrypt (a ∷ []) form is = absurd cc
fit_decrypt (a ∷ b ∷ []) form is =
    let made = accepted _ (decrypt a b) form is in
    let n = none_of (length a == 0) _ made.0 in
    let fits : Fits (Some (decrypt a b)) = (some_of (length a) n.0, some_of (length b) n.1) in
    (ap words_of made.1, subst Fits made.1 fits)
fit_decrypt (a ∷ b ∷ c ∷ words) form is = absurd cc

pub not_none : (form : Form) → None ≡ Some form → ⊥
not_none form is = absurd cc

-- the words behind a verb whose form is that of `encrypt`
verb_encrypts : (verb : List ℕ) (words : List (List ℕ)) (db vault schemas master : List ℕ)
    → verb_form verb words ≡ Some (encrypt db vault schemas master)
    → (is_verb verb (codes "encrypt") ≡ true) × (encrypt_words words ≡ Some (encrypt db vault schemas master))
verb_encrypts verb words db vault schemas master is =
    let f = encrypt db vault schemas master in
    let a =
    passed 1 (is_verb verb (codes "mark")) (mark_words words) _ f
    (mark_only words) (λ e. absurd cc, λ e. absurd cc) is in
    let b =
    passed 2 (is_verb verb (codes "show")) (show_words words) _ f
    (show_only words) (λ e. absurd cc, λ e. absurd cc) a in
    let c =
    passed 3 (is_verb verb (codes "keys")) (keys_words words) _ f
    (keys_only words) (λ e. absurd cc, λ e. absurd cc) b in
    let d =
    passed 4 (is_verb verb (codes "keygen")) (keygen_words words) _ f
    (keygen_only words) (λ e. absurd cc, λ e. absurd cc) c in
    elim (taken (is_verb verb (codes "encrypt")) (encrypt_words words) _ f d) [
      | inl this ↦ this
      | inr others ↦
          let e =
          passed 6 (is_verb verb (codes "encrypt-with")) (encrypt_with_words words) _ f
          (encrypt_with_only words) (λ e. absurd cc, λ e. absurd cc) others in
          let g =
          passed 7 (is_verb verb (codes "decrypt")) (decrypt_words words) _ f
          (decrypt_only words) (λ e. absurd cc, λ e. absurd cc) e in
          let h =
          passed 8 (is_verb verb (codes "demo")) (demo_words words) _ f
          (demo_only words) (λ e. absurd cc, λ e. absurd cc) g in
          let i =
          passed 9 (is_verb verb (codes "rewrap")) (rewrap_words words) _ f
          (rewrap_only words) (λ e. absurd cc, λ e. absurd cc) h in
          absurd (not_none f i)
    ]

-- words with the form of `encrypt` are its words, with their conditions
pub encrypt_form_had : (words : List (List ℕ)) (db vault schemas master : List ℕ)
    → form_of words ≡ Some (encrypt db vault schemas master)
    → (words ≡ codes "encrypt" ∷ db ∷ vault ∷ schemas ∷ master ∷ [])
    × (0 < length db) × (length db ≤ 63) × (0 < length vault) × (0 < length schemas) × (0 < length master)
encrypt_form_had [] db vault schemas master is = absurd cc
encrypt_form_had (verb ∷ words) db vault schemas master is =
    let had = verb_encrypts verb words db vault schemas master is in
    let fit = fit_encrypt words (encrypt db vault schemas master) had.1 in
    let same : verb ≡ codes "encrypt" = same_text verb (codes "encrypt") (sym had.0) in (
      ap (λ (v : List ℕ). v ∷ words) same ∙ ap (λ (ws : List (List ℕ)). codes "encrypt" ∷ ws) fit.0,
      fit.1.0,
      fit.1.1,
      fit.1.2,
      fit.1.3,
      fit.1.4,
    )

-- the same of `decrypt`
verb_decrypts : (verb : List ℕ) (words : List (List ℕ)) (vault master : List ℕ)
    → verb_form verb words ≡ Some (decrypt vault master)
    → (is_verb verb (codes "decrypt") ≡ true) × (decrypt_words words ≡ Some (decrypt vault master))
verb_decrypts verb words vault master is =
    let f = decrypt vault master in
    let a =
    passed 1 (is_verb verb (codes "mark")) (mark_words words) _ f
    (mark_only words) (λ e. absurd cc, λ e. absurd cc) is in
    let b =
    passed 2 (is_verb verb (codes "show")) (show_words words) _ f
    (show_only words) (λ e. absurd cc, λ e. absurd cc) a in
    let c =
    passed 3 (is_verb verb (codes "keys")) (keys_words words) _ f
    (keys_only words) (λ e. absurd cc, λ e. absurd cc) b in
    let d =
    passed 4 (is_verb verb (codes "keygen")) (keygen_words words) _ f
    (keygen_only words) (λ e. absurd cc, λ e. absurd cc) c in
    let e =
    passed 5 (is_verb verb (codes "encrypt")) (encrypt_words words) _ f
    (encrypt_only words) (λ e. absurd cc, λ e. absurd cc) d in
    let g =
    passed 6 (is_verb verb (codes "encrypt-with")) (encrypt_with_words words) _ f
    (encrypt_with_only words) (λ e. absurd cc, λ e. absurd cc) e in
    elim (taken (is_verb verb (codes "decrypt")) (decrypt_words words) _ f g) [
      | inl this ↦ this
      | inr others ↦
          let h =
          passed 8 (is_verb verb (codes "demo")) (demo_words words) _ f
          (demo_only words) (λ e. absurd cc, λ e. absurd cc) others in
          let i =
          passed 9 (is_verb verb (codes "rewrap")) (rewrap_words words) _ f
          (rewrap_only words) (λ e. absurd cc, λ e. absurd cc) h in
          absurd (not_none f i)
    ]

pub decrypt_form_had : (words : List (List ℕ)) (vault master : List ℕ) → form_of words ≡ Some (decrypt vault master)
    → (words ≡ codes "decrypt" ∷ vault ∷ master ∷ []) × (0 < length vault) × (0 < length master)
decrypt_form_had [] vault master is = absurd cc
decrypt_form_had (verb ∷ words) vault master is =
    let had = verb_decrypts verb words vault master is in
    let fit = fit_decrypt words (decrypt vault master) had.1 in
    let same : verb ≡ codes "decrypt" = same_text verb (codes "decrypt") (sym had.0) in (
      ap (λ (v : List ℕ). v ∷ words) same ∙ ap (λ (ws : List (List ℕ)). codes "decrypt" ∷ ws) fit.0,
      fit.1.0,
      fit.1.1,
    )
