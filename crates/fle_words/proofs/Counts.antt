-- A word that is how a number is printed reads back as that number.
use Rattle.std.proofs.Common.{◌≡◌, ◌∙◌, ℕ, ◌≤◌, Bool, true, false, cond, List, Result, Ok, Err, Some, None, sym, ap}
use Rattle.std.proofs.Common.{subst, arith, inl, inr}
use Rattle.std.specs.Prelude.{decimal, nat_eq, nat_le, ◌&&◌}
use Rattle.std.specs.Result.{result_unwrap_or}
use Rattle.std.specs.Cmp.Lexicographic.{pointwise, same_text}
use Rattle.std.specs.Str.Parse.{ParsesUnsigned, digits_value}
use Rattle.std.proofs.lemmas.Bool.{cases_Bool, leb-true}
use Rattle.std.proofs.lemmas.Fmt.{decimal_is_IsNumeral, parse-decimal}
use Rattle.fle_words.specs.Words.{count_in, is_count}

-- both tests passed
both : (a b : Bool) → (a && b) ≡ true → (a ≡ true) × (b ≡ true)
both true true is = (is, is)
both true false is = absurd cc
both false b is = absurd cc

-- the word is the text of a number of commands
printed : (word : List ℕ) (n : ℕ) → is_count word n ≡ true → (word ≡ decimal n) × (n ≤ 100000)
printed word n is =
    let parts = both (pointwise nat_eq word (decimal n)) (nat_le 1 n && nat_le n 100000) is in
    let few = both (nat_le 1 n) (nat_le n 100000) parts.1 in
    (same_text word (decimal n) (sym parts.0), leb-true n 100000 few.1)

-- its digits are those of the number
value_is : (word : List ℕ) (n : ℕ) → is_count word n ≡ true → digits_value 10 word ≡ n
value_is word n is =
    let p = printed word n is in
    ap (λ (w : List ℕ). digits_value 10 w) p.0 ∙ (decimal_is_IsNumeral n (omega (arith, p.1))).1

pub counts : (word : List ℕ) (n : ℕ) → is_count word n ≡ true → count_in word ≡ Some n
unfolding count_in
counts word n is =
    subst (λ (v : ℕ). cond (is_count word v) (Some v) None ≡ Some n) (sym (value_is word n is))
    (ap (λ (b : Bool). cond b (Some n) None) is)

-- what was read isn't the number of the word
pub uncounted : {E : Type 0} (word : List ℕ) (n : ℕ) (r : Result ℕ E) → ParsesUnsigned 32 10 word r → r ≡ Ok n
    → is_count word n ≡ false → count_in word ≡ None
unfolding count_in
uncounted word n r parses read isnt =
    let v = digits_value 10 word in
    elim (cases_Bool (is_count word v)) [
      | inl is ↦
          let p = printed word v is in
          let reads = parse-decimal 32 v word r (omega (arith, p.1)) (omega (arith, p.1)) p.0 parses in
          let same : n ≡ v = ap (λ (q : Result ℕ _). result_unwrap_or q 0) (sym read ∙ reads) in
          let is_n : is_count word n ≡ true = ap (λ (x : ℕ). is_count word x) same ∙ is in
          let bad : false ≡ true = sym isnt ∙ is_n in
          absurd cc
      | inr other ↦ ap (λ (b : Bool). cond b (Some v) None) other
    ]

-- nothing was read
pub unread : {E : Type 0} (word : List ℕ) (e : E) (r : Result ℕ E) → ParsesUnsigned 32 10 word r → r ≡ Err e
    → count_in word ≡ None
unfolding count_in
unread {E} word e r parses fails =
    let v = digits_value 10 word in
    elim (cases_Bool (is_count word v)) [
      | inl is ↦
          let p = printed word v is in
          let reads = parse-decimal 32 v word r (omega (arith, p.1)) (omega (arith, p.1)) p.0 parses in
          let bad : ◌≡◌ {A = Result ℕ E} (Err e) (Ok v) = sym fails ∙ reads in
          absurd cc
      | inr other ↦ ap (λ (b : Bool). cond b (Some v) None) other
    ]
