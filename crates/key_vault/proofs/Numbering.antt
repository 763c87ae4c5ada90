-- The names of a key get a number, one after another.
use Rattle.std.proofs.Math.Seq.{drop-cons}
use Rattle.std.proofs.Common.{◌≡◌, ◌∙◌, ◌+◌, ◌<◌, suc, arith, drop, get_or, length, ℕ, Bool, true, false, cond, not}
use Rattle.std.proofs.Common.{◌&&◌, ◌||◌, List, [], ◌∷◌, Option, Some, bytes_eq, refl, sym, ap}
use Rattle.std.specs.Cmp.Lexicographic.{nat_list_eq_equiv}
use Rattle.std.specs.Prelude.{is_some}
use Rattle.data_key.specs.declared.key_doc.KeyDoc.{KeyDoc}
use Rattle.key_vault.specs.declared.numbers.Numbers.{Numbers}
use Rattle.key_vault.specs.Keys.{is_among}
use Rattle.key_vault.specs.Loading.{are_new}
use Rattle.key_vault.specs.Numbers.{has_number, number_of}

-- the names before have this number, and what is left tells of the whole
pub record Numbering (all : List KeyDoc) (old now : Numbers) (number : ℕ) (left whole : List (List ℕ)) : Type 0 where
  pub before : List (List ℕ)
  pub numbered : (other : List ℕ) → number_of all now other
      ≡ cond (is_among other before) (Some number) (number_of all old other)
  pub read : are_new (has_number all old) before left ≡ are_new (has_number all old) [] whole
  pub among : (other : List ℕ) → (is_among other before || is_among other left) ≡ is_among other whole

either : (a b : Bool) (number : ℕ) (o : Option ℕ)
    → cond a (Some number) (cond b (Some number) o) ≡ cond (a || b) (Some number) o
either true b number o = refl
either false b number o = refl

some_either : (a : Bool) (number : ℕ) (o : Option ℕ) → is_some (cond a (Some number) o) ≡ (a || is_some o)
some_either true number o = refl
some_either false number o = refl

turned : (a b c : Bool) → ((a || b) || c) ≡ (b || (a || c))
turned true true c = refl
turned true false c = refl
turned false true c = refl
turned false false c = refl

-- a name is known where it stands before, or has a number from the start
known : {all : List KeyDoc} {old now : Numbers} {number : ℕ} {left whole : List (List ℕ)}
    (n : Numbering all old now number left whole)
    → (name : List ℕ) → has_number all now name ≡ (is_among name n.before || has_number all old name)
known {all = all} {old = old} {number = number} n name =
    ap is_some (n.numbered name) ∙ some_either (is_among name n.before) number (number_of all old name)

-- one more name gets the number
pub next_numbered : {all : List KeyDoc} {old now : Numbers} {number : ℕ} {left whole : List (List ℕ)}
    (new : Numbers) (name : List ℕ) (rest : List (List ℕ))
    → Numbering all old now number left whole → left ≡ name ∷ rest → true ≡ not (has_number all now name)
    → ((other : List ℕ) → number_of all new other ≡ cond (bytes_eq name other) (Some number) (number_of all now other))
    → Numbering all old new number rest whole
next_numbered {all = all} {old = old} {now = now} {number = number} {left = left} new name rest n step free put =
    let test : not (is_among name n.before || has_number all old name) ≡ true =
    ap not (sym (known n name)) ∙ sym free in
    record {
      before = name ∷ n.before;
      numbered = λ other. put other
          ∙ (ap (λ b. cond b (Some number) (number_of all now other)) (nat_list_eq_equiv.symm name other)
          ∙ (ap (cond (bytes_eq other name) (Some number)) (n.numbered other)
          ∙ either (bytes_eq other name) (is_among other n.before) number (number_of all old other)));
      read = sym (ap (λ b. b && are_new (has_number all old) (name ∷ n.before) rest) test)
          ∙ (sym (ap (are_new (has_number all old) n.before) step) ∙ n.read);
      among = λ other. turned (bytes_eq other name) (is_among other n.before) (is_among other rest)
          ∙ (sym (ap (λ xs. is_among other n.before || is_among other xs) step) ∙ n.among other);
    }

-- what is left begins with the item at hand
pub next_of : (names : List (List ℕ)) (i : ℕ) (d : List ℕ) → i < length names
    → drop i names ≡ get_or names i d ∷ drop (i + 1) names
next_of names i d room =
    let n : suc i ≡ i + 1 = omega arith in
    drop-cons names i d room ∙ ap (λ (m : ℕ). get_or names i d ∷ drop m names) n
