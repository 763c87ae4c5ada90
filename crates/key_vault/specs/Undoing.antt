-- Numbers of texts that are taken back, for want of memory in the midst of a key or for a fault of it
use Rattle.std.specs.Prelude.{◌≡◌, ◌==◌, ℕ, Bool, nat_lt, List, Option, Some, None, bytes_eq, if◌then◌else◌}
use Rattle.std.specs.List.{list_any}
use Rattle.bson_tree.specs.NameNumbers.{hash_of, number_of_name}
use Rattle.key_vault.specs.declared.numbers.Numbers.{Numbers}
use Rattle.key_vault.specs.declared.place.Place.{Place}
use Rattle.key_vault.specs.Numbers.{first_of}

-- a place among the keys before this number
abbrev pub place_below : ℕ → Option Place → Option Place
place_below n None = None
place_below n (Some place) = if nat_lt place.key n then Some place else None

-- a number before this one
abbrev pub number_below : ℕ → Option ℕ → Option ℕ
number_below n None = None
number_below n (Some m) = if nat_lt m n then Some m else None

-- one of these texts has this hash
abbrev pub has_hash : List (List ℕ) → ℕ → Bool
has_hash texts hash = list_any (λ text. hash_of text == hash) texts

-- it is one of these texts
abbrev pub has_text : List (List ℕ) → List ℕ → Bool
has_text texts other = list_any (λ text. bytes_eq text other) texts

-- the place of the first text of a hash, once what these texts have from number n on is taken back
abbrev pub first_back : ℕ → List (List ℕ) → Numbers → ℕ → Option Place
first_back n texts numbers hash =
    if has_hash texts hash then place_below n (first_of numbers.firsts hash) else first_of numbers.firsts hash

-- the number of another text, once what these texts have from number n on is taken back
abbrev pub number_back : ℕ → List (List ℕ) → Numbers → List ℕ → Option ℕ
number_back n texts numbers text =
    if has_text texts text then number_below n (number_of_name numbers.others text)
    else number_of_name numbers.others text

-- what these texts have from number n on was taken back
pub record TakesBack (n : ℕ) (texts : List (List ℕ)) (old now : Numbers) : Type 0 where
  pub firsts : (hash : ℕ) → first_of now.firsts hash ≡ first_back n texts old hash
  pub others : (text : List ℕ) → number_of_name now.others text ≡ number_back n texts old text

-- nothing else has changed: both are the same once what these texts have from number n on is taken back
pub record ChangesOnly (n : ℕ) (texts : List (List ℕ)) (old now : Numbers) : Type 0 where
  pub firsts : (hash : ℕ) → first_back n texts now hash ≡ first_back n texts old hash
  pub others : (text : List ℕ) → number_back n texts now text ≡ number_back n texts old text
