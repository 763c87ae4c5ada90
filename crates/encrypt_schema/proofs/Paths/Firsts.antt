-- The first rule of which a test holds.
use Rattle.std.proofs.Common.{◌≡◌, ◌<◌, ◌≤◌, ℕ, ◌+◌, Bool, true, false, cond, ◌||◌, List, [], ◌∷◌, ◌++◌, length}
use Rattle.std.proofs.Common.{nat_lt, Option, Some, None, is_some, refl, sym, ap, ap₂, ◌∙◌, arith}
use Rattle.std.proofs.lemmas.Bool.{lt-ltb, le-ltb}
use Rattle.encrypt_schema.specs.Language.Row.{Row}
use Rattle.encrypt_schema.specs.Paths.Classes.{first_by}
use Rattle.encrypt_schema.specs.Views.Matches.{lesser}
use Rattle.bson_tree.specs.NameNumbers.{or_number}
use Rattle.encrypt_schema.proofs.Paths.Paths.{some_if}
use Rattle.encrypt_schema.proofs.Paths.Numbers.{some_is, none_some, push_by, push_here}

pub none_by : (o : Option ℕ) → (is_some o ≡ true → ⊥) → o ≡ None
none_by None h = refl
none_by (Some i) h = absurd (h refl)

-- a rule more behind the others
first_from : (test : Row → Bool) (k : ℕ) (rows : List Row) (row : Row)
    → first_by test k (rows ++ row ∷ []) ≡ or_number (first_by test k rows) (test row) (k + length rows)
first_from test k [] row = push_here k (test row)
first_from test k (r ∷ rows) row =
    let same : (k + 1) + length rows ≡ k + length (r ∷ rows) = omega arith in
    push_by k ((k + 1) + length rows) (k + length (r ∷ rows)) (first_by test (k + 1) rows)
    (first_by test (k + 1) (rows ++ row ∷ []))
    (test r) (test row) (first_from test (k + 1) rows row) same

pub first_push : (test : Row → Bool) (rows : List Row) (row : Row)
    → first_by test 0 (rows ++ row ∷ []) ≡ or_number (first_by test 0 rows) (test row) (length rows)
first_push test rows row =
    let same : 0 + length rows ≡ length rows = omega arith in
    first_from test 0 rows row ∙ ap (or_number (first_by test 0 rows) (test row)) same

-- what is counted from k on
least_by : (b : Bool) (k j : ℕ) (o : Option ℕ) → (o ≡ Some j → k + 1 ≤ j) → cond b (Some k) o ≡ Some j → k ≤ j
least_by true k j o h e = let same = some_is k j e in omega (arith, same)
least_by false k j o h e = let more = h e in omega (arith, more)

first_least : (test : Row → Bool) (k : ℕ) (rows : List Row) (j : ℕ) → first_by test k rows ≡ Some j → k ≤ j
first_least test k [] j e = absurd (none_some j e)
first_least test k (r ∷ rows) j e =
    least_by (test r) k j (first_by test (k + 1) rows) (first_least test (k + 1) rows j) e

below_by : (b : Bool) (k n j : ℕ) (o : Option ℕ) → (o ≡ Some j → j < (k + 1) + n) → cond b (Some k) o ≡ Some j
    → j < k + (n + 1)
below_by true k n j o h e = let same = some_is k j e in omega (arith, same)
below_by false k n j o h e = let less = h e in omega (arith, less)

pub first_below : (test : Row → Bool) (k : ℕ) (rows : List Row) (j : ℕ) → first_by test k rows ≡ Some j
    → j < k + length rows
first_below test k [] j e = absurd (none_some j e)
first_below test k (r ∷ rows) j e =
    let less = below_by (test r) k (length rows) j (first_by test (k + 1) rows) (first_below test (k + 1) rows j) e in
    omega (arith, less)

-- the first of which one of two tests holds
same_either : (b : Bool) (k : ℕ) → Some k ≡ cond b (Some k) (Some k)
same_either true k = refl
same_either false k = refl

earlier : (j k : ℕ) → k + 1 ≤ j → Some k ≡ cond (nat_lt j k) (Some j) (Some k)
earlier j k more = ap (λ (b : Bool). cond b (Some j) (Some k)) (sym (le-ltb j k (omega (arith, more))))

later : (k i : ℕ) → k + 1 ≤ i → Some k ≡ cond (nat_lt k i) (Some k) (Some i)
later k i more = ap (λ (b : Bool). cond b (Some k) (Some i)) (sym (lt-ltb k i (omega (arith, more))))

either_by : (b c : Bool) (k : ℕ) (o p : Option ℕ) → ((j : ℕ) → o ≡ Some j → k + 1 ≤ j)
    → ((j : ℕ) → p ≡ Some j → k + 1 ≤ j)
    → cond (b || c) (Some k) (lesser o p) ≡ lesser (cond b (Some k) o) (cond c (Some k) p)
either_by true true k o p f g = same_either (nat_lt k k) k
either_by true false k o None f g = refl
either_by true false k o (Some j) f g = earlier j k (g j refl)
either_by false true k None p f g = refl
either_by false true k (Some i) p f g = later k i (f i refl)
either_by false false k o p f g = refl

pub first_either : (f g h : Row → Bool) → ((row : Row) → h row ≡ (f row || g row)) → (k : ℕ) (rows : List Row)
    → first_by h k rows ≡ lesser (first_by f k rows) (first_by g k rows)
first_either f g h same k [] = refl
first_either f g h same k (r ∷ rows) =
    ap₂ (λ (b : Bool) (o : Option ℕ). cond b (Some k) o) (same r) (first_either f g h same (k + 1) rows)
    ∙ either_by (f r) (g r) k (first_by f (k + 1) rows) (first_by g (k + 1) rows)
    (first_least f (k + 1) rows) (first_least g (k + 1) rows)

pub some_lesser : (o p : Option ℕ) → is_some (lesser o p) ≡ (is_some o || is_some p)
some_lesser None p = refl
some_lesser (Some i) None = refl
some_lesser (Some i) (Some j) = by_test (nat_lt j i) where
  by_test : (b : Bool) → is_some (cond b (Some j) (Some i)) ≡ true
  by_test true = refl
  by_test false = refl

-- a test holds of some rule
abbrev pub meets : (Row → Bool) → List Row → Bool
meets test [] = false
meets test (row ∷ rows) = test row || meets test rows

pub found_by : (test : Row → Bool) (k : ℕ) (rows : List Row) → is_some (first_by test k rows) ≡ meets test rows
found_by test k [] = refl
found_by test k (r ∷ rows) = some_if (test r) k (first_by test (k + 1) rows) (meets test rows)
    (found_by test (k + 1) rows)

-- where a test holds of no rule there is no first
pub none_meets : (test : Row → Bool) (rows : List Row) → (meets test rows ≡ true → ⊥) → first_by test 0 rows ≡ None
none_meets test rows h = none_by (first_by test 0 rows) (λ t. h (sym (found_by test 0 rows) ∙ t))
