-- The rules that protect the field at a path, or one around it.
use Rattle.std.proofs.Common.{◌≡◌, ◌<◌, ℕ, Bool, true, false, not, ◌&&◌, ◌||◌, List, [], ◌∷◌, ◌++◌, length}
use Rattle.std.proofs.Common.{Option, Some, None, is_some, refl, sym, ap, ap₂, ◌∙◌, arith, ⊎_elim}
use mathlib.Core.Bool.{false≢true}
use Rattle.std.proofs.lemmas.Bool.{and_parts, or_cases, or_left, or_right}
use Rattle.encrypt_schema.specs.Language.Names.{named, is_among}
use Rattle.encrypt_schema.specs.Language.Row.{Row, paths}
use Rattle.encrypt_schema.specs.Paths.Classes.{is_same_path, is_prefix, goes_by, ends_at, begins_at, matches}
use Rattle.encrypt_schema.specs.Paths.Classes.{covers_row, matched, covers, leads}
use Rattle.encrypt_schema.specs.Views.Matches.{is_exact, is_other, exact, other, lesser, is_beside}
use Rattle.encrypt_schema.proofs.Paths.Firsts.{first_below, first_either, meets, found_by, none_meets}
use Rattle.encrypt_schema.proofs.Paths.Paths.{named_turn, path_prefix, spread_and, or_swap}

-- tests on truth values
or_nothing : (b : Bool) → b ≡ (b || false)
or_nothing true = refl
or_nothing false = refl

and_nothing : (a : Bool) → (a && false) ≡ false
and_nothing true = refl
and_nothing false = refl

and_turn : (a b c : Bool) → (a && (b && c)) ≡ ((a && b) && c)
and_turn true b c = refl
and_turn false b c = refl

pub matched_below : (path : List (List ℕ)) (rows : List Row) (j : ℕ) → matched path rows ≡ Some j → j < length rows
matched_below path rows j e =
    let less = first_below (λ (row : Row). matches row path) 0 rows j e in omega (arith, less)

by_kind : (a m : Bool) → m ≡ ((not a && m) || (a && m))
by_kind true m = refl
by_kind false m = or_nothing m

-- the first rule is the first of one field's, or the first of all others'
pub matched_either : (path : List (List ℕ)) (rows : List Row) → matched path rows ≡ lesser (exact path rows)
    (other path rows)
matched_either path rows = first_either (is_exact path) (is_other path) (λ (row : Row). matches row path)
    (λ row. by_kind (is_some row.others) (matches row path)) 0 rows

-- rules of one field
goes_exact : (r q : List (List ℕ)) → goes_by (ends_at None) r q ≡ is_same_path q r
goes_exact [] [] = refl
goes_exact [] (y ∷ q) = refl
goes_exact (x ∷ r) [] = refl
goes_exact (x ∷ r) (y ∷ q) = ap₂ (λ (a b : Bool). a && b) (named_turn x y) (goes_exact r q)

-- rules of all fields but listed ones
goes_nil : (o : Option (List (List ℕ))) (r : List (List ℕ)) → goes_by (ends_at o) r [] ≡ goes_by (begins_at o) r []
goes_nil None [] = refl
goes_nil (Some listed) [] = refl
goes_nil None (x ∷ r) = refl
goes_nil (Some listed) (x ∷ r) = refl

goes_none : (listed r : List (List ℕ)) → goes_by (ends_at (Some listed)) r [] ≡ false
goes_none listed [] = refl
goes_none listed (x ∷ r) = refl

goes_other : (listed r q : List (List ℕ)) (n : List ℕ)
    → goes_by (ends_at (Some listed)) r (q ++ n ∷ []) ≡ (is_same_path q r && not (is_among n listed))
goes_other listed [] [] n = refl
goes_other listed [] (y ∷ []) n = refl
goes_other listed [] (y ∷ z ∷ q) n = refl
goes_other listed (x ∷ r) [] n = ap (λ (b : Bool). named x n && b) (goes_none listed r) ∙ and_nothing (named x n)
goes_other listed (x ∷ r) (y ∷ q) n =
    ap₂ (λ (a b : Bool). a && b) (named_turn x y) (goes_other listed r q n)
    ∙ and_turn (named y x) (is_same_path q r) (not (is_among n listed))

-- of one rule, by its kind
pub exact_test : (o : Option (List (List ℕ))) (r q : List (List ℕ))
    → (not (is_some o) && goes_by (ends_at o) r q) ≡ (is_same_path q r && not (is_some o))
exact_test None r q = goes_exact r q ∙ and_all (is_same_path q r) where
  and_all : (a : Bool) → a ≡ (a && true)
  and_all true = refl
  and_all false = refl
exact_test (Some listed) r q = sym (and_nothing (is_same_path q r))

pub other_test : (o : Option (List (List ℕ))) (r q : List (List ℕ)) (n : List ℕ)
    → (is_some o && goes_by (ends_at o) r (q ++ n ∷ [])) ≡ (is_same_path q r && is_beside o n)
other_test None r q n = sym (and_nothing (is_same_path q r))
other_test (Some listed) r q n = goes_other listed r q n

-- what a name more covers
covers_one : (o : Option (List (List ℕ))) (q : List (List ℕ)) (n : List ℕ)
    → begins_at o (q ++ n ∷ []) ≡ (begins_at o q || ends_at o (q ++ n ∷ []))
covers_one None q n = refl
covers_one (Some listed) [] n = refl
covers_one (Some listed) (y ∷ []) n = or_nothing (not (is_among y listed))
covers_one (Some listed) (y ∷ z ∷ q) n = or_nothing (not (is_among y listed))

covers_step : (o : Option (List (List ℕ))) (r q : List (List ℕ)) (n : List ℕ) → goes_by (begins_at o) r (q ++ n ∷ [])
    ≡ (goes_by (begins_at o) r q || goes_by (ends_at o) r (q ++ n ∷ []))
covers_step o [] q n = covers_one o q n
covers_step o (x ∷ r) [] n = ap (λ (b : Bool). named x n && b) (sym (goes_nil o r))
covers_step o (x ∷ r) (y ∷ q) n = ap (λ (b : Bool). named x y && b) (covers_step o r q n)
    ∙ spread_and (named x y) (goes_by (begins_at o) r q) (goes_by (ends_at o) r (q ++ n ∷ []))

covers_meets : (q : List (List ℕ)) (n : List ℕ) (rows : List Row)
    → covers (q ++ n ∷ []) rows ≡ (covers q rows || meets (λ row. matches row (q ++ n ∷ [])) rows)
covers_meets q n [] = refl
covers_meets q n (row ∷ rows) =
    ap₂ (λ (a b : Bool). a || b) (covers_step row.others row.path q n) (covers_meets q n rows)
    ∙ or_swap (covers_row row q) (matches row (q ++ n ∷ [])) (covers q rows)
    (meets (λ r. matches r (q ++ n ∷ [])) rows)

pub covers_push : (q : List (List ℕ)) (n : List ℕ) (rows : List Row)
    → covers (q ++ n ∷ []) rows ≡ (covers q rows || is_some (matched (q ++ n ∷ []) rows))
covers_push q n rows = covers_meets q n rows
    ∙ ap (λ (b : Bool). covers q rows || b) (sym (found_by (λ (row : Row). matches row (q ++ n ∷ [])) 0 rows))

-- what protects the field at a path covers it
ends_begins : (o : Option (List (List ℕ))) (q : List (List ℕ)) → ends_at o q ≡ true → begins_at o q ≡ true
ends_begins None q e = refl
ends_begins (Some listed) [] e = e
ends_begins (Some listed) (x ∷ []) e = e
ends_begins (Some listed) (x ∷ y ∷ q) e = absurd (false≢true e)

pub goes_on : (o : Option (List (List ℕ))) (r q : List (List ℕ)) → goes_by (ends_at o) r q ≡ true
    → goes_by (begins_at o) r q ≡ true
goes_on o [] q e = ends_begins o q e
goes_on o (x ∷ r) [] e = e
goes_on o (x ∷ r) (y ∷ q) e = and_on (named x y) (goes_by (ends_at o) r q) (goes_by (begins_at o) r q)
    (goes_on o r q) e where
      and_on : (a b c : Bool) → (b ≡ true → c ≡ true) → (a && b) ≡ true → (a && c) ≡ true
      and_on true b c h e = h e
      and_on false b c h e = e

meets_covers : (p : List (List ℕ)) (rows : List Row) → meets (is_other p) rows ≡ true → covers p rows ≡ true
meets_covers p [] e = e
meets_covers p (row ∷ rows) e =
    ⊎_elim
    (λ (h : is_other p row ≡ true). or_left (covers_row row p) (covers p rows)
    (goes_on row.others row.path p (and_parts (is_some row.others) (matches row p) h).1))
    (λ (h : meets (is_other p) rows ≡ true). or_right (covers_row row p) (covers p rows) (meets_covers p rows h))
    (or_cases (is_other p row) (meets (is_other p) rows) e)

pub other_covers : (p : List (List ℕ)) (rows : List Row) (i : ℕ) → other p rows ≡ Some i → covers p rows ≡ true
other_covers p rows i e = meets_covers p rows (sym (found_by (is_other p) 0 rows) ∙ ap is_some e)

pub uncovered_other : (p : List (List ℕ)) (rows : List Row) → covers p rows ≡ false → other p rows ≡ None
uncovered_other p rows e = none_meets (is_other p) rows (λ t. false≢true (sym e ∙ meets_covers p rows t))

-- what protects the field at a path has its front on the names that lead to rules
exact_prefix : (o : Option (List (List ℕ))) (r q : List (List ℕ))
    → (not (is_some o) && goes_by (ends_at o) r q) ≡ true → is_prefix q r ≡ true
exact_prefix o r q e = path_prefix q r
    (and_parts (is_same_path q r) (not (is_some o)) (sym (exact_test o r q) ∙ e)).0

exact_meets : (p : List (List ℕ)) (rows : List Row) → meets (is_exact p) rows ≡ true → leads p (paths rows) ≡ true
exact_meets p [] e = e
exact_meets p (row ∷ rows) e =
    ⊎_elim
    (λ (h : is_exact p row ≡ true). or_left (is_prefix p row.path) (leads p (paths rows))
    (exact_prefix row.others row.path p h))
    (λ (h : meets (is_exact p) rows ≡ true). or_right (is_prefix p row.path) (leads p (paths rows))
    (exact_meets p rows h))
    (or_cases (is_exact p row) (meets (is_exact p) rows) e)

pub unled_exact : (p : List (List ℕ)) (rows : List Row) → leads p (paths rows) ≡ false → exact p rows ≡ None
unled_exact p rows e = none_meets (is_exact p) rows (λ t. false≢true (sym e ∙ exact_meets p rows t))

other_prefix : (o : Option (List (List ℕ))) (r q : List (List ℕ)) (n : List ℕ)
    → (is_some o && goes_by (ends_at o) r (q ++ n ∷ [])) ≡ true → is_prefix q r ≡ true
other_prefix o r q n e = path_prefix q r
    (and_parts (is_same_path q r) (is_beside o n) (sym (other_test o r q n) ∙ e)).0

other_meets : (p : List (List ℕ)) (n : List ℕ) (rows : List Row) → meets (is_other (p ++ n ∷ [])) rows ≡ true
    → leads p (paths rows) ≡ true
other_meets p n [] e = e
other_meets p n (row ∷ rows) e =
    ⊎_elim
    (λ (h : is_other (p ++ n ∷ []) row ≡ true). or_left (is_prefix p row.path) (leads p (paths rows))
    (other_prefix row.others row.path p n h))
    (λ (h : meets (is_other (p ++ n ∷ [])) rows ≡ true). or_right (is_prefix p row.path) (leads p (paths rows))
    (other_meets p n rows h))
    (or_cases (is_other (p ++ n ∷ []) row) (meets (is_other (p ++ n ∷ [])) rows) e)

pub unled_other : (p : List (List ℕ)) (n : List ℕ) (rows : List Row) → leads p (paths rows) ≡ false
    → other (p ++ n ∷ []) rows ≡ None
unled_other p n rows e = none_meets (is_other (p ++ n ∷ [])) rows (λ t. false≢true (sym e ∙ other_meets p n rows t))

-- off the names that lead to rules only those of all fields but listed ones are left
pub unled_matched : (p : List (List ℕ)) (rows : List Row) → leads p (paths rows) ≡ false
    → matched p rows ≡ other p rows
unled_matched p rows e = matched_either p rows ∙ ap (λ (o : Option ℕ). lesser o (other p rows)) (unled_exact p rows e)

-- the empty path
pub other_nil : (rows : List Row) → other [] rows ≡ None
other_nil rows = none_meets (is_other []) rows (none rows) where
  none_of : (o : Option (List (List ℕ))) (r : List (List ℕ)) → (is_some o && goes_by (ends_at o) r []) ≡ false
  none_of None r = refl
  none_of (Some listed) r = goes_none listed r

  none : (rows : List Row) → meets (is_other []) rows ≡ true → ⊥
  none [] e = false≢true e
  none (row ∷ rows) e =
      ⊎_elim
      (λ (h : is_other [] row ≡ true). false≢true (sym (none_of row.others row.path) ∙ h))
      (λ (h : meets (is_other []) rows ≡ true). none rows h)
      (or_cases (is_other [] row) (meets (is_other []) rows) e)

pub covers_nil : (rows : List Row) → covers [] rows ≡ is_some (exact [] rows)
covers_nil rows = all rows ∙ sym (found_by (is_exact []) 0 rows) where
  one : (o : Option (List (List ℕ))) (r : List (List ℕ))
      → goes_by (begins_at o) r [] ≡ (not (is_some o) && goes_by (ends_at o) r [])
  one None r = sym (goes_nil None r)
  one (Some listed) r = sym (goes_nil (Some listed) r) ∙ goes_none listed r

  all : (rows : List Row) → covers [] rows ≡ meets (is_exact []) rows
  all [] = refl
  all (row ∷ rows) = ap₂ (λ (a b : Bool). a || b) (one row.others row.path) (all rows)
