-- Paths compared name by name: equal ones, prefixes, and paths with one name more.
use Rattle.std.proofs.Common.{◌≡◌, ℕ, ◌+◌, Bool, true, false, cond, ◌&&◌, ◌||◌, List, [], ◌∷◌, ◌++◌, Option, Some}
use Rattle.std.proofs.Common.{suc, length}
use Rattle.std.proofs.Common.{is_some, refl, sym, ap, ap₂, ◌∙◌, bytes_eq, ⊎_elim}
use mathlib.Core.Bool.{false≢true}
use Rattle.std.specs.Cmp.Lexicographic.{bytes_decides, nat_list_eq_equiv}
use Rattle.std.proofs.lemmas.Bool.{and_parts, and_from, or_cases, or_left, or_right}
use Rattle.encrypt_schema.specs.Language.Names.{named}
use Rattle.encrypt_schema.specs.Paths.Classes.{is_same_path, is_prefix, number_of, leads}

pub named_is : (x y : List ℕ) → named x y ≡ bytes_eq x y
unfolding named
named_is x y = refl

pub named_self : (x : List ℕ) → named x x ≡ true
named_self x = named_is x x ∙ nat_list_eq_equiv.refl x

pub named_same : (x y : List ℕ) → named x y ≡ true → x ≡ y
named_same x y e = (bytes_decides x y).0 (sym (named_is x y) ∙ e)

pub named_turn : (x y : List ℕ) → named x y ≡ named y x
named_turn x y = named_is x y ∙ nat_list_eq_equiv.symm x y ∙ sym (named_is y x)

-- tests on truth values
pub spread_and : (a b c : Bool) → (a && (b || c)) ≡ ((a && b) || (a && c))
spread_and true b c = refl
spread_and false b c = refl

pub or_swap : (a b c d : Bool) → ((a || b) || (c || d)) ≡ ((a || c) || (b || d))
or_swap true b c d = refl
or_swap false true true d = refl
or_swap false true false d = refl
or_swap false false true d = refl
or_swap false false false d = refl

-- equal paths
pub path_same : (p q : List (List ℕ)) → is_same_path p q ≡ true → p ≡ q
path_same [] [] e = refl
path_same [] (y ∷ q) e = absurd (false≢true e)
path_same (x ∷ p) [] e = absurd (false≢true e)
path_same (x ∷ p) (y ∷ q) e = let h = and_parts (named x y) (is_same_path p q) e in ap₂
    (λ (n : List ℕ) (r : List (List ℕ)). n ∷ r) (named_same x y h.0) (path_same p q h.1)

pub path_self : (p : List (List ℕ)) → is_same_path p p ≡ true
path_self [] = refl
path_self (x ∷ p) = and_from (named x x) (is_same_path p p) (named_self x) (path_self p)

pub path_prefix : (p q : List (List ℕ)) → is_same_path p q ≡ true → is_prefix p q ≡ true
path_prefix [] q e = refl
path_prefix (x ∷ p) [] e = e
path_prefix (x ∷ p) (y ∷ q) e = let h = and_parts (named x y) (is_same_path p q) e in and_from (named x y)
    (is_prefix p q) h.0 (path_prefix p q h.1)

and_nothing : (a : Bool) → (a && false) ≡ false
and_nothing true = refl
and_nothing false = refl

-- a path isn't the same with a name more
pub path_longer : (p : List (List ℕ)) (n : List ℕ) → is_same_path (p ++ n ∷ []) p ≡ false
path_longer [] n = refl
path_longer (x ∷ p) n = ap (λ (b : Bool). named x x && b) (path_longer p n) ∙ and_nothing (named x x)

prefix_front : (p : List (List ℕ)) (n : List ℕ) (r : List (List ℕ)) → is_prefix (p ++ n ∷ []) r ≡ true
    → is_prefix p r ≡ true
prefix_front [] n r e = refl
prefix_front (x ∷ p) n [] e = e
prefix_front (x ∷ p) n (y ∷ r) e = let h = and_parts (named x y) (is_prefix (p ++ n ∷ []) r) e in and_from (named x y)
    (is_prefix p r) h.0 (prefix_front p n r h.1)

-- the path is one of these
abbrev pub among : List (List ℕ) → List (List (List ℕ)) → Bool
among q [] = false
among q (p ∷ ps) = is_same_path q p || among q ps

pub some_if : (b : Bool) (k : ℕ) (o : Option ℕ) (a : Bool) → is_some o ≡ a → is_some (cond b (Some k) o) ≡ (b || a)
some_if true k o a e = refl
some_if false k o a e = e

pub found_is : (k : ℕ) (q : List (List ℕ)) (ps : List (List (List ℕ))) → is_some (number_of k q ps) ≡ among q ps
found_is k q [] = refl
found_is k q (p ∷ ps) = some_if (is_same_path q p) k (number_of (k + 1) q ps) (among q ps) (found_is (k + 1) q ps)

pub some_among : (q : List (List ℕ)) (ps : List (List (List ℕ))) (i : ℕ) → number_of 0 q ps ≡ Some i → among q ps ≡ true
some_among q ps i e = sym (found_is 0 q ps) ∙ ap is_some e

-- what a name more changes
pub leads_front : (p : List (List ℕ)) (n : List ℕ) (rs : List (List (List ℕ))) → leads (p ++ n ∷ []) rs ≡ true
    → leads p rs ≡ true
leads_front p n [] e = e
leads_front p n (r ∷ rs) e =
    ⊎_elim
    (λ (h : is_prefix (p ++ n ∷ []) r ≡ true). or_left (is_prefix p r) (leads p rs) (prefix_front p n r h))
    (λ (h : leads (p ++ n ∷ []) rs ≡ true). or_right (is_prefix p r) (leads p rs) (leads_front p n rs h))
    (or_cases (is_prefix (p ++ n ∷ []) r) (leads (p ++ n ∷ []) rs) e)

-- paths of other lengths are others
pub other_length : (p q : List (List ℕ)) → (length p ≡ length q → ⊥) → is_same_path p q ≡ false
other_length [] [] h = absurd (h refl)
other_length [] (y ∷ q) h = refl
other_length (x ∷ p) [] h = refl
other_length (x ∷ p) (y ∷ q) h =
    ap (λ (b : Bool). named x y && b) (other_length p q (λ e. h (ap suc e)))
    ∙ and_nothing (named x y)
