-- The place of an offset is the place at which a value begins there.
use Rattle.std.proofs.Common.{◌≡◌, ℕ, zero, suc, ◌+◌, ◌≤◌, Bool, true, false, cond, eqb, List, [], ◌∷◌, ◌++◌, map}
use Rattle.std.proofs.Common.{length, Option, Some, None, refl, sym, ap, subst, ◌∙◌, inl, inr, ◌⊎◌, arith}
use Rattle.std.specs.Option.{option_map_or}
use Rattle.std.proofs.lemmas.Bool.{eqb-true, false≢true}
use Rattle.std.proofs.lemmas.Bool.Decides.{eqb_tells}
use Rattle.bson_tree.specs.Tree.{Tree, Items, leaf, node, no_items, item}
use Rattle.bson_tree.specs.Spelling.{value_bytes}
use Rattle.bson_tree.specs.Places.{start_in, start_from, start_of, places_in, places_from, places, begins_at}
use Rattle.bson_tree.specs.Places.{first_place, place_of}
use Rattle.bson_codec.proofs.Offsets.{within_from, same_place}

-- a number is itself
pub same : (n : ℕ) → eqb n n ≡ true
same n = elim (eqb_tells n n) [ inl h ↦ h.0 | inr h ↦ absurd (h.1 refl) ]

-- no value of a document begins before its first type byte and the 00 of its name
pub after_head : (is : Items) (place : List ℕ) (at : ℕ) → start_of place is ≡ Some at → 6 ≤ at
after_head is [] at e = absurd cc
after_head is (i ∷ place) at e = let inside = within_from i place 4 is at e in omega (arith, inside.from)

-- ---- places are among the places

-- one of the places is this one
abbrev Has : List ℕ → List (List ℕ) → Type 0
Has place [] = ⊥
Has place (other ∷ others) = (other ≡ place) ⊎ Has place others

has_left : (place : List ℕ) (ps qs : List (List ℕ)) → Has place ps → Has place (ps ++ qs)
has_left place [] qs h = absurd h
has_left place (p ∷ ps) qs (inl e) = inl e
has_left place (p ∷ ps) qs (inr h) = inr (has_left place ps qs h)

has_right : (place : List ℕ) (ps qs : List (List ℕ)) → Has place qs → Has place (ps ++ qs)
has_right place [] qs h = h
has_right place (p ∷ ps) qs h = inr (has_right place ps qs h)

has_below : (i : ℕ) (place : List ℕ) (ps : List (List ℕ)) → Has place ps
    → Has (i ∷ place) (map (λ (p : List ℕ). i ∷ p) ps)
has_below i place [] h = absurd h
has_below i place (p ∷ ps) (inl e) = inl (ap (λ (q : List ℕ). i ∷ q) e)
has_below i place (p ∷ ps) (inr h) = inr (has_below i place ps h)

mutual
  has_in : (place : List ℕ) (at start : ℕ) (t : Tree) → start_in place start t ≡ Some at → Has place (places_in t)
  has_in [] at start (leaf tag bytes) e = inl refl
  has_in [] at start (node tag is) e = inl refl
  has_in (i ∷ place) at start (leaf tag bytes) e = absurd cc
  has_in (i ∷ place) at start (node tag is) e =
      inr (subst (λ (n : ℕ). Has (n ∷ place) (places_from 0 is)) (omega arith) (has_from i place at 0 (start + 4) is e))

  has_from : (k : ℕ) (place : List ℕ) (at i start : ℕ) (is : Items) → start_from k place start is ≡ Some at
      → Has ((i + k) ∷ place) (places_from i is)
  has_from k place at i start no_items e = absurd cc
  has_from zero place at i start (item name t is) e =
      has_left _ (map (λ (p : List ℕ). i ∷ p) (places_in t)) (places_from (i + 1) is)
      (subst (λ (n : ℕ). Has (n ∷ place) (map (λ (p : List ℕ). i ∷ p) (places_in t))) (omega arith)
      (has_below i place (places_in t) (has_in place at (start + (2 + length name)) t e)))
  has_from (suc k) place at i start (item name t is) e =
      has_right _ (map (λ (p : List ℕ). i ∷ p) (places_in t)) (places_from (i + 1) is)
      (subst (λ (n : ℕ). Has (n ∷ place) (places_from (i + 1) is)) (omega arith)
      (has_from k place at (i + 1) (start + (2 + length name) + length (value_bytes t)) is e))

has_place : (at : ℕ) (is : Items) (place : List ℕ) → start_of place is ≡ Some at → Has place (places is)
has_place at is [] e = absurd cc
has_place at is (i ∷ place) e =
    inr (subst (λ (n : ℕ). Has (n ∷ place) (places_from 0 is)) (omega arith) (has_from i place at 0 4 is e))

-- ---- the first place that passes

passed : (test : List ℕ → Bool) (place rest : List ℕ) (b : Bool) → test place ≡ b → (b ≡ false → test rest ≡ true)
    → test (cond b place rest) ≡ true
passed test place rest true e h = e
passed test place rest false e h = h refl

first_passes : (test : List ℕ → Bool) (place : List ℕ) (ps : List (List ℕ)) → Has place ps → test place ≡ true
    → test (first_place test ps) ≡ true
first_passes test place [] h e = absurd h
first_passes test place (p ∷ ps) (inl same) e =
    passed test p (first_place test ps) (test p) refl (λ no. absurd (false≢true (sym no ∙ ap test same ∙ e)))
first_passes test place (p ∷ ps) (inr h) e = passed test p (first_place test ps) (test p) refl
    (λ _. first_passes test place ps h e)

first_of_none : (test : List ℕ → Bool) (ps : List (List ℕ)) → ((p : List ℕ) → test p ≡ false) → first_place test ps ≡ []
first_of_none test [] h = refl
first_of_none test (p ∷ ps) h = ap (λ (b : Bool). cond b p (first_place test ps)) (h p) ∙ first_of_none test ps h

begun : (at : ℕ) (o : Option ℕ) → option_map_or (λ start. eqb start at) o false ≡ true → o ≡ Some at
begun at None e = absurd cc
begun at (Some start) e = ap (λ (n : ℕ). Some n) (eqb-true start at e)

not_begun : (at : ℕ) (o : Option ℕ) (b : Bool) → option_map_or (λ start. eqb start at) o false ≡ b → (o ≡ Some at → ⊥)
    → b ≡ false
not_begun at o false e h = refl
not_begun at o true e h = absurd (h (begun at o e))

-- the place at which a value begins is the place of its offset
pub place_begun : (at : ℕ) (is : Items) (place : List ℕ) → start_of place is ≡ Some at → place_of at is ≡ place
unfolding place_of
place_begun at is place e =
    let passes : begins_at at is place ≡ true = ap (λ (o : Option ℕ). option_map_or (λ start. eqb start at) o false) e
    ∙ same at in
    let first = first_passes (begins_at at is) place (places is) (has_place at is place e) passes in
    same_place is (first_place (begins_at at is) (places is)) place at
    (begun at (start_of (first_place (begins_at at is) (places is)) is) first) e

-- the place of an offset at which no value begins is the document itself
pub place_none : (at : ℕ) (is : Items) → ((place : List ℕ) → start_of place is ≡ Some at → ⊥) → place_of at is ≡ []
unfolding place_of
place_none at is h = first_of_none (begins_at at is) (places is)
    (λ place. not_begun at (start_of place is) _ refl (h place))

-- the place of offset 0 is the document itself
pub place_of_head : (is : Items) → place_of 0 is ≡ []
place_of_head is = place_none 0 is (λ place e. let late = after_head is place 0 e in omega arith)
