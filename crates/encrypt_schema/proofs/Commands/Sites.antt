-- Two commands with equal blanks have the same protected places, with the same rules and roles.
use Rattle.std.proofs.Common.{◌≡◌, ℕ, ◌+◌, Bool, true, false, cond, List, [], ◌∷◌, ◌++◌, length, map, Option, Some}
use Rattle.std.proofs.Common.{None, refl, sym, ap, ◌∙◌}
use Rattle.std.specs.Prelude.{flat_map, option_map}
use Rattle.std.specs.Option.{option_map_or}
use Rattle.std.proofs.lemmas.Bool.{false≢true}
use Rattle.std.proofs.lemmas.List.{length-map, map-append}
use Rattle.std.proofs.lemmas.List.Folds.{flat_map-map}
use Rattle.std.proofs.lemmas.Grind.{flat_map-append}
use Rattle.bson_tree.specs.Tree.{Tree, leaf, node, Items, no_items, item}
use Rattle.bson_tree.specs.Places.{places_in, places_from, places}
use Rattle.bson_tree.specs.Spelling.{value_bytes}
use Rattle.encrypt_schema.specs.Language.Row.{Row}
use Rattle.encrypt_schema.specs.Commands.Stations.{Station, Outside, Store, Compare, Passed, station, has_role}
use Rattle.encrypt_schema.specs.Commands.Stations.{is_silent}
use Rattle.encrypt_schema.specs.Commands.Pointers.{Targets, pointed}
use Rattle.encrypt_schema.specs.Commands.Visits.{entry, command_entry, Visit, visit, command_visit, station_of, mark_at}
use Rattle.encrypt_schema.specs.Commands.Visits.{roles}
use Rattle.encrypt_schema.specs.Commands.Skeletons.{Skeleton, hole, plain, branch, Skeletons, no_more, more, blank_hole}
use Rattle.encrypt_schema.specs.Commands.Skeletons.{blank_in, blanks, blank}
use Rattle.encrypt_schema.specs.Commands.Chains.{Site, site_at, site_of, sites, visit_at, mark_of, use_of_mark}
use Rattle.encrypt_schema.specs.Commands.Chains.{use_of_site}
use Rattle.encrypt_schema.proofs.Commands.Tables.{command_without_role}
use Rattle.encrypt_schema.proofs.Commands.Widths.{entry_in}
use Rattle.encrypt_schema.proofs.Commands.Silence.{child_passed, role_silent}
use Rattle.encrypt_schema.proofs.Commands.Blanks.{names_blank, station_blank}
use Rattle.encrypt_schema.proofs.Commands.ByPlace.{station_read, next, visit_from, visit_below, places_next, below_next}
use Rattle.encrypt_schema.proofs.Commands.ByPlace.{visit_at_below, roles_by_place}

-- sites below a first element, and behind it
abbrev pub site_first : Site → Site
site_first x = record x { place = 0 ∷ x.place }

-- the same behind the first element
abbrev pub site_next : Site → Site
site_next x = record x { place = next x.place }

abbrev mutual
  pub sites_in : List Row → Station → Tree → List Site
  sites_in rows s (leaf tag bytes) = []
  sites_in rows s (node tag is) = sites_below rows s is

  -- the protected places among elements whose parent is this, and below them
  pub sites_below : List Row → Station → Items → List Site
  sites_below rows s no_items = []
  sites_below rows s (item name t is) =
      (site_at (0 ∷ []) (station rows s (entry name t))
      ++ map site_first (sites_in rows (station rows s (entry name t)) t)) ++ map site_next (sites_below rows s is)

-- the same, read from blanks
abbrev mutual
  pub told_in : List Row → Station → Skeleton → List Site
  told_in rows s (hole tag width payload) = []
  told_in rows s (plain tag bytes) = []
  told_in rows s (branch tag ks) = told_below rows s ks

  pub told_below : List Row → Station → Skeletons → List Site
  told_below rows s no_more = []
  told_below rows s (more name k ks) =
      (site_at (0 ∷ []) (station rows s (entry_in name k))
      ++ map site_first (told_in rows (station rows s (entry_in name k)) k)) ++ map site_next (told_below rows s ks)

told_item : (rows : List Row) (s : Station) (name : List ℕ) (t : Tree) (is : Items)
    → sites_in rows (station rows s (entry name t)) t
    ≡ told_in rows (station rows s (entry name t)) (blank_in rows (station rows s (entry name t)) t)
    → sites_below rows s is ≡ told_below rows s (blanks rows s is)
    → sites_below rows s (item name t is) ≡ told_below rows s (blanks rows s (item name t is))
told_item rows s name t is p q =
    let u = station rows s (entry name t) in
    let k = blank_in rows u t in
    let a : (site_at (0 ∷ []) u ++ map site_first (sites_in rows u t))
    ≡ (site_at (0 ∷ []) u ++ map site_first (told_in rows u k))
    = ap (λ (xs : List Site). site_at (0 ∷ []) u ++ map site_first xs) p in
    let b : (site_at (0 ∷ []) u ++ map site_first (told_in rows u k))
    ≡ (site_at (0 ∷ []) (station rows s (entry_in name k))
    ++ map site_first (told_in rows (station rows s (entry_in name k)) k))
    = ap (λ (x : Station). site_at (0 ∷ []) x ++ map site_first (told_in rows x k)) (station_blank rows s name t) in
    ap (λ (xs : List Site). xs ++ map site_next (sites_below rows s is)) (a ∙ b)
    ∙ ap (λ (ys : List Site). (site_at (0 ∷ []) (station rows s (entry_in name k))
    ++ map site_first (told_in rows (station rows s (entry_in name k)) k)) ++ map site_next ys) q

silent_item : (rows : List Row) (s u : Station) (name : List ℕ) (t : Tree) (is : Items)
    → station rows s (entry name t) ≡ u → site_at (0 ∷ []) u ≡ []
    → sites_in rows (station rows s (entry name t)) t ≡ [] → sites_below rows s is ≡ []
    → sites_below rows s (item name t is) ≡ []
silent_item rows s u name t is e n p q =
    let a : site_at (0 ∷ []) (station rows s (entry name t)) ≡ [] = ap (site_at (0 ∷ [])) e ∙ n in
    ap (λ (xs : List Site). (xs ++ map site_first (sites_in rows (station rows s (entry name t)) t))
    ++ map site_next (sites_below rows s is)) a
    ∙ (ap (λ (xs : List Site). map site_first xs ++ map site_next (sites_below rows s is)) p ∙ ap (map site_next) q)

-- no site is inside a value that isn't looked into
mutual
  silent_in : (rows : List Row) (s : Station) (t : Tree) → is_silent s ≡ true → sites_in rows s t ≡ []
  silent_in rows s (leaf tag bytes) h = refl
  silent_in rows s (node tag is) h = silent_below rows s is h

  silent_below : (rows : List Row) (s : Station) (is : Items) → is_silent s ≡ true
      → sites_below rows s is ≡ []
  silent_below rows s no_items h = refl
  silent_below rows s (item name t is) h =
      silent_item rows s Passed name t is (child_passed rows s (entry name t) h) refl
      (silent_in rows (station rows s (entry name t)) t (ap is_silent (child_passed rows s (entry name t) h)))
      (silent_below rows s is h)

told_node : (rows : List Row) (u : Station) (tag : ℕ) (is : Items) (b : Bool) → has_role u ≡ b
    → sites_below rows u is ≡ told_below rows u (blanks rows u is)
    → sites_below rows u is ≡ told_in rows u (cond b blank_hole (branch tag (blanks rows u is)))
told_node rows u tag is true h p = silent_below rows u is (role_silent u h)
told_node rows u tag is false h p = p

told_leaf : (rows : List Row) (u : Station) (tag : ℕ) (bytes : List ℕ)
    → [] ≡ told_in rows u (blank_in rows u (leaf tag bytes))
told_leaf rows u tag bytes =
    elim (has_role u) as (λ b. [] ≡ told_in rows u (cond b blank_hole (plain tag bytes))) [ true ↦ refl | false ↦ refl ]

-- the sites are told by the blanks
mutual
  sites_told_in : (rows : List Row) (u : Station) (t : Tree)
      → sites_in rows u t ≡ told_in rows u (blank_in rows u t)
  sites_told_in rows u (leaf tag bytes) = told_leaf rows u tag bytes
  sites_told_in rows u (node tag is) = told_node rows u tag is (has_role u) refl (sites_told rows u is)

  sites_told : (rows : List Row) (s : Station) (is : Items)
      → sites_below rows s is ≡ told_below rows s (blanks rows s is)
  sites_told rows s no_items = refl
  sites_told rows s (item name t is) =
      told_item rows s name t is (sites_told_in rows (station rows s (entry name t)) t) (sites_told rows s is)

-- the sites are those of `places`

flat_same : {A B : Type 0} (f g : A → List B) (xs : List A) → ((x : A) → f x ≡ g x)
    → flat_map f xs ≡ flat_map g xs
flat_same f g [] e = refl
flat_same {B = B} f g (x ∷ xs) e =
    ap (λ (ys : List B). ys ++ flat_map f xs) (e x) ∙ ap (λ (ys : List B). g x ++ ys) (flat_same f g xs e)

map_flat : {A B C : Type 0} (g : B → C) (f : A → List B) (xs : List A)
    → flat_map (λ x. map g (f x)) xs ≡ map g (flat_map f xs)
map_flat g f [] = refl
map_flat {C = C} g f (x ∷ xs) =
    ap (λ (ys : List C). map g (f x) ++ ys) (map_flat g f xs) ∙ sym (map-append g (f x) (flat_map f xs))

-- the site of a place that was read, or none
abbrev pub site_visit : List Row → List ℕ → Option Visit → List Site
site_visit rows place None = []
site_visit rows place (Some v) = site_at place (station_of rows v)

at_first : (place : List ℕ) (s : Station) → site_at (0 ∷ place) s ≡ map site_first (site_at place s)
at_first place (Store i) = refl
at_first place (Compare i) = refl
at_first place _ = refl

at_next : (place : List ℕ) (s : Station) → site_at (next place) s ≡ map site_next (site_at place s)
at_next place (Store i) = refl
at_next place (Compare i) = refl
at_next place _ = refl

visit_first : (rows : List Row) (place : List ℕ) (o : Option Visit)
    → site_visit rows (0 ∷ place) o ≡ map site_first (site_visit rows place o)
visit_first rows place None = refl
visit_first rows place (Some v) = at_first place (station_of rows v)

visit_next : (rows : List Row) (place : List ℕ) (o : Option Visit)
    → site_visit rows (next place) o ≡ map site_next (site_visit rows place o)
visit_next rows place None = refl
visit_next rows place (Some v) = at_next place (station_of rows v)

-- the site of a place below elements
abbrev pub site_below : Option Visit → List Row → Station → Targets → ℕ → List (List ℕ) → Items → List ℕ → List Site
site_below o rows s ts at elder is place = site_visit rows place (visit_below o rows s ts at elder is place)

flat_within : (rows : List Row) (s : Station) (ts : Targets) (at : ℕ) (elder : List (List ℕ)) (name : List ℕ) (tag : ℕ)
    (js is : Items)
    → flat_map
    (site_below (Some (visit s ts elder at name (node tag js))) rows (station rows s (entry name (node tag js)))
    (pointed rows (station rows s (entry name (node tag js))) ts (at + (2 + length name)) js)
    (at + (2 + length name) + 4) [] js) (places_from 0 js)
    ≡ sites_below rows (station rows s (entry name (node tag js))) js
    → flat_map
    (λ (p : List ℕ). site_visit rows (0 ∷ p) (visit_from rows s ts at elder 0 p (item name (node tag js) is)))
    (places_in (node tag js))
    ≡ site_at (0 ∷ []) (station rows s (entry name (node tag js)))
    ++ map site_first (sites_in rows (station rows s (entry name (node tag js))) (node tag js))
flat_within rows s ts at elder name tag js is h =
    let v = visit s ts elder at name (node tag js) in
    let u = station rows s (entry name (node tag js)) in
    let f : List ℕ → List Site = λ p. site_visit rows (0 ∷ p)
    (visit_from rows s ts at elder 0 p (item name (node tag js) is)) in
    let g = site_below (Some v) rows u (pointed rows u ts (at + (2 + length name)) js) (at + (2 + length name) + 4) []
    js in
    ap (λ (xs : List Site). site_at (0 ∷ []) u ++ xs)
    (flat_same f (λ p. map site_first (g p)) (places_from 0 js)
    (λ p. elim p as (λ q. f q ≡ map site_first (g q)) [
      | [] ↦ visit_first rows [] (Some v)
      | j ∷ q ↦ visit_first rows (j ∷ q)
          (visit_from rows u (pointed rows u ts (at + (2 + length name)) js) (at + (2 + length name) + 4) [] j q js)
    ])
    ∙ (map_flat site_first g (places_from 0 js) ∙ ap (map site_first) h))

flat_item : (o : Option Visit) (rows : List Row) (s : Station) (ts : Targets) (at : ℕ) (elder : List (List ℕ))
    (name : List ℕ)
    (t : Tree) (is : Items)
    → flat_map (λ (p : List ℕ). site_visit rows (0 ∷ p) (visit_from rows s ts at elder 0 p (item name t is)))
    (places_in t)
    ≡ site_at (0 ∷ []) (station rows s (entry name t))
    ++ map site_first (sites_in rows (station rows s (entry name t)) t)
    → flat_map (site_below o rows s ts (at + (2 + length name) + length (value_bytes t)) (elder ++ name ∷ []) is)
    (places_from 0 is) ≡ sites_below rows s is
    → flat_map (site_below o rows s ts at elder (item name t is)) (places_from 0 (item name t is))
    ≡ sites_below rows s (item name t is)
flat_item o rows s ts at elder name t is inside behind =
    let f = site_below o rows s ts at elder (item name t is) in
    let g = site_below o rows s ts (at + (2 + length name) + length (value_bytes t)) (elder ++ name ∷ []) is in
    let own = site_at (0 ∷ []) (station rows s (entry name t))
    ++ map site_first (sites_in rows (station rows s (entry name t)) t) in
    let left : flat_map f (map (λ (p : List ℕ). 0 ∷ p) (places_in t)) ≡ own =
    flat_map-map f (λ (p : List ℕ). 0 ∷ p) (places_in t) ∙ inside in
    let each : (p : List ℕ) → f (next p) ≡ map site_next (g p)
    = λ p. ap (site_visit rows (next p)) (below_next o rows s ts at elder name t is p)
    ∙ visit_next rows p (visit_below o rows s ts (at + (2 + length name) + length (value_bytes t))
    (elder ++ name ∷ []) is p) in
    let right : flat_map f (places_from 1 is) ≡ map site_next (sites_below rows s is)
    = ap (flat_map f) (places_next 0 is)
    ∙ (flat_map-map f next (places_from 0 is)
    ∙ (flat_same (λ p. f (next p)) (λ p. map site_next (g p)) (places_from 0 is) each
    ∙ (map_flat site_next g (places_from 0 is) ∙ ap (map site_next) behind))) in
    flat_map-append f (map (λ (p : List ℕ). 0 ∷ p) (places_in t)) (places_from 1 is)
    ∙ (ap (λ (xs : List Site). xs ++ flat_map f (places_from 1 is)) left ∙ ap (λ (ys : List Site). own ++ ys) right)

mutual
  flat_in : (rows : List Row) (s : Station) (ts : Targets) (at : ℕ) (elder : List (List ℕ)) (name : List ℕ) (t : Tree)
      (is : Items)
      → flat_map (λ (p : List ℕ). site_visit rows (0 ∷ p) (visit_from rows s ts at elder 0 p (item name t is)))
      (places_in t)
      ≡ site_at (0 ∷ []) (station rows s (entry name t))
      ++ map site_first (sites_in rows (station rows s (entry name t)) t)
  flat_in rows s ts at elder name (leaf tag bytes) is = refl
  flat_in rows s ts at elder name (node tag js) is =
      flat_within rows s ts at elder name tag js is
      (flat_below (Some (visit s ts elder at name (node tag js))) rows (station rows s (entry name (node tag js)))
      (pointed rows (station rows s (entry name (node tag js))) ts (at + (2 + length name)) js)
      (at + (2 + length name) + 4) [] js)

  flat_below : (o : Option Visit) (rows : List Row) (s : Station) (ts : Targets) (at : ℕ) (elder : List (List ℕ))
      (is : Items)
      → flat_map (site_below o rows s ts at elder is) (places_from 0 is) ≡ sites_below rows s is
  flat_below o rows s ts at elder no_items = refl
  flat_below o rows s ts at elder (item name t is) =
      flat_item o rows s ts at elder name t is
      (flat_in rows s ts at elder name t is)
      (flat_below o rows s ts (at + (2 + length name) + length (value_bytes t)) (elder ++ name ∷ []) is)

site_read : (rows : List Row) (place : List ℕ) (o : Option Visit)
    → option_map_or (site_at place) (option_map (station_of rows) o) [] ≡ site_visit rows place o
site_read rows place None = refl
site_read rows place (Some v) = refl

-- the site of a place of a command, wherever the command begins
site_there : (rows : List Row) (at : ℕ) (c : Items) (place : List ℕ)
    → option_map_or (site_at place) (option_map (station_of rows) (visit_at rows at c place)) [] ≡ site_of rows c place
site_there rows at c place =
    ap (λ (o : Option Station). option_map_or (site_at place) o []) (station_read rows at c place)

site_none : (place : List ℕ) (s : Station) → has_role s ≡ false → site_at place s ≡ []
site_none place (Store i) h = absurd (false≢true (sym h))
site_none place (Compare i) h = absurd (false≢true (sym h))
site_none place _ h = refl

sites_are : (rows : List Row) (c : Items)
    → sites rows c ≡ sites_below rows (station rows Outside (command_entry c)) c
sites_are rows c =
    let u = station rows Outside (command_entry c) in
    let first = Some (command_visit c) in
    ap (λ (xs : List Site). xs ++ flat_map (site_of rows c) (places_from 0 c))
    (site_none [] u (command_without_role rows (command_entry c)))
    ∙ (flat_same (site_of rows c) (site_below first rows u (pointed rows u [] 0 c) 4 [] c) (places_from 0 c)
    (λ p. sym (site_there rows 0 c p) ∙ site_read rows p (visit_at rows 0 c p)
    ∙ ap (site_visit rows p) (visit_at_below rows 0 c p))
    ∙ flat_below first rows u (pointed rows u [] 0 c) 4 [] c)

-- the sites of a command, read from its blank
abbrev pub told : List Row → Skeletons → List Site
told rows ks = told_below rows (station rows Outside (entry_in [] (branch 3 ks))) ks

sites_told_of : (rows : List Row) (c : Items) → sites rows c ≡ told rows (blank rows c)
sites_told_of rows c =
    let u = station rows Outside (command_entry c) in
    let e : u ≡ station rows Outside (entry_in [] (branch 3 (blank rows c)))
    = ap (λ (ns : List (List ℕ)). station rows Outside (record {
      name = [];
      tag = 3;
      names = ns;
      raw = [];
      payload = false;
    })) (sym (names_blank rows u c)) in
    sites_are rows c ∙ (sites_told rows u c ∙ ap (λ (s : Station). told_below rows s (blank rows c)) e)

-- commands with equal blanks have the same protected places, with the same rules and roles
pub equal_sites : (rows : List Row) (c d : Items) → blank rows c ≡ blank rows d → sites rows c ≡ sites rows d
equal_sites rows c d e = sites_told_of rows c ∙ (ap (told rows) e ∙ sym (sites_told_of rows d))

kinds_at : (place : List ℕ) (s : Station) (v : Visit)
    → map use_of_mark (mark_at s v) ≡ map use_of_site (site_at place s)
kinds_at place (Store i) v = refl
kinds_at place (Compare i) v = refl
kinds_at place _ v = refl

kinds_of : (rows : List Row) (place : List ℕ) (o : Option Visit)
    → map use_of_mark (option_map_or (λ v. mark_at (station_of rows v) v) o [])
    ≡ map use_of_site (option_map_or (site_at place) (option_map (station_of rows) o) [])
kinds_of rows place None = refl
kinds_of rows place (Some v) = kinds_at place (station_of rows v) v

-- the marks of a command are those of its sites: the same rules and roles, in the same order
pub marks_of_sites : (rows : List Row) (at : ℕ) (c : Items)
    → map use_of_mark (roles rows at c) ≡ map use_of_site (sites rows c)
marks_of_sites rows at c =
    let f = use_of_mark in
    let g = use_of_site in
    ap (map f) (roles_by_place rows at c)
    ∙ (sym (map_flat f (mark_of rows at c) (places c))
    ∙ (flat_same (λ p. map f (mark_of rows at c p)) (λ p. map g (site_of rows c p)) (places c)
    (λ p. kinds_of rows p (visit_at rows at c p) ∙ ap (map g) (site_there rows at c p))
    ∙ map_flat g (site_of rows c) (places c)))

-- so a command has as many marks wherever it begins
pub as_many : (rows : List Row) (at : ℕ) (c : Items) → length (roles rows at c) ≡ length (roles rows 0 c)
as_many rows at c =
    sym (length-map (roles rows at c) use_of_mark)
    ∙ ap length (marks_of_sites rows at c ∙ sym (marks_of_sites rows 0 c))
    ∙ length-map (roles rows 0 c) use_of_mark
