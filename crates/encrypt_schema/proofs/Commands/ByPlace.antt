-- The places of a command, each read from its chain, are its places in reading order.
use Rattle.std.proofs.Common.{◌≡◌, ℕ, zero, suc, ◌+◌, List, [], ◌∷◌, ◌++◌, length, map, Option, Some, None, Bool, true}
use Rattle.std.proofs.Common.{false, refl, sym, ap, ap₂, ◌∙◌, add-one}
use Rattle.std.specs.Prelude.{unwrap_or, option_map, option_and_then, flat_map}
use Rattle.std.specs.Option.{option_map_or}
use Rattle.std.proofs.lemmas.Bool.{false≢true}
use Rattle.std.proofs.lemmas.List.{map-append}
use Rattle.std.proofs.lemmas.List.Folds.{flat_map-map}
use Rattle.std.proofs.lemmas.Simd.{map-map}
use Rattle.bson_tree.specs.Tree.{Tree, leaf, node, Items, no_items, item, nth}
use Rattle.bson_tree.specs.Places.{tree_at, start_from, places_in, places_from, places}
use Rattle.bson_tree.specs.Spelling.{value_bytes}
use Rattle.encrypt_schema.specs.declared.command.marks.Mark.{Mark}
use Rattle.encrypt_schema.specs.declared.command.reason.Reason.{Reason}
use Rattle.encrypt_schema.specs.Language.Row.{Row}
use Rattle.encrypt_schema.specs.Language.Collection.{Collection}
use Rattle.encrypt_schema.specs.Commands.Offences.{offence}
use Rattle.encrypt_schema.specs.Commands.Stations.{Station, Outside, station}
use Rattle.encrypt_schema.specs.Commands.Pointers.{Targets, pointed}
use Rattle.encrypt_schema.specs.Commands.Visits.{Refusal, refused_at, or_else, first_refusal, verdict_on, target_of}
use Rattle.encrypt_schema.specs.Commands.Visits.{view_of, content_of, entry, command_entry, Visit, visit, visits_in}
use Rattle.encrypt_schema.specs.Commands.Visits.{visits, command_visit, command_visits, station_of, mark_at, marks}
use Rattle.encrypt_schema.specs.Commands.Visits.{roles, part_visits}
use Rattle.encrypt_schema.specs.Commands.Chains.{targets_from, targets_at}
use Rattle.encrypt_schema.specs.Commands.Chains.{Link, Chain, onward, link, chain, chain_from, station_along}
use Rattle.encrypt_schema.specs.Commands.Chains.{offence_along, station_at, offence_at, width_at, visit_along, start_at}
use Rattle.encrypt_schema.specs.Commands.Chains.{visit_at, mark_of, refusal_at, first_of, first_refusal_at, verdict_at}
use Rattle.encrypt_schema.specs.Commands.Chains.{chain_inside, part_visit_at, part_station_at, part_offence_at}

-- a place below elements, with what it is carried down
abbrev mutual
  pub visit_in : List Row → Station → Targets → ℕ → ℕ → List ℕ → Tree → Option Visit
  visit_in rows s ts at i place (leaf tag bytes) = None
  visit_in rows s ts at i place (node tag is) = visit_from rows s (pointed rows s ts at is) (at + 4) [] i place is

  pub visit_from : List Row → Station → Targets → ℕ → List (List ℕ) → ℕ → List ℕ → Items → Option Visit
  visit_from rows s ts at elder i place no_items = None
  visit_from rows s ts at elder zero [] (item name t is) = Some (visit s ts elder at name t)
  visit_from rows s ts at elder zero (j ∷ place) (item name t is) =
      visit_in rows (station rows s (entry name t)) ts (at + (2 + length name)) j place t
  visit_from rows s ts at elder (suc i) place (item name t is) =
      visit_from rows s ts (at + (2 + length name) + length (value_bytes t)) (elder ++ name ∷ []) i place is

-- the same, and something else for the empty place
abbrev pub visit_below : Option Visit → List Row → Station → Targets → ℕ → List (List ℕ) → Items → List ℕ → Option Visit
visit_below o rows s ts at elder is [] = o
visit_below o rows s ts at elder is (i ∷ place) = visit_from rows s ts at elder i place is

-- a place inside a document
abbrev pub is_inside : List ℕ → Bool
is_inside [] = false
is_inside (i ∷ place) = true

-- the next sibling of a place, with what is below it
abbrev pub next : List ℕ → List ℕ
next [] = []
next (i ∷ place) = (i + 1) ∷ place

-- two functions that agree give the same list
pub map_same : {A B : Type 0} (f g : A → B) (xs : List A) → ((x : A) → f x ≡ g x) → map f xs ≡ map g xs
map_same f g [] e = refl
map_same {B = B} f g (x ∷ xs) e =
    ap (λ (y : B). y ∷ map f xs) (e x) ∙ ap (λ (ys : List B). g x ∷ ys) (map_same f g xs e)

-- the places of elements that are counted from the next number on
pub places_next : (i : ℕ) (is : Items) → places_from (i + 1) is ≡ map next (places_from i is)
places_next i no_items = refl
places_next i (item name t is) =
    let a : map (λ (p : List ℕ). (i + 1) ∷ p) (places_in t) ≡ map next (map (λ (p : List ℕ). i ∷ p) (places_in t)) =
    sym (map-map next (λ (p : List ℕ). i ∷ p) (places_in t)) in
    let b = places_next (i + 1) is in
    let c = map-append next (map (λ (p : List ℕ). i ∷ p) (places_in t)) (places_from (i + 1) is) in
    cc

-- the next sibling's place among elements is the place among those behind the first
pub below_next : (o : Option Visit) (rows : List Row) (s : Station) (ts : Targets) (at : ℕ) (elder : List (List ℕ))
    (name : List ℕ)
    (t : Tree) (is : Items) (place : List ℕ)
    → visit_below o rows s ts at elder (item name t is) (next place)
    ≡ visit_below o rows s ts (at + (2 + length name) + length (value_bytes t)) (elder ++ name ∷ []) is place
below_next o rows s ts at elder name t is [] = refl
below_next o rows s ts at elder name t is (i ∷ place) =
    ap (λ (n : ℕ). visit_from rows s ts at elder n place (item name t is)) (add-one i)

-- the places in one element, and those in the elements behind it
by_item : (o : Option Visit) (rows : List Row) (s : Station) (ts : Targets) (at : ℕ) (elder : List (List ℕ))
    (name : List ℕ) (t : Tree)
    (is : Items)
    → map (λ (p : List ℕ). visit_from rows s ts at elder 0 p (item name t is)) (places_in t)
    ≡ Some (visit s ts elder at name t) ∷ map Some (visits_in rows (station rows s (entry name t)) ts
    (at + (2 + length name)) t)
    → map (visit_below o rows s ts (at + (2 + length name) + length (value_bytes t)) (elder ++ name ∷ []) is)
    (places_from 0 is)
    ≡ map Some (visits rows s ts (at + (2 + length name) + length (value_bytes t)) (elder ++ name ∷ []) is)
    → map (visit_below o rows s ts at elder (item name t is)) (places_from 0 (item name t is))
    ≡ map Some (visits rows s ts at elder (item name t is))
by_item o rows s ts at elder name t is inside behind =
    let f = visit_below o rows s ts at elder (item name t is) in
    let g = visit_below o rows s ts (at + (2 + length name) + length (value_bytes t)) (elder ++ name ∷ []) is in
    let within = visits_in rows (station rows s (entry name t)) ts (at + (2 + length name)) t in
    let after = visits rows s ts (at + (2 + length name) + length (value_bytes t)) (elder ++ name ∷ []) is in
    let a = map-append f (map (λ (p : List ℕ). 0 ∷ p) (places_in t)) (places_from 1 is) in
    let b = map-map f (λ (p : List ℕ). 0 ∷ p) (places_in t) in
    let c : map f (places_from 1 is) ≡ map f (map next (places_from 0 is)) = ap (map f) (places_next 0 is) in
    let d = map-map f next (places_from 0 is) in
    let e : map (λ (p : List ℕ). f (next p)) (places_from 0 is) ≡ map g (places_from 0 is)
    = map_same (λ (p : List ℕ). f (next p)) g (places_from 0 is) (below_next o rows s ts at elder name t is) in
    let h = map-append (λ (v : Visit). Some v) within after in
    let left : map f (map (λ (p : List ℕ). 0 ∷ p) (places_in t)) ≡ Some (visit s ts elder at name t) ∷ map Some within =
    b ∙ inside in
    let right : map f (places_from 1 is) ≡ map Some after = c ∙ (d ∙ (e ∙ behind)) in
    a
    ∙ (ap (λ (xs : List (Option Visit)). xs ++ map f (places_from 1 is)) left
    ∙ (ap (λ (ys : List (Option Visit)). Some (visit s ts elder at name t) ∷ (map Some within ++ ys)) right
    ∙ ap (λ (ys : List (Option Visit)). Some (visit s ts elder at name t) ∷ ys) (sym h)))

within_node : (rows : List Row) (s : Station) (ts : Targets) (at : ℕ) (elder : List (List ℕ)) (name : List ℕ) (tag : ℕ)
    (js is : Items)
    → map
    (visit_below (Some (visit s ts elder at name (node tag js))) rows (station rows s (entry name (node tag js)))
    (pointed rows (station rows s (entry name (node tag js))) ts (at + (2 + length name)) js)
    (at + (2 + length name) + 4) [] js) (places_from 0 js)
    ≡ map Some
    (visits rows (station rows s (entry name (node tag js)))
    (pointed rows (station rows s (entry name (node tag js))) ts (at + (2 + length name)) js)
    (at + (2 + length name) + 4) [] js)
    → map (λ (p : List ℕ). visit_from rows s ts at elder 0 p (item name (node tag js) is)) (places_in (node tag js))
    ≡ Some (visit s ts elder at name (node tag js)) ∷ map Some
    (visits_in rows (station rows s (entry name (node tag js))) ts (at + (2 + length name)) (node tag js))
within_node rows s ts at elder name tag js is h =
    let v = visit s ts elder at name (node tag js) in
    let u = station rows s (entry name (node tag js)) in
    let f : List ℕ → Option Visit = λ p. visit_from rows s ts at elder 0 p (item name (node tag js) is) in
    let g = visit_below (Some v) rows u (pointed rows u ts (at + (2 + length name)) js) (at + (2 + length name) + 4) []
    js in
    ap (λ (vs : List (Option Visit)). Some v ∷ vs)
    (map_same f g (places_from 0 js) (λ p. elim p as (λ q. f q ≡ g q) [ [] ↦ refl | j ∷ q ↦ refl ]) ∙ h)

mutual
  places_within : (rows : List Row) (s : Station) (ts : Targets) (at : ℕ) (elder : List (List ℕ)) (name : List ℕ)
      (t : Tree)
      (is : Items)
      → map (λ (p : List ℕ). visit_from rows s ts at elder 0 p (item name t is)) (places_in t)
      ≡ Some (visit s ts elder at name t) ∷ map Some (visits_in rows (station rows s (entry name t)) ts
      (at + (2 + length name)) t)
  places_within rows s ts at elder name (leaf tag bytes) is = refl
  places_within rows s ts at elder name (node tag js) is =
      within_node rows s ts at elder name tag js is
      (places_below (Some (visit s ts elder at name (node tag js))) rows (station rows s (entry name (node tag js)))
      (pointed rows (station rows s (entry name (node tag js))) ts (at + (2 + length name)) js)
      (at + (2 + length name) + 4) [] js)

  places_below : (o : Option Visit) (rows : List Row) (s : Station) (ts : Targets) (at : ℕ) (elder : List (List ℕ))
      (is : Items)
      → map (visit_below o rows s ts at elder is) (places_from 0 is) ≡ map Some (visits rows s ts at elder is)
  places_below o rows s ts at elder no_items = refl
  places_below o rows s ts at elder (item name t is) =
      by_item o rows s ts at elder name t is
      (places_within rows s ts at elder name t is)
      (places_below o rows s ts (at + (2 + length name) + length (value_bytes t)) (elder ++ name ∷ []) is)

-- the length of the value at a place below elements
abbrev pub width_from : ℕ → List ℕ → Items → ℕ
width_from i place is =
    unwrap_or (option_map (λ value. length (value_bytes value)) (option_and_then (tree_at place) (nth i is))) 0

option_onward : (rows : List Row) (s : Station) (ts : Targets) (start width : ℕ) (l : Link) (o : Option Chain)
    → option_map (visit_along rows s ts start width) (option_map (onward l) o)
    ≡ option_map (visit_along rows (station rows s l.entry) ts start width) o
option_onward rows s ts start width l None = refl
option_onward rows s ts start width l (Some c) = refl

-- a place with what is carried down is the place read from its chain
pub from_chain : (rows : List Row) (s : Station) (ts : Targets) (at : ℕ) (elder : List (List ℕ)) (i : ℕ)
    (place : List ℕ) (is : Items)
    → visit_from rows s ts at elder i place is
    ≡ option_map (visit_along rows s (targets_from rows s ts at i place is)
    (unwrap_or (start_from i place at is) 0) (width_from i place is)) (chain_from elder i place is)
from_chain rows s ts at elder i place no_items = refl
from_chain rows s ts at elder zero [] (item name t is) = refl
from_chain rows s ts at elder zero (j ∷ place) (item name (leaf tag bytes) is) = refl
from_chain rows s ts at elder zero (j ∷ place) (item name (node tag js) is) =
    from_chain rows (station rows s (entry name (node tag js)))
    (pointed rows (station rows s (entry name (node tag js))) ts (at + (2 + length name)) js)
    (at + (2 + length name) + 4) [] j place js
    ∙ sym (option_onward rows s _ _ _ (link elder name (node tag js)) (chain_from [] j place js))
from_chain rows s ts at elder (suc i) place (item name t is) =
    from_chain rows s ts (at + (2 + length name) + length (value_bytes t)) (elder ++ name ∷ []) i place is

-- a place of a command below it
pub visit_at_from : (rows : List Row) (at : ℕ) (c : Items) (i : ℕ) (place : List ℕ)
    → visit_at rows at c (i ∷ place) ≡ visit_from rows (station rows Outside (command_entry c))
    (pointed rows (station rows Outside (command_entry c)) [] at c) (at + 4) [] i place c
visit_at_from rows at c i place =
    option_onward rows Outside _ _ _ (link [] [] (node 3 c)) (chain_from [] i place c)
    ∙ sym
    (from_chain rows (station rows Outside (command_entry c))
    (pointed rows (station rows Outside (command_entry c)) [] at c) (at + 4) [] i place c)

-- a place of a command, by what is carried down
pub visit_at_below : (rows : List Row) (at : ℕ) (c : Items) (place : List ℕ)
    → visit_at rows at c place
    ≡ visit_below (Some (command_visit c)) rows (station rows Outside (command_entry c))
    (pointed rows (station rows Outside (command_entry c)) [] at c) (at + 4) [] c place
visit_at_below rows at c [] = refl
visit_at_below rows at c (i ∷ place) = visit_at_from rows at c i place

-- the places of a command, each read from its chain, are its places in reading order
pub by_place : (rows : List Row) (at : ℕ) (c : Items)
    → map (visit_at rows at c) (places c) ≡ map Some (command_visits rows at c)
by_place rows at c =
    let s = station rows Outside (command_entry c) in
    let first = Some (command_visit c) in
    ap (λ (vs : List (Option Visit)). first ∷ vs)
    (map_same (visit_at rows at c) (visit_below first rows s (pointed rows s [] at c) (at + 4) [] c) (places_from 0 c)
    (visit_at_below rows at c)
    ∙ places_below first rows s (pointed rows s [] at c) (at + 4) [] c)

-- the station of a place is told by its chain
visit_station : (rows : List Row) (ts : Targets) (start width : ℕ) (o : Option Chain)
    → option_map (station_of rows) (option_map (visit_along rows Outside ts start width) o)
    ≡ option_map (station_along rows Outside) o
visit_station rows ts start width None = refl
visit_station rows ts start width (Some links) = refl

pub station_read : (rows : List Row) (at : ℕ) (c : Items) (place : List ℕ)
    → option_map (station_of rows) (visit_at rows at c place) ≡ station_at rows c place
station_read rows at c place = visit_station rows (targets_at rows at c place) (start_at at place c)
    (width_at place (node 3 c)) (chain place c)

-- and so is its offence
abbrev pub offence_by : List ℕ → Option Collection → List Row → Visit → Option Reason
offence_by db info rows v = offence db info rows v.targets v.parent v.elder v.entry

visit_offence : (db : List ℕ) (info : Option Collection) (rows : List Row) (s : Station) (ts : Targets)
    (start width : ℕ)
    (o : Option Chain)
    → option_and_then (offence_by db info rows) (option_map (visit_along rows s ts start width) o)
    ≡ option_and_then (offence_along db info rows s ts) o
visit_offence db info rows s ts start width None = refl
visit_offence db info rows s ts start width (Some links) = refl

pub offence_read : (db : List ℕ) (info : Option Collection) (rows : List Row) (at : ℕ) (c : Items) (place : List ℕ)
    → option_and_then (offence_by db info rows) (visit_at rows at c place) ≡ offence_at db info rows at c place
offence_read db info rows at c place =
    visit_offence db info rows Outside (targets_at rows at c place) (start_at at place c) (width_at place (node 3 c))
    (chain place c)

-- what each place is, in reading order
pub stations_by_place : (rows : List Row) (at : ℕ) (c : Items)
    → map (station_at rows c) (places c) ≡ map (λ v. Some (station_of rows v)) (command_visits rows at c)
stations_by_place rows at c =
    let f : Option Visit → Option Station = λ o. option_map (station_of rows) o in
    map_same (station_at rows c) (λ p. f (visit_at rows at c p)) (places c) (λ p. sym (station_read rows at c p))
    ∙ sym (map-map f (visit_at rows at c) (places c))
    ∙ ap (map f) (by_place rows at c)
    ∙ map-map f (λ (v : Visit). Some v) (command_visits rows at c)

-- the offence of each place, in reading order
pub offences_by_place : (db : List ℕ) (info : Option Collection) (rows : List Row) (at : ℕ) (c : Items)
    → map (offence_at db info rows at c) (places c) ≡ map (offence_by db info rows) (command_visits rows at c)
offences_by_place db info rows at c =
    let f : Option Visit → Option Reason = λ o. option_and_then (offence_by db info rows) o in
    map_same (offence_at db info rows at c) (λ p. f (visit_at rows at c p)) (places c)
    (λ p. sym (offence_read db info rows at c p))
    ∙ sym (map-map f (visit_at rows at c) (places c))
    ∙ ap (map f) (by_place rows at c)
    ∙ map-map f (λ (v : Visit). Some v) (command_visits rows at c)

-- parts

-- a place inside a part, with what is carried down
part_from : (rows : List Row) (s : Station) (at : ℕ) (is : Items) (o : Option Visit) (place : List ℕ)
    → is_inside place ≡ true → part_visit_at rows s at is place ≡ visit_below o rows s (pointed rows s [] at is)
    (at + 4) [] is place
part_from rows s at is o [] h = absurd (false≢true h)
part_from rows s at is o (i ∷ place) h = sym (from_chain rows s (pointed rows s [] at is) (at + 4) [] i place is)

map_from : {B : Type 0} (f g : List ℕ → B) (i : ℕ) (is : Items)
    → ((place : List ℕ) → is_inside place ≡ true → f place ≡ g place)
    → map f (places_from i is) ≡ map g (places_from i is)
map_from f g i no_items e = refl
map_from {B = B} f g i (item name t is) e =
    map-append f (map (λ (p : List ℕ). i ∷ p) (places_in t)) (places_from (i + 1) is)
    ∙ ap (λ (xs : List B). xs ++ map f (places_from (i + 1) is)) (map-map f (λ (p : List ℕ). i ∷ p) (places_in t))
    ∙ ap (λ (xs : List B). xs ++ map f (places_from (i + 1) is))
    (map_same (λ (p : List ℕ). f (i ∷ p)) (λ (p : List ℕ). g (i ∷ p)) (places_in t) (λ p. e (i ∷ p) refl))
    ∙ ap (λ (xs : List B). xs ++ map f (places_from (i + 1) is)) (sym (map-map g (λ (p : List ℕ). i ∷ p) (places_in t)))
    ∙ ap (λ (xs : List B). map g (map (λ (p : List ℕ). i ∷ p) (places_in t)) ++ xs) (map_from f g (i + 1) is e)
    ∙ sym (map-append g (map (λ (p : List ℕ). i ∷ p) (places_in t)) (places_from (i + 1) is))

-- the places inside a part, each read from its chain, are those of one descent
pub part_by_place : (rows : List Row) (s : Station) (at : ℕ) (is : Items)
    → map (part_visit_at rows s at is) (places_from 0 is) ≡ map Some (part_visits rows s at is)
part_by_place rows s at is =
    map_from (part_visit_at rows s at is) (visit_below None rows s (pointed rows s [] at is) (at + 4) [] is) 0 is
    (part_from rows s at is None)
    ∙ places_below None rows s (pointed rows s [] at is) (at + 4) [] is

part_visit_station : (rows : List Row) (s : Station) (ts : Targets) (start width : ℕ) (o : Option Chain)
    → option_map (station_of rows) (option_map (visit_along rows s ts start width) o)
    ≡ option_map (station_along rows s) o
part_visit_station rows s ts start width None = refl
part_visit_station rows s ts start width (Some links) = refl

-- and so are their stations
pub part_stations : (rows : List Row) (s : Station) (at : ℕ) (is : Items)
    → map (part_station_at rows s is) (places_from 0 is)
    ≡ map (λ v. Some (station_of rows v)) (part_visits rows s at is)
part_stations rows s at is =
    let f : Option Visit → Option Station = λ o. option_map (station_of rows) o in
    map_same (part_station_at rows s is) (λ p. f (part_visit_at rows s at is p)) (places_from 0 is)
    (λ p. sym (part_visit_station rows s _ _ _ (chain_inside p is)))
    ∙ sym (map-map f (part_visit_at rows s at is) (places_from 0 is))
    ∙ ap (map f) (part_by_place rows s at is)
    ∙ map-map f (λ (v : Visit). Some v) (part_visits rows s at is)

-- and their offences
pub part_offences : (db : List ℕ) (info : Option Collection) (rows : List Row) (s : Station) (at : ℕ) (is : Items)
    → map (part_offence_at db info rows s at is) (places_from 0 is)
    ≡ map (offence_by db info rows) (part_visits rows s at is)
part_offences db info rows s at is =
    let f : Option Visit → Option Reason = λ o. option_and_then (offence_by db info rows) o in
    map_same (part_offence_at db info rows s at is) (λ p. f (part_visit_at rows s at is p)) (places_from 0 is)
    (λ p. sym (visit_offence db info rows s _ _ _ (chain_inside p is)))
    ∙ sym (map-map f (part_visit_at rows s at is) (places_from 0 is))
    ∙ ap (map f) (part_by_place rows s at is)
    ∙ map-map f (λ (v : Visit). Some v) (part_visits rows s at is)

flat_marks : (rows : List Row) (vs : List Visit)
    → marks rows vs ≡ flat_map (λ v. mark_at (station_of rows v) v) vs
flat_marks rows [] = refl
flat_marks rows (v ∷ vs) = ap (λ (ms : List Mark). mark_at (station_of rows v) v ++ ms) (flat_marks rows vs)

-- the protected places of a command are those of `places`, each read from its chain
pub roles_by_place : (rows : List Row) (at : ℕ) (c : Items)
    → roles rows at c ≡ flat_map (mark_of rows at c) (places c)
roles_by_place rows at c =
    let f : Option Visit → List Mark = λ o. option_map_or (λ v. mark_at (station_of rows v) v) o [] in
    flat_marks rows (command_visits rows at c)
    ∙ (sym (flat_map-map f (λ (v : Visit). Some v) (command_visits rows at c))
    ∙ (ap (flat_map f) (sym (by_place rows at c)) ∙ flat_map-map f (visit_at rows at c) (places c)))

-- the refusal of a place in a pass
abbrev pub refusal : (Visit → Option Reason) → Visit → Option Refusal
refusal pass v = refused_at v.start (pass v)

first_in : (pass : Visit → Option Reason) (vs : List Visit) → first_refusal pass vs ≡ first_of (map (refusal pass) vs)
first_in pass [] = refl
first_in pass (v ∷ vs) = ap (or_else (refusal pass v)) (first_in pass vs)

-- the first refusal of a pass is that of the first of `places` that it refuses, each read from its chain
pub refusal_by_place : (pass : Visit → Option Reason) (rows : List Row) (at : ℕ) (c : Items)
    → first_refusal pass (command_visits rows at c) ≡ first_refusal_at pass rows at c
refusal_by_place pass rows at c =
    let f : Option Visit → Option Refusal = λ o. option_and_then (refusal pass) o in
    let read : map f (map (visit_at rows at c) (places c)) ≡ map (refusal_at pass rows at c) (places c) =
    map-map f (visit_at rows at c) (places c) in
    let own : map f (map Some (command_visits rows at c)) ≡ map (refusal pass) (command_visits rows at c) =
    map-map f (λ (v : Visit). Some v) (command_visits rows at c) in
    first_in pass (command_visits rows at c)
    ∙ ap first_of (sym own ∙ (ap (map f) (sym (by_place rows at c)) ∙ read))

-- and so is the verdict of all passes
pub verdict_by_place : (db : List ℕ) (info : Option Collection) (rows : List Row) (at : ℕ) (c : Items)
    → verdict_on db info rows (command_visits rows at c) ≡ verdict_at db info rows at c
verdict_by_place db info rows at c =
    ap₂ or_else (refusal_by_place (target_of db) rows at c)
    (ap₂ or_else (refusal_by_place (view_of info) rows at c) (refusal_by_place (content_of rows) rows at c))
