-- By places: no protected place lies below another one; and of two commands with equal skeletons the same is
-- read at each place with no protected ancestor.
use Rattle.std.proofs.Common.{◌≡◌, ℕ, zero, suc, ◌+◌, Bool, true, false, cond, not, ◌||◌, List, [], ◌∷◌, ◌++◌, length}
use Rattle.std.proofs.Common.{Option, Some, None, refl, sym, ap, ◌∙◌}
use Rattle.std.specs.Prelude.{option_map, is_some}
use Rattle.std.specs.Option.{option_map_or}
use Rattle.std.proofs.lemmas.Bool.{false≢true}
use Rattle.bson_tree.specs.Tree.{leaf, node, Items, no_items, item}
use Rattle.bson_tree.specs.Spelling.{framed, value_bytes, items_bytes}
use Rattle.encrypt_schema.specs.Language.Row.{Row}
use Rattle.encrypt_schema.specs.Commands.Stations.{Station, Outside, Store, Compare, Passed, station, has_role}
use Rattle.encrypt_schema.specs.Commands.Pointers.{Targets, pointed}
use Rattle.encrypt_schema.proofs.Commands.Pointed.{seen_pointed, pointed_kept}
use Rattle.encrypt_schema.specs.Commands.Visits.{is_payload, entry, Visit}
use Rattle.encrypt_schema.specs.Commands.Skeletons.{Skeleton, hole, plain, branch, Skeletons, no_more, more}
use Rattle.encrypt_schema.specs.Commands.Skeletons.{skeleton_in, skeletons, width_of}
use Rattle.encrypt_schema.specs.Commands.Chains.{Link, Chain, last, onward, link, chain_from, chain, station_along}
use Rattle.encrypt_schema.specs.Commands.Chains.{station_at, is_below_role, is_shown}
use Rattle.encrypt_schema.proofs.Commands.Widths.{entry_in, width_kept, station_kept}
use Rattle.encrypt_schema.proofs.Commands.Worlds.{skeleton_visit, veil, visit_kept}
use Rattle.encrypt_schema.proofs.Commands.ByPlace.{visit_from}

passed_along : (rows : List Row) (links : Chain) → has_role (station_along rows Passed links) ≡ false
passed_along rows (last l) = refl
passed_along rows (onward l rest) = passed_along rows rest

role_along : (rows : List Row) (s : Station) (links : Chain) → has_role s ≡ true
    → has_role (station_along rows s links) ≡ false
role_along rows (Store i) (last l) h = refl
role_along rows (Store i) (onward l rest) h = passed_along rows rest
role_along rows (Compare i) (last l) h = refl
role_along rows (Compare i) (onward l rest) h = passed_along rows rest
role_along rows _ links h = absurd (false≢true h)

below_cases : (rows : List Row) (u : Station) (rest : Chain) (b : Bool) → has_role u ≡ b
    → has_role (station_along rows u rest) ≡ true
    → is_below_role rows u rest ≡ false → (b || is_below_role rows u rest) ≡ false
below_cases rows u rest true h p q = absurd (false≢true (sym (role_along rows u rest h) ∙ p))
below_cases rows u rest false h p q = q

none_below : (rows : List Row) (s : Station) (links : Chain) → has_role (station_along rows s links) ≡ true
    → is_below_role rows s links ≡ false
none_below rows s (last l) h = refl
none_below rows s (onward l rest) h =
    below_cases rows (station rows s l.entry) rest (has_role (station rows s l.entry)) refl h
    (none_below rows (station rows s l.entry) rest h)

no_role_in : (rows : List Row) (o : Option Chain)
    → option_map_or has_role (option_map (station_along rows Outside) o) false ≡ true
    → option_map_or (λ links. not (is_below_role rows Outside links)) o false ≡ true
no_role_in rows None h = h
no_role_in rows (Some links) h = ap not (none_below rows Outside links h)

-- no protected place of a command lies below another one
pub no_role_below : (rows : List Row) (c : Items) (place : List ℕ)
    → option_map_or has_role (station_at rows c place) false ≡ true
    → is_shown rows c place ≡ true
no_role_below rows c place h = no_role_in rows (chain place c) h

-- a place, read from a skeleton
abbrev mutual
  pub seen_in : List Row → Station → Targets → ℕ → ℕ → List ℕ → Skeleton → Option Visit
  seen_in rows s ts at i place (hole tag width payload) = None
  seen_in rows s ts at i place (plain tag bytes) = None
  seen_in rows s ts at i place (branch tag ks) = seen_from rows s (seen_pointed rows s ts at ks) (at + 4) [] i place ks

  pub seen_from : List Row → Station → Targets → ℕ → List (List ℕ) → ℕ → List ℕ → Skeletons → Option Visit
  seen_from rows s ts at elder i place no_more = None
  seen_from rows s ts at elder zero [] (more name k ks) = Some (skeleton_visit s ts elder at name k)
  seen_from rows s ts at elder zero (j ∷ place) (more name k ks) =
      seen_in rows (station rows s (entry_in name k)) ts (at + (2 + length name)) j place k
  seen_from rows s ts at elder (suc i) place (more name k ks) =
      seen_from rows s ts (at + (2 + length name) + width_of k) (elder ++ name ∷ []) i place ks

-- no ancestor is protected
abbrev pub shows : List Row → Station → Option Chain → Bool
shows rows s o = option_map_or (λ links. not (is_below_role rows s links)) o false

-- one link of a chain: nothing below a protected value is seen
pub shows_node : (rows : List Row) (s : Station) (l : Link) (o : Option Chain) (b : Bool) (seen : Option Visit)
    → has_role (station rows s l.entry) ≡ b
    → shows rows (station rows s l.entry) o ≡ is_some seen
    → shows rows s (option_map (onward l) o) ≡ is_some (cond b None seen)
shows_node rows s l None true seen h p = refl
shows_node rows s l (Some links) true seen h p =
    ap (λ (b : Bool). not (b || is_below_role rows (station rows s l.entry) links)) h
shows_node rows s l None false seen h p = p
shows_node rows s l (Some links) false seen h p =
    ap (λ (b : Bool). not (b || is_below_role rows (station rows s l.entry) links)) h ∙ p

seen_hidden : (rows : List Row) (u v : Station) (ts : Targets) (at i : ℕ) (place : List ℕ) (tag width : ℕ)
    (ks : Skeletons)
    → seen_in rows v ts at i place (cond (has_role u) (hole tag width false) (branch tag ks))
    ≡ cond (has_role u) None (seen_from rows v (seen_pointed rows v ts at ks) (at + 4) [] i place ks)
seen_hidden rows u v ts at i place tag width ks =
    elim (has_role u) as (λ b. seen_in rows v ts at i place (cond b (hole tag width false) (branch tag ks))
    ≡ cond b None (seen_from rows v (seen_pointed rows v ts at ks) (at + 4) [] i place ks))
    [ true ↦ refl | false ↦ refl ]

seen_leaf : (rows : List Row) (u v : Station) (ts : Targets) (at i : ℕ) (place : List ℕ) (tag : ℕ) (bytes : List ℕ)
    → seen_in rows v ts at i place (skeleton_in rows u (leaf tag bytes)) ≡ None
seen_leaf rows u v ts at i place tag bytes =
    elim (has_role u) as (λ b. seen_in rows v ts at i place
    (cond b (hole tag (length bytes) (is_payload tag bytes)) (plain tag bytes)) ≡ None)
    [ true ↦ refl | false ↦ refl ]

-- in a skeleton, what is seen of an embedded document or array
seen_node : (rows : List Row) (s : Station) (ts : Targets) (at j : ℕ) (place : List ℕ) (name : List ℕ) (tag : ℕ)
    (js : Items)
    → seen_in rows (station rows s (entry_in name
    (skeleton_in rows (station rows s (entry name (node tag js))) (node tag js)))) ts at j place
    (skeleton_in rows (station rows s (entry name (node tag js))) (node tag js))
    ≡ cond (has_role (station rows s (entry name (node tag js)))) None
    (seen_from rows (station rows s (entry name (node tag js)))
    (seen_pointed rows (station rows s (entry name (node tag js))) ts at
    (skeletons rows (station rows s (entry name (node tag js))) js)) (at + 4) [] j place
    (skeletons rows (station rows s (entry name (node tag js))) js))
seen_node rows s ts at j place name tag js =
    let u = station rows s (entry name (node tag js)) in
    let k = skeleton_in rows u (node tag js) in
    ap (λ (x : Station). seen_in rows x ts at j place k) (sym (station_kept rows s name (node tag js)))
    ∙ seen_hidden rows u u ts at j place tag (length (framed (items_bytes js))) (skeletons rows u js)

-- a place has no protected ancestor exactly where it is seen in the skeleton
pub shows_seen : (rows : List Row) (s : Station) (ts : Targets) (at : ℕ) (elder : List (List ℕ)) (i : ℕ)
    (place : List ℕ) (is : Items)
    → shows rows s (chain_from elder i place is)
    ≡ is_some (seen_from rows s ts at elder i place (skeletons rows s is))
shows_seen rows s ts at elder i place no_items = refl
shows_seen rows s ts at elder zero [] (item name t is) = refl
shows_seen rows s ts at elder zero (j ∷ place) (item name (leaf tag bytes) is) =
    ap is_some (sym (seen_leaf rows (station rows s (entry name (leaf tag bytes))) _ ts
    (at + (2 + length name)) j place tag bytes))
shows_seen rows s ts at elder zero (j ∷ place) (item name (node tag js) is) =
    let u = station rows s (entry name (node tag js)) in
    shows_node rows s (link elder name (node tag js)) (chain_from [] j place js) (has_role u) _ refl
    (shows_seen rows u (pointed rows u ts (at + (2 + length name)) js) (at + (2 + length name) + 4) [] j place js
    ∙ ap (λ (x : Targets). is_some (seen_from rows u x (at + (2 + length name) + 4) [] j place (skeletons rows u js)))
    (pointed_kept rows u ts (at + (2 + length name)) js))
    ∙ ap is_some (sym (seen_node rows s ts (at + (2 + length name)) j place name tag js))
shows_seen rows s ts at elder (suc i) place (item name t is) =
    shows_seen rows s ts (at + (2 + length name) + length (value_bytes t)) (elder ++ name ∷ []) i place is
    ∙ ap (λ (n : ℕ). is_some (seen_from rows s ts (at + (2 + length name) + n) (elder ++ name ∷ []) i place
    (skeletons rows s is)))
    (sym (width_kept rows (station rows s (entry name t)) t))

-- one link of a chain, for what is read of the place
pub veiled_node : (rows : List Row) (s : Station) (l : Link) (o : Option Chain) (b : Bool) (v seen : Option Visit)
    → has_role (station rows s l.entry) ≡ b
    → (shows rows (station rows s l.entry) o ≡ true → option_map (veil rows) v ≡ seen)
    → shows rows s (option_map (onward l) o) ≡ true → option_map (veil rows) v ≡ cond b None seen
veiled_node rows s l None b v seen h p q = absurd (false≢true q)
veiled_node rows s l (Some links) true v seen h p q =
    absurd (false≢true (sym (ap (λ (b : Bool). not (b || is_below_role rows (station rows s l.entry) links)) h) ∙ q))
veiled_node rows s l (Some links) false v seen h p q =
    p (sym (ap (λ (b : Bool). not (b || is_below_role rows (station rows s l.entry) links)) h) ∙ q)

-- what is read of a place with no protected ancestor, behind its veil, is what is seen of it in the skeleton
pub veiled_seen : (rows : List Row) (s : Station) (ts : Targets) (at : ℕ) (elder : List (List ℕ)) (i : ℕ)
    (place : List ℕ) (is : Items)
    → shows rows s (chain_from elder i place is) ≡ true
    → option_map (veil rows) (visit_from rows s ts at elder i place is)
    ≡ seen_from rows s ts at elder i place (skeletons rows s is)
veiled_seen rows s ts at elder i place no_items h = refl
veiled_seen rows s ts at elder zero [] (item name t is) h =
    ap (λ (v : Visit). Some v) (visit_kept rows s ts elder at name t)
veiled_seen rows s ts at elder zero (j ∷ place) (item name (leaf tag bytes) is) h = absurd (false≢true h)
veiled_seen rows s ts at elder zero (j ∷ place) (item name (node tag js) is) h =
    let u = station rows s (entry name (node tag js)) in
    veiled_node rows s (link elder name (node tag js)) (chain_from [] j place js) (has_role u)
    (visit_from rows u (pointed rows u ts (at + (2 + length name)) js) (at + (2 + length name) + 4) [] j place js) _
    refl
    (λ shown. veiled_seen rows u (pointed rows u ts (at + (2 + length name)) js) (at + (2 + length name) + 4) [] j
    place js
    shown
    ∙ ap (λ (x : Targets). seen_from rows u x (at + (2 + length name) + 4) [] j place (skeletons rows u js))
    (pointed_kept rows u ts (at + (2 + length name)) js)) h
    ∙ sym (seen_node rows s ts (at + (2 + length name)) j place name tag js)
veiled_seen rows s ts at elder (suc i) place (item name t is) h =
    veiled_seen rows s ts (at + (2 + length name) + length (value_bytes t)) (elder ++ name ∷ []) i place is h
    ∙ ap
    (λ (n : ℕ). seen_from rows s ts (at + (2 + length name) + n) (elder ++ name ∷ []) i place (skeletons rows s is))
    (sym (width_kept rows (station rows s (entry name t)) t))
