-- A refusal is told at the place that is refused.
use Rattle.std.proofs.Common.{◌≡◌, ℕ, zero, suc, ◌+◌, List, [], ◌∷◌, ◌++◌, length, map, Option, Some, None, option_map}
use Rattle.std.proofs.Common.{option_and_then, unwrap_or, refl, sym, ap, ap₂, ◌∙◌}
use Rattle.bson_tree.specs.Tree.{Tree, leaf, node, Items, no_items, item}
use Rattle.bson_tree.specs.Spelling.{value_bytes}
use Rattle.bson_tree.specs.Places.{start_in, start_from, start_of, places, place_of}
use Rattle.bson_codec.proofs.Spots.{place_begun, place_of_head}
use Rattle.encrypt_schema.specs.declared.command.reason.Reason.{Reason}
use Rattle.encrypt_schema.specs.Commands.Chains.{Chain, onward, link, chain, chain_in, chain_from, visit_along}
use Rattle.encrypt_schema.specs.Commands.Pointers.{Targets}
use Rattle.encrypt_schema.specs.Commands.Chains.{targets_at, width_at, offence_at, refusal_at, first_of}
use Rattle.encrypt_schema.specs.Commands.Chains.{first_refusal_at}
use Rattle.encrypt_schema.specs.Language.Collection.{Collection}
use Rattle.encrypt_schema.specs.Language.Row.{Row}
use Rattle.encrypt_schema.specs.Commands.Skeletons.{skeleton}
use Rattle.encrypt_schema.specs.Commands.Stations.{Outside}
use Rattle.encrypt_schema.specs.Commands.Visits.{Visit, Refusal, refused_at, or_else, target_of, view_of, content_of}
use Rattle.encrypt_schema.specs.Commands.Visits.{command_visits, verdict_on}
use Rattle.encrypt_schema.proofs.Commands.ByPlace.{refusal, verdict_by_place}
use Rattle.encrypt_schema.proofs.Commands.Refused.{refused, refused_shown, equal_refusal_at}
use Rattle.command_marker.specs.ToldPlaces.{told, told_first, told_else, first_refused_by, first_refused}

-- a place at which no value begins has no chain
mutual
  no_chain_in : (elder : List (List ℕ)) (name place : List ℕ) (at : ℕ) (t : Tree) → start_in place at t ≡ None
      → chain_in elder name place t ≡ None
  no_chain_in elder name [] at t e = cc
  no_chain_in elder name (i ∷ place) at (leaf tag bytes) e = refl
  no_chain_in elder name (i ∷ place) at (node tag is) e =
      ap (option_map (onward (link elder name (node tag is)))) (no_chain_from [] i place (at + 4) is e)

  no_chain_from : (elder : List (List ℕ)) (i : ℕ) (place : List ℕ) (at : ℕ) (is : Items)
      → start_from i place at is ≡ None → chain_from elder i place is ≡ None
  no_chain_from elder i place at no_items e = refl
  no_chain_from elder zero place at (item name t is) e = no_chain_in elder name place (at + (2 + length name)) t e
  no_chain_from elder (suc i) place at (item name t is) e =
      no_chain_from (elder ++ name ∷ []) i place (at + (2 + length name) + length (value_bytes t)) is e

-- a refusal stands at the offset that it was made for
refused_there : (at : ℕ) (o : Option Reason) (r : Refusal) → refused_at at o ≡ Some r → r.at ≡ at
refused_there at None r e = absurd cc
refused_there at (Some reason) r e = ap (λ (o : Option Refusal). unwrap_or (option_map (λ x. x.at) o) at) (sym e)

-- the refusal of a place stands where its value begins
refused_where : (pass : Visit → Option Reason) (rows : List Row) (ts : Targets) (start width : ℕ) (o : Option Chain)
    (r : Refusal)
    → option_and_then (refusal pass) (option_map (visit_along rows Outside ts start width) o) ≡ Some r → r.at ≡ start
refused_where pass rows ts start width None r e = absurd cc
refused_where pass rows ts start width (Some links) r e =
    refused_there start (pass (visit_along rows Outside ts start width links)) r e

-- what has no chain isn't refused
unrefused : (pass : Visit → Option Reason) (rows : List Row) (ts : Targets) (start width : ℕ) (o : Option Chain)
    (r : Refusal)
    → o ≡ None → option_and_then (refusal pass) (option_map (visit_along rows Outside ts start width) o) ≡ Some r → ⊥
unrefused pass rows ts start width o r none e =
    let gone = sym (ap (λ (x : Option Chain). option_and_then (refusal pass)
    (option_map (visit_along rows Outside ts start width) x)) none) ∙ e in
    cc

-- by where the value begins
told_by : (pass : Visit → Option Reason) (rows : List Row) (c : Items) (i : ℕ) (place : List ℕ) (r : Refusal)
    (o : Option ℕ) → start_of (i ∷ place) c ≡ o
    → refusal_at pass rows 0 c (i ∷ place) ≡ Some r → place_of r.at c ≡ i ∷ place
told_by pass rows c i place r None none e =
    absurd
    (unrefused pass rows (targets_at rows 0 c (i ∷ place)) (unwrap_or (start_of (i ∷ place) c) 0)
    (width_at (i ∷ place) (node 3 c))
    (chain (i ∷ place) c) r
    (no_chain_in [] [] (i ∷ place) 0 (node 3 c) none) e)
told_by pass rows c i place r (Some start) begins e =
    let at = refused_where pass rows (targets_at rows 0 c (i ∷ place)) (unwrap_or (start_of (i ∷ place) c) 0)
    (width_at (i ∷ place) (node 3 c))
    (chain (i ∷ place) c) r e in
    ap (λ (n : ℕ). place_of n c) (at ∙ ap (λ (x : Option ℕ). unwrap_or x 0) begins)
    ∙ place_begun start c (i ∷ place) begins

-- a refusal is told at the place that a pass refuses
pub told_there : (pass : Visit → Option Reason) (rows : List Row) (c : Items) (place : List ℕ) (r : Refusal)
    → refusal_at pass rows 0 c place ≡ Some r
    → place_of r.at c ≡ place
told_there pass rows c [] r e =
    let at = refused_where pass rows (targets_at rows 0 c []) 0 (width_at [] (node 3 c)) (chain [] c) r e in
    ap (λ (n : ℕ). place_of n c) at ∙ place_of_head c
told_there pass rows c (i ∷ place) r e = told_by pass rows c i place r (start_of (i ∷ place) c) refl e

-- one place more
told_next : (pass : Visit → Option Reason) (rows : List Row) (c : Items) (place : List ℕ) (o later : Option Refusal)
    (told_later : Option (List ℕ × Reason))
    → refusal_at pass rows 0 c place ≡ o → option_map (told c) later ≡ told_later
    → option_map (told c) (or_else o later) ≡ told_first place o told_later
told_next pass rows c place None later told_later e behind = behind
told_next pass rows c place (Some r) later told_later e behind =
    ap (λ (p : List ℕ). Some (p, r.reason)) (told_there pass rows c place r e)

told_among : (pass : Visit → Option Reason) (rows : List Row) (c : Items) (ps : List (List ℕ))
    → option_map (told c) (first_of (map (refusal_at pass rows 0 c) ps)) ≡ first_refused_by pass rows c ps
told_among pass rows c [] = refl
told_among pass rows c (place ∷ ps) =
    told_next pass rows c place (refusal_at pass rows 0 c place) (first_of (map (refusal_at pass rows 0 c) ps))
    (first_refused_by pass rows c ps) refl (told_among pass rows c ps)

-- one pass, else others
told_either : (c : Items) (o later : Option Refusal)
    → option_map (told c) (or_else o later) ≡ told_else (option_map (told c) o) (option_map (told c) later)
told_either c None later = refl
told_either c (Some r) later = refl

-- the verdict on a command is told at the first place that is refused, in the first pass that refuses one
pub told_places : (db : List ℕ) (info : Option Collection) (rows : List Row) (c : Items)
    → option_map (told c) (verdict_on db info rows (command_visits rows 0 c)) ≡ first_refused db info rows c (places c)
told_places db info rows c =
    let t = first_refusal_at (target_of db) rows 0 c in
    let w = first_refusal_at (view_of info) rows 0 c in
    let k = first_refusal_at (content_of rows) rows 0 c in
    ap (option_map (told c)) (verdict_by_place db info rows 0 c)
    ∙ told_either c t (or_else w k)
    ∙ ap (told_else (option_map (told c) t)) (told_either c w k)
    ∙ ap₂ told_else (told_among (target_of db) rows c (places c))
    (ap₂ told_else (told_among (view_of info) rows c (places c)) (told_among (content_of rows) rows c (places c)))

-- the place at which a refusal is told has an offence for its reason
pub offence_told : (db : List ℕ) (info : Option Collection) (rows : List Row) (c : Items) (r : Refusal)
    → verdict_on db info rows (command_visits rows 0 c) ≡ Some r
    → offence_at db info rows 0 c (place_of r.at c) ≡ Some r.reason
offence_told db info rows c r e =
    let at = refused db info rows c r e in
    ap (offence_at db info rows 0 c) (told_there at.pass rows c at.place r at.is) ∙ at.offence

-- of two commands with equal skeletons it is told at one place
pub equal_told : (db : List ℕ) (info : Option Collection) (rows : List Row) (c d : Items) (r : Refusal)
    → skeleton rows c ≡ skeleton rows d
    → verdict_on db info rows (command_visits rows 0 c) ≡ Some r
    → place_of r.at c ≡ place_of r.at d
equal_told db info rows c d r e h =
    let at = refused db info rows c r h in
    let shown = refused_shown at.pass rows c at.place r at.quiet at.is in
    let there = sym (equal_refusal_at at.pass rows c d at.place at.read e shown) ∙ at.is in
    told_there at.pass rows c at.place r at.is ∙ sym (told_there at.pass rows d at.place r there)
