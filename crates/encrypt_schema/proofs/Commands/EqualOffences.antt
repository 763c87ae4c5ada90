-- Of two commands with equal skeletons the same is said of each place with no protected ancestor.
use Rattle.std.proofs.Common.{◌≡◌, ℕ, ◌+◌, true, false, List, [], ◌∷◌, Option, Some, None, refl, sym, ap, ap₂, ◌∙◌}
use Rattle.std.specs.Prelude.{option_map, option_and_then, is_some}
use Rattle.bson_tree.specs.Tree.{node, Items}
use Rattle.encrypt_schema.specs.Language.Row.{Row}
use Rattle.encrypt_schema.specs.Commands.Stations.{Station, Outside, station}
use Rattle.encrypt_schema.specs.Commands.Pointers.{Targets, pointed}
use Rattle.encrypt_schema.proofs.Commands.Pointed.{seen_pointed, pointed_kept}
use Rattle.encrypt_schema.specs.Commands.Visits.{command_entry, Visit}
use Rattle.encrypt_schema.specs.Language.Collection.{Collection}
use Rattle.encrypt_schema.specs.Commands.Offences.{first_reason}
use Rattle.encrypt_schema.specs.Commands.Skeletons.{branch, Skeletons, skeletons, skeleton}
use Rattle.encrypt_schema.specs.Commands.Chains.{link, chain_from, visit_at, offence_at, is_shown}
use Rattle.encrypt_schema.proofs.Commands.Tables.{command_without_role}
use Rattle.encrypt_schema.proofs.Commands.Widths.{entry_in, names_kept}
use Rattle.encrypt_schema.proofs.Commands.Worlds.{veil, target_veiled, view_veiled, content_veiled}
use Rattle.encrypt_schema.proofs.Commands.TwoWorlds.{shown_equal}
use Rattle.encrypt_schema.proofs.Commands.ByPlace.{visit_from, visit_at_from, offence_by, offence_read}
use Rattle.encrypt_schema.proofs.Commands.ShownPlaces.{seen_from, shows_node, shows_seen, veiled_node, veiled_seen}

-- a place below a command that begins at `at`, read from its skeleton
abbrev pub seen_below : List Row → ℕ → Skeletons → ℕ → List ℕ → Option Visit
seen_below rows at ks i place =
    seen_from rows (station rows Outside (entry_in [] (branch 3 ks)))
    (seen_pointed rows (station rows Outside (entry_in [] (branch 3 ks))) [] at ks) (at + 4) [] i place ks

command_station : (rows : List Row) (c : Items)
    → station rows Outside (command_entry c) ≡ station rows Outside (entry_in [] (branch 3 (skeleton rows c)))
command_station rows c =
    ap
    (λ (ns : List (List ℕ)). station rows Outside (record {
      name = [];
      tag = 3;
      names = ns;
      raw = [];
      payload = false;
    }))
    (sym (names_kept rows (station rows Outside (command_entry c)) c))

shown_below : (rows : List Row) (c : Items) (i : ℕ) (place : List ℕ)
    → is_shown rows c (i ∷ place) ≡ is_some (seen_below rows 0 (skeleton rows c) i place)
shown_below rows c i place =
    let u = station rows Outside (command_entry c) in
    shows_node rows Outside (link [] [] (node 3 c)) (chain_from [] i place c) false _
    (command_without_role rows (command_entry c)) (shows_seen rows u (pointed rows u [] 0 c) 4 [] i place c)
    ∙ ap (λ (x : Targets). is_some (seen_from rows u x 4 [] i place (skeletons rows u c))) (pointed_kept rows u [] 0 c)
    ∙ ap (λ (s : Station). is_some (seen_from rows s (seen_pointed rows s [] 0 (skeleton rows c)) 4 [] i place
    (skeleton rows c))) (command_station rows c)

veiled_below : (rows : List Row) (at : ℕ) (c : Items) (i : ℕ) (place : List ℕ) → is_shown rows c (i ∷ place) ≡ true
    → option_map (veil rows) (visit_at rows at c (i ∷ place)) ≡ seen_below rows at (skeleton rows c) i place
veiled_below rows at c i place h =
    let u = station rows Outside (command_entry c) in
    ap (option_map (veil rows)) (visit_at_from rows at c i place)
    ∙ (veiled_node rows Outside (link [] [] (node 3 c)) (chain_from [] i place c) false
    (visit_from rows u (pointed rows u [] at c) (at + 4) [] i place c) _ (command_without_role rows (command_entry c))
    (veiled_seen rows u (pointed rows u [] at c) (at + 4) [] i place c) h
    ∙ ap (λ (x : Targets). seen_from rows u x (at + 4) [] i place (skeletons rows u c)) (pointed_kept rows u [] at c)
    ∙ ap
    (λ (s : Station). seen_from rows s (seen_pointed rows s [] at (skeleton rows c)) (at + 4) [] i place
    (skeleton rows c)) (command_station rows c))

-- commands with equal skeletons have the same places with no protected ancestor
pub equal_shown : (rows : List Row) (c d : Items) → skeleton rows c ≡ skeleton rows d → (place : List ℕ)
    → is_shown rows c place ≡ is_shown rows d place
equal_shown rows c d e [] = refl
equal_shown rows c d e (i ∷ place) =
    shown_below rows c i place ∙ (ap (λ (ks : Skeletons). is_some (seen_below rows 0 ks i place)) e
    ∙ sym (shown_below rows d i place))

-- the first place of a list
abbrev pub first_visit : List Visit → Option Visit
first_visit [] = None
first_visit (v ∷ vs) = Some v

-- what is read of such a place, but for what is veiled of a protected value, is the same
pub equal_visits : (rows : List Row) (at : ℕ) (c d : Items) → skeleton rows c ≡ skeleton rows d → (place : List ℕ)
    → is_shown rows c place ≡ true
    → option_map (veil rows) (visit_at rows at c place) ≡ option_map (veil rows) (visit_at rows at d place)
equal_visits rows at c d e [] h = ap first_visit (shown_equal rows at c d e)
equal_visits rows at c d e (i ∷ place) h =
    veiled_below rows at c i place h
    ∙ (ap (λ (ks : Skeletons). seen_below rows at ks i place) e
    ∙ sym (veiled_below rows at d i place (sym (equal_shown rows c d e (i ∷ place)) ∙ h)))

offence_veiled : (db : List ℕ) (info : Option Collection) (rows : List Row) (v : Visit)
    → offence_by db info rows (veil rows v) ≡ offence_by db info rows v
offence_veiled db info rows v =
    ap₂ first_reason ((target_veiled db rows).read v)
    (ap₂ first_reason ((view_veiled info rows).read v) ((content_veiled rows).read v))

offence_behind : (db : List ℕ) (info : Option Collection) (rows : List Row) (o : Option Visit)
    → option_and_then (offence_by db info rows) (option_map (veil rows) o) ≡ option_and_then (offence_by db info rows) o
offence_behind db info rows None = refl
offence_behind db info rows (Some v) = offence_veiled db info rows v

-- and has the same offence
pub equal_offences : (db : List ℕ) (info : Option Collection) (rows : List Row) (at : ℕ) (c d : Items)
    → skeleton rows c ≡ skeleton rows d → (place : List ℕ)
    → is_shown rows c place ≡ true
    → offence_at db info rows at c place ≡ offence_at db info rows at d place
equal_offences db info rows at c d e place h =
    sym (offence_read db info rows at c place)
    ∙ sym (offence_behind db info rows (visit_at rows at c place))
    ∙ ap (option_and_then (offence_by db info rows)) (equal_visits rows at c d e place h)
    ∙ offence_behind db info rows (visit_at rows at d place)
    ∙ offence_read db info rows at d place

start_behind : (rows : List Row) (o : Option Visit)
    → option_map (λ v. v.start) (option_map (veil rows) o) ≡ option_map (λ v. v.start) o
start_behind rows None = refl
start_behind rows (Some v) = refl

-- and its value begins at the same offset
pub equal_starts : (rows : List Row) (at : ℕ) (c d : Items) → skeleton rows c ≡ skeleton rows d → (place : List ℕ)
    → is_shown rows c place ≡ true
    → option_map (λ v. v.start) (visit_at rows at c place) ≡ option_map (λ v. v.start) (visit_at rows at d place)
equal_starts rows at c d e place h =
    sym (start_behind rows (visit_at rows at c place))
    ∙ (ap (option_map (λ (v : Visit). v.start)) (equal_visits rows at c d e place h)
    ∙ start_behind rows (visit_at rows at d place))
