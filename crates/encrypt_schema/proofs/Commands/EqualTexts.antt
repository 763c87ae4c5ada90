-- Two commands with equal skeletons have the same texts of pointers' targets.
use Rattle.std.proofs.Common.{◌≡◌, ℕ, ◌+◌, Bool, true, false, cond, List, [], ◌∷◌, ◌++◌, length, map, Option}
use Rattle.std.proofs.Common.{refl}
use Rattle.std.proofs.Common.{sym, ap, ◌∙◌}
use Rattle.std.proofs.lemmas.List.{append_assoc}
use Rattle.bson_tree.specs.Tree.{Tree, leaf, node, Items, no_items, item}
use Rattle.bson_tree.specs.Spelling.{value_bytes}
use Rattle.encrypt_schema.specs.Language.Row.{Row}
use Rattle.encrypt_schema.specs.Commands.Pointers.{Targets, pointed}
use Rattle.encrypt_schema.specs.Commands.Skeletons.{skeleton}
use Rattle.encrypt_schema.specs.Commands.Stations.{Station, Outside, Store, Compare, station, has_role, is_silent}
use Rattle.encrypt_schema.specs.Commands.Visits.{entry, command_entry, Visit, visit, visits_in, visits, command_visits}
use Rattle.encrypt_schema.specs.Commands.Visits.{command_visit, station_of, text_at, texts}
use Rattle.encrypt_schema.proofs.Commands.Silence.{child_passed, role_silent}
use Rattle.encrypt_schema.proofs.Commands.Tables.{without, station_without}
use Rattle.encrypt_schema.proofs.Commands.TwoWorlds.{shown_equal}
use Rattle.encrypt_schema.proofs.Commands.Worlds.{shown_in, shown, command_shown, veil}

pub texts_append : (rows : List Row) (vs us : List Visit) → texts rows (vs ++ us) ≡ texts rows vs ++ texts rows us
texts_append rows [] us = refl
texts_append rows (v ∷ vs) us =
    ap (λ (xs : List (Option (List ℕ))). text_at (station_of rows v) v ++ xs) (texts_append rows vs us)
    ∙ sym (append_assoc (text_at (station_of rows v) v) (texts rows vs) (texts rows us))

silent_item : (rows : List Row) (s : Station) (ts : Targets) (elder : List (List ℕ)) (at : ℕ) (name : List ℕ)
    (t : Tree) (vs us : List Visit) → is_silent s ≡ true → texts rows vs ≡ [] → texts rows us ≡ []
    → texts rows (visit s ts elder at name t ∷ (vs ++ us)) ≡ []
silent_item rows s ts elder at name t vs us h p q =
    ap (λ (u : Station). text_at u (visit s ts elder at name t) ++ texts rows (vs ++ us))
    (child_passed rows s (entry name t) h)
    ∙ texts_append rows vs us ∙ ap (λ (xs : List (Option (List ℕ))). xs ++ texts rows us) p ∙ q

mutual
  silent_in : (rows : List Row) (s : Station) (ts : Targets) (at : ℕ) (t : Tree) → is_silent s ≡ true
      → texts rows (visits_in rows s ts at t) ≡ []
  silent_in rows s ts at (leaf tag bytes) h = refl
  silent_in rows s ts at (node tag is) h = silent_among rows s (pointed rows s ts at is) (at + 4) [] is h

  silent_among : (rows : List Row) (s : Station) (ts : Targets) (at : ℕ) (elder : List (List ℕ)) (is : Items)
      → is_silent s ≡ true → texts rows (visits rows s ts at elder is) ≡ []
  silent_among rows s ts at elder no_items h = refl
  silent_among rows s ts at elder (item name t is) h =
      silent_item rows s ts elder at name t
      (visits_in rows (station rows s (entry name t)) ts (at + (2 + length name)) t)
      (visits rows s ts (at + (2 + length name) + length (value_bytes t)) (elder ++ name ∷ []) is) h
      (silent_in rows (station rows s (entry name t)) ts (at + (2 + length name)) t
      (ap is_silent (child_passed rows s (entry name t) h)))
      (silent_among rows s ts (at + (2 + length name) + length (value_bytes t)) (elder ++ name ∷ []) is h)

cut_node : (rows : List Row) (s : Station) (ts : Targets) (at : ℕ) (is : Items) (b : Bool) → has_role s ≡ b
    → texts rows (shown rows s ts at [] is) ≡ texts rows (visits rows s ts at [] is)
    → texts rows (cond b [] (shown rows s ts at [] is)) ≡ texts rows (visits rows s ts at [] is)
cut_node rows s ts at is true h p = sym (silent_among rows s ts at [] is (role_silent s h))
cut_node rows s ts at is false h p = p

cut_item : (rows : List Row) (v : Visit) (vs us xs ys : List Visit) → texts rows vs ≡ texts rows us
    → texts rows xs ≡ texts rows ys → texts rows (v ∷ (vs ++ xs)) ≡ texts rows (v ∷ (us ++ ys))
cut_item rows v vs us xs ys p q =
    ap (λ (zs : List (Option (List ℕ))). text_at (station_of rows v) v ++ zs)
    (texts_append rows vs xs
    ∙ ap (λ (zs : List (Option (List ℕ))). zs ++ texts rows xs) p
    ∙ ap (λ (zs : List (Option (List ℕ))). texts rows us ++ zs) q
    ∙ sym (texts_append rows us ys))

mutual
  cut_in : (rows : List Row) (s : Station) (ts : Targets) (at : ℕ) (t : Tree)
      → texts rows (shown_in rows s ts at t) ≡ texts rows (visits_in rows s ts at t)
  cut_in rows s ts at (leaf tag bytes) = refl
  cut_in rows s ts at (node tag is) =
      cut_node rows s (pointed rows s ts at is) (at + 4) is (has_role s) refl
      (cut rows s (pointed rows s ts at is) (at + 4) [] is)

  pub cut : (rows : List Row) (s : Station) (ts : Targets) (at : ℕ) (elder : List (List ℕ)) (is : Items)
      → texts rows (shown rows s ts at elder is) ≡ texts rows (visits rows s ts at elder is)
  cut rows s ts at elder no_items = refl
  cut rows s ts at elder (item name t is) =
      cut_item rows (visit s ts elder at name t)
      (shown_in rows (station rows s (entry name t)) ts (at + (2 + length name)) t)
      (visits_in rows (station rows s (entry name t)) ts (at + (2 + length name)) t)
      (shown rows s ts (at + (2 + length name) + length (value_bytes t)) (elder ++ name ∷ []) is)
      (visits rows s ts (at + (2 + length name) + length (value_bytes t)) (elder ++ name ∷ []) is)
      (cut_in rows (station rows s (entry name t)) ts (at + (2 + length name)) t)
      (cut rows s ts (at + (2 + length name) + length (value_bytes t)) (elder ++ name ∷ []) is)

text_without : (s : Station) (v : Visit) → text_at s (record v { entry = without v.entry }) ≡ text_at s v
text_without (Store i) v = refl
text_without (Compare i) v = refl
text_without _ v = refl

text_veiled : (rows : List Row) (v : Visit) (b : Bool) → has_role (station_of rows v) ≡ b
    → text_at (station rows v.parent (cond b (without v.entry) v.entry))
    (record v { entry = cond b (without v.entry) v.entry }) ≡ text_at (station_of rows v) v
text_veiled rows v true h =
    ap (λ (s : Station). text_at s (record v { entry = without v.entry })) (station_without rows v.parent v.entry h)
    ∙ text_without (station_of rows v) v
text_veiled rows v false h = refl

texts_veiled : (rows : List Row) (vs : List Visit) → texts rows (map (veil rows) vs) ≡ texts rows vs
texts_veiled rows [] = refl
texts_veiled rows (v ∷ vs) =
    let a = text_veiled rows v (has_role (station_of rows v)) refl in let b = texts_veiled rows vs in cc

shown_texts : (rows : List Row) (at : ℕ) (c : Items)
    → texts rows (map (veil rows) (command_shown rows at c)) ≡ texts rows (command_visits rows at c)
shown_texts rows at c =
    let u = station rows Outside (command_entry c) in
    texts_veiled rows (command_shown rows at c)
    ∙ ap (λ (xs : List (Option (List ℕ))). text_at u (command_visit c) ++ xs)
    (cut rows u (pointed rows u [] at c) (at + 4) [] c)

-- commands with equal skeletons have the same texts of pointers' targets
pub equal_texts : (rows : List Row) (at : ℕ) (c d : Items) → skeleton rows c ≡ skeleton rows d
    → texts rows (command_visits rows at c) ≡ texts rows (command_visits rows at d)
equal_texts rows at c d e =
    sym (shown_texts rows at c) ∙ (ap (texts rows) (shown_equal rows at c d e) ∙ shown_texts rows at d)
