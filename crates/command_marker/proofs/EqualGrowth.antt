-- Commands with equal skeletons have equal names of keys, and their markings add as many bytes.
use Rattle.std.proofs.Common.{◌≡◌, ◌∙◌, ℕ, ◌+◌, List, [], ◌∷◌, ◌++◌, Option, length, map, option_map}
use Rattle.std.proofs.Common.{refl, sym, ap, ap₂}
use Rattle.std.proofs.lemmas.List.{map-append}
use Rattle.bson_tree.specs.Tree.{Tree, leaf, node, Items, no_items, item}
use Rattle.bson_tree.specs.Spelling.{value_bytes, items_bytes}
use Rattle.bson_codec.specs.Borrowed.{At}
use Rattle.encrypt_schema.specs.declared.command.marks.Mark.{Mark}
use Rattle.encrypt_schema.specs.Commands.Pointers.{Targets, is_whole, pointed}
use Rattle.encrypt_schema.specs.Commands.Skeletons.{skeleton}
use Rattle.encrypt_schema.specs.Commands.Stations.{Station, Outside, Store, Compare, station}
use Rattle.encrypt_schema.specs.Commands.Visits.{Visit, command_entry, command_visits, entry, mark_at, marks, roles}
use Rattle.encrypt_schema.specs.Commands.Visits.{station_of, text_at, text_in, texts, visits, visits_in}
use Rattle.encrypt_schema.specs.Language.Policies.{policy_at}
use Rattle.encrypt_schema.specs.Language.Row.{Row}
use Rattle.encrypt_schema.proofs.Commands.EqualTexts.{equal_texts}
use Rattle.encrypt_schema.proofs.Commands.PointerTexts.{Part, items_part, part_of_part, rest_part, value_part}
use Rattle.encrypt_schema.proofs.Commands.TwoWorlds.{equal_roles}
use Rattle.payload6.specs.Needs.{name_text, need_by}
use Rattle.command_marker.specs.Marking.{or_nameless}
use Rattle.command_marker.specs.Splices.{added}
use Rattle.command_marker.specs.Written.{growth, growth_by}
use Rattle.command_marker.proofs.MarkedPlaces.{self_part}
use Rattle.encrypt_schema.proofs.Commands.SpanTexts.{Tells, command_told, told_inside}

module _ (rows : List Row) (first : ℕ) (bytes : List ℕ) where
  -- the spans of places read the texts of their targets
  abbrev AreTold : List Visit → Type 0
  AreTold [] = Unit {0}
  AreTold (v ∷ vs) = Tells first bytes v.targets v.targets × AreTold vs

  both_told : (vs us : List Visit) → AreTold vs → AreTold us → AreTold (vs ++ us)
  both_told [] us a b = b
  both_told (v ∷ vs) us a b = (a.0, both_told vs us a.1 b)

  mutual
    told_in : (s : Station) (ts : Targets) (at : ℕ) (t : Tree) → Part first bytes at (value_bytes t)
        → Tells first bytes ts ts → AreTold (visits_in rows s ts at t)
    told_in s ts at (leaf tag b) p h = tt
    told_in s ts at (node tag is) p h =
        told_among s (pointed rows s ts at is) (at + 4) [] is
        (part_of_part first bytes at (value_bytes (node tag is)) (at + 4) (items_bytes is) p (items_part at tag is))
        (told_inside rows first bytes ts ts at at is (is_whole s) p h)

    told_among : (s : Station) (ts : Targets) (at : ℕ) (elder : List (List ℕ)) (is : Items)
        → Part first bytes at (items_bytes is) → Tells first bytes ts ts → AreTold (visits rows s ts at elder is)
    told_among s ts at elder no_items p h = tt
    told_among s ts at elder (item name t is) p h = (
      h,
      both_told (visits_in rows (station rows s (entry name t)) ts (at + (2 + length name)) t)
          (visits rows s ts (at + (2 + length name) + length (value_bytes t)) (elder ++ name ∷ []) is)
          (told_in (station rows s (entry name t)) ts (at + (2 + length name)) t
          (part_of_part first bytes at (items_bytes (item name t is)) (at + (2 + length name)) (value_bytes t) p
          (value_part at name t is)) h)
          (told_among s ts (at + (2 + length name) + length (value_bytes t)) (elder ++ name ∷ []) is
          (part_of_part first bytes at (items_bytes (item name t is)) (at + (2 + length name) + length (value_bytes t))
          (items_bytes is) p (rest_part at name t is)) h),
    )

  -- the name of a mark, as its span reads it
  abbrev read : Mark → Option (List ℕ)
  read m = option_map (text_in first bytes) m.name

  own_names : (s : Station) (v : Visit) → Tells first bytes v.targets v.targets
      → map read (mark_at s v) ≡ text_at s v
  own_names (Store i) v h = ap (λ (o : Option (List ℕ)). o ∷ []) (h i)
  own_names (Compare i) v h = ap (λ (o : Option (List ℕ)). o ∷ []) (h i)
  own_names _ v h = refl

  all_names : (vs : List Visit) → AreTold vs → map read (marks rows vs) ≡ texts rows vs
  all_names [] a = refl
  all_names (v ∷ vs) a =
      map-append read (mark_at (station_of rows v) v) (marks rows vs)
      ∙ ap₂ (λ (xs ys : List (Option (List ℕ))). xs ++ ys) (own_names (station_of rows v) v a.0) (all_names vs a.1)

-- the names of a command's marks, as a marking reads them, are the texts of its rules' targets
pub names_told : (rows : List Row) (d : At)
    → map (name_text d) (roles rows d.start d.tree) ≡ texts rows (command_visits rows d.start d.tree)
names_told rows d =
    let first = d.start + 4 in
    let bytes = items_bytes d.tree in
    let s = station rows Outside (command_entry d.tree) in
    all_names rows first bytes (command_visits rows d.start d.tree) (
      λ i. refl,
      told_among rows first bytes s (pointed rows s [] d.start d.tree) first [] d.tree (self_part first bytes)
          (command_told rows first bytes d.start d.start d.tree),
    )

-- what marks add depends on their names alone
grown_alike : (rows : List Row) (c d : At) (ms : List Mark) → map (name_text c) ms ≡ map (name_text d) ms
    → added (growth_by rows c) ms ≡ added (growth_by rows d) ms
grown_alike rows c d [] e = refl
grown_alike rows c d (m ∷ ms) e =
    let here : name_text c m ≡ name_text d m = cc in
    let there : map (name_text c) ms ≡ map (name_text d) ms = cc in
    ap₂ (λ (o : Option (List ℕ)) (n : ℕ). growth (or_nameless (need_by (policy_at m.policy rows).key o)) + n) here
    (grown_alike rows c d ms there)

-- commands with equal skeletons have replies that are longer by as much
pub equal_growth : (rows : List Row) (at : ℕ) (c d : Items) → skeleton rows c ≡ skeleton rows d
    → added (growth_by rows (record { tree = c; start = at })) (roles rows at c)
    ≡ added (growth_by rows (record { tree = d; start = at })) (roles rows at d)
equal_growth rows at c d e =
    let x : At = record { tree = c; start = at } in
    let y : At = record { tree = d; start = at } in
    let same = equal_roles rows at c d e in
    grown_alike rows x y (roles rows at c)
    (names_told rows x ∙ equal_texts rows at c d e ∙ sym (names_told rows y)
    ∙ ap (map (name_text y)) (sym same))
    ∙ ap (added (growth_by rows y)) same
