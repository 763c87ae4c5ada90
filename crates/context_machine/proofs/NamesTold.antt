-- The texts that the marks of a command name are those of their rules' targets.
use Rattle.std.proofs.Common.{◌≡◌, ◌∙◌, ℕ, ◌+◌, List, [], ◌∷◌, ◌++◌, length, map, Option, option_map, refl, sym, ap}
use Rattle.std.proofs.Common.{arith}
use Rattle.std.proofs.lemmas.List.{append-nil, map-append}
use Rattle.bson_codec.specs.Borrowed.{At}
use Rattle.bson_tree.specs.Spelling.{items_bytes, value_bytes}
use Rattle.bson_tree.specs.Tree.{Tree, leaf, node, Items, no_items, item}
use Rattle.encrypt_schema.specs.declared.command.marks.Mark.{Mark}
use Rattle.encrypt_schema.specs.Commands.Pointers.{Targets, is_whole, pointed}
use Rattle.encrypt_schema.specs.Commands.Stations.{Station, Outside, Store, Compare, station}
use Rattle.encrypt_schema.specs.Commands.Visits.{Visit, command_entry, command_visits, entry, mark_at, marks, roles}
use Rattle.encrypt_schema.specs.Commands.Visits.{station_of, text_at, text_in, texts, visits, visits_in}
use Rattle.encrypt_schema.specs.Language.Row.{Row}
use Rattle.encrypt_schema.proofs.Commands.PointerTexts.{Part, items_part, part_of_part, rest_part, value_part}
use Rattle.payload6.specs.Needs.{name_text}
use Rattle.encrypt_schema.proofs.Commands.SpanTexts.{Tells, command_told, told_inside}

module _ (rows : List Row) (first : ℕ) (bytes : List ℕ) where
  -- the spans of these targets read their texts
  abbrev AreTold : Targets → Type 0
  AreTold ts = Tells first bytes ts ts

  -- so do those of each place
  abbrev AllTold : List Visit → Type 0
  AllTold [] = Unit {0}
  AllTold (v ∷ vs) = AreTold v.targets × AllTold vs

  both_told : (vs us : List Visit) → AllTold vs → AllTold us → AllTold (vs ++ us)
  both_told [] us a b = b
  both_told (v ∷ vs) us a b = (a.0, both_told vs us a.1 b)

  mutual
    told_in : (s : Station) (ts : Targets) (at : ℕ) (t : Tree) → Part first bytes at (value_bytes t) → AreTold ts
        → AllTold (visits_in rows s ts at t)
    told_in s ts at (leaf tag b) p told = tt
    told_in s ts at (node tag is) p told =
        told_among s (pointed rows s ts at is) (at + 4) [] is
        (part_of_part first bytes at (value_bytes (node tag is)) (at + 4) (items_bytes is) p (items_part at tag is))
        (told_inside rows first bytes ts ts at at is (is_whole s) p told)

    told_among : (s : Station) (ts : Targets) (at : ℕ) (elder : List (List ℕ)) (is : Items)
        → Part first bytes at (items_bytes is) → AreTold ts → AllTold (visits rows s ts at elder is)
    told_among s ts at elder no_items p told = tt
    told_among s ts at elder (item name t is) p told = (
      told,
      both_told (visits_in rows (station rows s (entry name t)) ts (at + (2 + length name)) t)
          (visits rows s ts (at + (2 + length name) + length (value_bytes t)) (elder ++ name ∷ []) is)
          (told_in (station rows s (entry name t)) ts (at + (2 + length name)) t
          (part_of_part first bytes at (items_bytes (item name t is)) (at + (2 + length name)) (value_bytes t) p
          (value_part at name t is)) told)
          (told_among s ts (at + (2 + length name) + length (value_bytes t)) (elder ++ name ∷ []) is
          (part_of_part first bytes at (items_bytes (item name t is)) (at + (2 + length name) + length (value_bytes t))
          (items_bytes is) p (rest_part at name t is)) told),
    )

  -- the text that a mark's span reads
  abbrev text_of : Mark → Option (List ℕ)
  text_of m = option_map (text_in first bytes) m.name

  own_text : (s : Station) (v : Visit) → AreTold v.targets → map text_of (mark_at s v) ≡ text_at s v
  own_text (Store i) v told = ap (λ (o : Option (List ℕ)). o ∷ []) (told i)
  own_text (Compare i) v told = ap (λ (o : Option (List ℕ)). o ∷ []) (told i)
  own_text _ v told = refl

  all_texts : (vs : List Visit) → AllTold vs → map text_of (marks rows vs) ≡ texts rows vs
  all_texts [] told = refl
  all_texts (v ∷ vs) told =
      map-append text_of (mark_at (station_of rows v) v) (marks rows vs)
      ∙ ap (λ (xs : List (Option (List ℕ))). xs ++ map text_of (marks rows vs)) (own_text (station_of rows v) v told.0)
      ∙ ap (λ (xs : List (Option (List ℕ))). text_at (station_of rows v) v ++ xs) (all_texts vs told.1)

-- the elements of a command are a part of themselves
self_part : (at : ℕ) (bytes : List ℕ) → Part at bytes at bytes
self_part at bytes = record {
  front = [];
  behind = [];
  whole = sym (append-nil bytes);
  starts = omega arith;
}

pub names_told : (rows : List Row) (d : At)
    → map (name_text d) (roles rows d.start d.tree) ≡ texts rows (command_visits rows d.start d.tree)
names_told rows d =
    let first = d.start + 4 in
    let bytes = items_bytes d.tree in
    let s = station rows Outside (command_entry d.tree) in
    all_texts rows first bytes (command_visits rows d.start d.tree) (
      λ i. refl,
      told_among rows first bytes s (pointed rows s [] d.start d.tree) first [] d.tree (self_part first bytes)
          (command_told rows first bytes d.start d.start d.tree),
    )
