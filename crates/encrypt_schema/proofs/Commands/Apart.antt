-- The protected places of a command stand apart, and are the holes of its skeleton.
use Rattle.std.proofs.Common.{◌≡◌, ℕ, ◌+◌, ◌≤◌, Bool, true, false, cond, List, [], ◌∷◌, ◌++◌, length, map, refl, sym}
use Rattle.std.proofs.Common.{ap, ◌∙◌, subst, arith}
use Rattle.std.proofs.lemmas.Bool.{false≢true}
use Rattle.std.proofs.lemmas.List.{map-append, append_assoc}
use Rattle.bson_tree.specs.Tree.{Tree, leaf, node, Items, no_items, item}
use Rattle.bson_tree.specs.Spelling.{framed, value_bytes, items_bytes, doc_bytes}
use Rattle.encrypt_schema.specs.declared.command.marks.Mark.{Mark}
use Rattle.encrypt_schema.specs.Language.Row.{Row}
use Rattle.encrypt_schema.specs.Commands.Stations.{Station, Outside, Store, Compare, station, has_role}
use Rattle.encrypt_schema.specs.Commands.Pointers.{Targets, pointed}
use Rattle.encrypt_schema.specs.Commands.Visits.{is_payload, entry, command_entry, Visit, visit, visits, command_visit}
use Rattle.encrypt_schema.specs.Commands.Visits.{mark_at, marks, roles, target_of}
use Rattle.encrypt_schema.specs.Commands.Skeletons.{hole, plain, branch, skeleton_in, skeletons, skeleton, width_of}
use Rattle.encrypt_schema.specs.Commands.Skeletons.{holes_in, holes, hole_at, AreApart}
use Rattle.encrypt_schema.proofs.Commands.Tables.{command_without_role}
use Rattle.encrypt_schema.proofs.Commands.Widths.{items_length, width_kept}
use Rattle.bson_tree.proofs.Sizes.{framed_size}
use Rattle.encrypt_schema.proofs.Commands.Worlds.{shown_in, shown}
use Rattle.encrypt_schema.proofs.Commands.Silence.{marks_append, cut, target_quiet}

-- marks between two offsets stand between wider ones too
wider : (from low : ℕ) (ms : List Mark) (high to : ℕ) → from ≤ low → high ≤ to → AreApart low ms high
    → AreApart from ms to
wider from low [] high to p q a = omega (arith, p, q, a)
wider from low (m ∷ ms) high to p q a =
    (omega (arith, p, a.0), a.1, wider m.end m.end ms high to (omega arith) q a.2)

-- marks in one range, and marks in the next
apart_append : (from middle to : ℕ) (ms ns : List Mark) → AreApart from ms middle → AreApart middle ns to
    → AreApart from (ms ++ ns) to
apart_append from middle to [] ns a b = wider from middle ns to to a (omega arith) b
apart_append from middle to (m ∷ ms) ns a b = (a.0, a.1, apart_append m.end middle to ms ns a.2 b)

-- a value's own mark, or the marks inside it
apart_own : (u : Station) (v : Visit) (inside : List Mark) (from : ℕ) → from + 2 ≤ v.start
    → (has_role u ≡ true → inside ≡ [])
    → AreApart v.start inside (v.start + v.width) → AreApart from (mark_at u v ++ inside) (v.start + v.width)
apart_own (Store i) v inside from p q a =
    subst (λ (ms : List Mark). AreApart from (mark_at (Store i) v ++ ms) (v.start + v.width)) (sym (q refl))
    (p, omega arith, omega arith)
apart_own (Compare i) v inside from p q a =
    subst (λ (ms : List Mark). AreApart from (mark_at (Compare i) v ++ ms) (v.start + v.width)) (sym (q refl))
    (p, omega arith, omega arith)
apart_own _ v inside from p q a =
    wider from v.start inside (v.start + v.width) (v.start + v.width) (omega (arith, p)) (omega arith) a

-- nothing is shown inside a protected value
none_inside : (rows : List Row) (u : Station) (ts : Targets) (at : ℕ) (t : Tree) → has_role u ≡ true
    → marks rows (shown_in rows u ts at t) ≡ []
none_inside rows u ts at (leaf tag bytes) h = refl
none_inside rows u ts at (node tag is) h =
    ap (λ (b : Bool). marks rows (cond b [] (shown rows u (pointed rows u ts at is) (at + 4) [] is))) h

apart_node : (rows : List Row) (u : Station) (ts : Targets) (at : ℕ) (is : Items) (b : Bool)
    → AreApart (at + 4) (marks rows (shown rows u (pointed rows u ts at is) (at + 4) [] is))
    (at + 4 + length (items_bytes is))
    → AreApart at (marks rows (cond b [] (shown rows u (pointed rows u ts at is) (at + 4) [] is)))
    (at + length (framed (items_bytes is)))
apart_node rows u ts at is true a = omega arith
apart_node rows u ts at is false a =
    wider at (at + 4) (marks rows (shown rows u (pointed rows u ts at is) (at + 4) [] is))
    (at + 4 + length (items_bytes is))
    (at + length (framed (items_bytes is)))
    (omega arith) (omega (arith, framed_size (items_bytes is))) a

-- the marks of one element, and of those behind it
apart_item : (rows : List Row) (s : Station) (ts : Targets) (at : ℕ) (elder : List (List ℕ)) (name : List ℕ) (t : Tree)
    (is : Items)
    → AreApart
    (at + (2 + length name))
    (marks rows (shown_in rows (station rows s (entry name t)) ts (at + (2 + length name)) t))
    (at + (2 + length name) + length (value_bytes t))
    → AreApart
    (at + (2 + length name) + length (value_bytes t))
    (marks rows (shown rows s ts (at + (2 + length name) + length (value_bytes t)) (elder ++ name ∷ []) is))
    (at + (2 + length name) + length (value_bytes t) + length (items_bytes is))
    → AreApart at (marks rows (shown rows s ts at elder (item name t is))) (at + length (items_bytes (item name t is)))
apart_item rows s ts at elder name t is a b =
    let u = station rows s (entry name t) in
    let v = visit s ts elder at name t in
    let inside = marks rows (shown_in rows u ts (at + (2 + length name)) t) in
    let behind =
    marks rows (shown rows s ts (at + (2 + length name) + length (value_bytes t)) (elder ++ name ∷ []) is) in
    let own = apart_own u v inside at (omega arith) (none_inside rows u ts (at + (2 + length name)) t) a in
    let both = apart_append at (v.start + v.width) (v.start + v.width + length (items_bytes is))
    (mark_at u v ++ inside) behind own b in
    let list : (mark_at u v ++ inside) ++ behind ≡ marks rows (shown rows s ts at elder (item name t is))
    = append_assoc (mark_at u v) inside behind
    ∙ ap (λ (ms : List Mark). mark_at u v ++ ms)
    (sym (marks_append rows (shown_in rows u ts (at + (2 + length name)) t)
    (shown rows s ts (at + (2 + length name) + length (value_bytes t)) (elder ++ name ∷ []) is)))
    in
    let end : v.start + v.width + length (items_bytes is) ≡ at + length (items_bytes (item name t is)) =
    omega (arith, items_length name t is) in
    subst (λ (ms : List Mark). AreApart at ms (at + length (items_bytes (item name t is)))) list
    (subst (λ (to : ℕ). AreApart at ((mark_at u v ++ inside) ++ behind) to) end both)

mutual
  apart_in : (rows : List Row) (u : Station) (ts : Targets) (at : ℕ) (t : Tree)
      → AreApart at (marks rows (shown_in rows u ts at t)) (at + length (value_bytes t))
  apart_in rows u ts at (leaf tag bytes) = omega arith
  apart_in rows u ts at (node tag is) = apart_node rows u ts at is (has_role u)
      (apart_among rows u (pointed rows u ts at is) (at + 4) [] is)

  apart_among : (rows : List Row) (s : Station) (ts : Targets) (at : ℕ) (elder : List (List ℕ)) (is : Items)
      → AreApart at (marks rows (shown rows s ts at elder is)) (at + length (items_bytes is))
  apart_among rows s ts at elder no_items = omega arith
  apart_among rows s ts at elder (item name t is) =
      apart_item rows s ts at elder name t is
      (apart_in rows (station rows s (entry name t)) ts (at + (2 + length name)) t)
      (apart_among rows s ts (at + (2 + length name) + length (value_bytes t)) (elder ++ name ∷ []) is)

command_mark : (rows : List Row) (c : Items) (u : Station) → has_role u ≡ false
    → mark_at u (command_visit c) ≡ []
command_mark rows c (Store i) h = absurd (false≢true (sym h))
command_mark rows c (Compare i) h = absurd (false≢true (sym h))
command_mark rows c _ h = refl

-- the marks of a command are those of what is shown of its elements
pub roles_shown : (rows : List Row) (at : ℕ) (c : Items)
    → roles rows at c
    ≡ marks rows
    (shown rows (station rows Outside (command_entry c))
    (pointed rows (station rows Outside (command_entry c)) [] at c) (at + 4) [] c)
roles_shown rows at c =
    let s = station rows Outside (command_entry c) in
    ap (λ (ms : List Mark). ms ++ marks rows (visits rows s (pointed rows s [] at c) (at + 4) [] c))
    (command_mark rows c s (command_without_role rows (command_entry c)))
    ∙ sym (cut (target_of []) rows s (pointed rows s [] at c) (at + 4) [] c (target_quiet [])).marked

-- the protected places of a command stand apart between its length field and its end: in reading order, none
-- twice, none inside another
pub roles_apart : (rows : List Row) (at : ℕ) (c : Items)
    → AreApart (at + 4) (roles rows at c) (at + length (doc_bytes c))
roles_apart rows at c =
    let s = station rows Outside (command_entry c) in
    let a = apart_among rows s (pointed rows s [] at c) (at + 4) [] c in
    subst (λ (ms : List Mark). AreApart (at + 4) ms (at + length (doc_bytes c))) (sym (roles_shown rows at c))
    (wider (at + 4) (at + 4) (marks rows (shown rows s (pointed rows s [] at c) (at + 4) [] c))
    (at + 4 + length (items_bytes c))
    (at + length (doc_bytes c)) (omega arith) (omega (arith, framed_size (items_bytes c))) a)

-- a value's own hole, or the holes inside it

hole_leaf : (u : Station) (v : Visit) (tag : ℕ) (bytes : List ℕ) → v.entry.tag ≡ tag → v.width ≡ length bytes
    → holes_in v.start (cond (has_role u) (hole tag (length bytes) (is_payload tag bytes)) (plain tag bytes))
    ≡ map hole_at (mark_at u v ++ [])
hole_leaf (Store i) v tag bytes p q = let a = sym p in let b = sym q in cc
hole_leaf (Compare i) v tag bytes p q = let a = sym p in let b = sym q in cc
hole_leaf _ v tag bytes p q = refl

hole_node : (rows : List Row) (u : Station) (ts : Targets) (v : Visit) (tag width : ℕ) (is : Items) → v.entry.tag ≡ tag
    → v.width ≡ width
    → holes (v.start + 4) (skeletons rows u is)
    ≡ map hole_at (marks rows (shown rows u (pointed rows u ts v.start is) (v.start + 4) [] is))
    → holes_in v.start (cond (has_role u) (hole tag width false) (branch tag (skeletons rows u is)))
    ≡ map hole_at
    (mark_at u v
    ++ marks rows (cond (has_role u) [] (shown rows u (pointed rows u ts v.start is) (v.start + 4) [] is)))
hole_node rows (Store i) ts v tag width is p q h = let a = sym p in let b = sym q in cc
hole_node rows (Compare i) ts v tag width is p q h = let a = sym p in let b = sym q in cc
hole_node rows _ ts v tag width is p q h = h

-- the marks of one element: its own, or those inside it
abbrev pub own_marks : List Row → Station → Targets → List (List ℕ) → ℕ → List ℕ → Tree → List Mark
own_marks rows s ts elder at name t =
    mark_at (station rows s (entry name t)) (visit s ts elder at name t)
    ++ marks rows (shown_in rows (station rows s (entry name t)) ts (at + (2 + length name)) t)

holes_item : (rows : List Row) (s : Station) (ts : Targets) (at : ℕ) (elder : List (List ℕ)) (name : List ℕ) (t : Tree)
    (is : Items)
    → holes_in (at + (2 + length name)) (skeleton_in rows (station rows s (entry name t)) t)
    ≡ map hole_at (own_marks rows s ts elder at name t)
    → holes (at + (2 + length name) + length (value_bytes t)) (skeletons rows s is)
    ≡ map hole_at
    (marks rows (shown rows s ts (at + (2 + length name) + length (value_bytes t)) (elder ++ name ∷ []) is))
    → holes at (skeletons rows s (item name t is))
    ≡ map hole_at (marks rows (shown rows s ts at elder (item name t is)))
holes_item rows s ts at elder name t is a b =
    let u = station rows s (entry name t) in
    let k = skeleton_in rows u t in
    let v = visit s ts elder at name t in
    let inside = shown_in rows u ts (at + (2 + length name)) t in
    let rest = shown rows s ts (at + (2 + length name) + length (value_bytes t)) (elder ++ name ∷ []) is in
    let w : width_of k ≡ length (value_bytes t) = width_kept rows u t in
    let c : holes at (skeletons rows s (item name t is))
    ≡ holes_in (at + (2 + length name)) k ++ holes (at + (2 + length name) + length (value_bytes t))
    (skeletons rows s is)
    = ap (λ (n : ℕ). holes_in (at + (2 + length name)) k ++ holes (at + (2 + length name) + n) (skeletons rows s is)) w
    in
    let d : marks rows (shown rows s ts at elder (item name t is)) ≡ (mark_at u v ++ marks rows inside)
    ++ marks rows rest
    = ap (λ (ms : List Mark). mark_at u v ++ ms) (marks_append rows inside rest)
    ∙ sym (append_assoc (mark_at u v) (marks rows inside) (marks rows rest)) in
    let e : map hole_at ((mark_at u v ++ marks rows inside) ++ marks rows rest)
    ≡ map hole_at (mark_at u v ++ marks rows inside) ++ map hole_at (marks rows rest)
    = map-append hole_at (mark_at u v ++ marks rows inside) (marks rows rest) in
    let f : map hole_at (marks rows (shown rows s ts at elder (item name t is)))
    ≡ map hole_at ((mark_at u v ++ marks rows inside) ++ marks rows rest) = ap (map hole_at) d in
    cc

mutual
  holes_own : (rows : List Row) (s : Station) (ts : Targets) (at : ℕ) (elder : List (List ℕ)) (name : List ℕ) (t : Tree)
      → holes_in (at + (2 + length name)) (skeleton_in rows (station rows s (entry name t)) t)
      ≡ map hole_at (own_marks rows s ts elder at name t)
  holes_own rows s ts at elder name (leaf tag bytes) =
      hole_leaf (station rows s (entry name (leaf tag bytes)))
      (visit s ts elder at name (leaf tag bytes)) tag bytes refl refl
  holes_own rows s ts at elder name (node tag is) =
      hole_node rows (station rows s (entry name (node tag is))) ts (visit s ts elder at name (node tag is)) tag
      (length (value_bytes (node tag is))) is refl refl
      (holes_among rows (station rows s (entry name (node tag is)))
      (pointed rows (station rows s (entry name (node tag is))) ts (at + (2 + length name)) is)
      (at + (2 + length name) + 4) [] is)

  holes_among : (rows : List Row) (s : Station) (ts : Targets) (at : ℕ) (elder : List (List ℕ)) (is : Items)
      → holes at (skeletons rows s is) ≡ map hole_at (marks rows (shown rows s ts at elder is))
  holes_among rows s ts at elder no_items = refl
  holes_among rows s ts at elder (item name t is) =
      holes_item rows s ts at elder name t is
      (holes_own rows s ts at elder name t)
      (holes_among rows s ts (at + (2 + length name) + length (value_bytes t)) (elder ++ name ∷ []) is)

-- the holes of a command's skeleton are its protected places: starts, ends and type bytes
pub holes_are_roles : (rows : List Row) (at : ℕ) (c : Items)
    → holes (at + 4) (skeleton rows c) ≡ map hole_at (roles rows at c)
holes_are_roles rows at c =
    holes_among rows (station rows Outside (command_entry c))
    (pointed rows (station rows Outside (command_entry c)) [] at c) (at + 4) [] c
    ∙ ap (map hole_at) (sym (roles_shown rows at c))
