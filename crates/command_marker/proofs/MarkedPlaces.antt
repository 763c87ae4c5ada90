-- A marked command by places: at each place with a role stands the marking of its value.
use Rattle.std.proofs.Common.{◌≡◌, ℕ, zero, suc, ◌+◌, Bool, true, false, cond, List, [], ◌∷◌, ◌++◌, length, Option}
use Rattle.std.proofs.Common.{Some, None, unwrap_or, option_map, option_and_then, refl, sym, ap, ap₂, ◌∙◌, subst, arith}
use Rattle.std.proofs.lemmas.Bool.{eq-eqb}
use Rattle.std.proofs.lemmas.List.{append-nil}
use Rattle.std.specs.Prelude.{◌==◌}
use Rattle.bson_tree.specs.Tree.{Tree, leaf, node, Items, no_items, item}
use Rattle.bson_tree.specs.Places.{tree_at, value_at}
use Rattle.bson_tree.specs.Spelling.{framed, value_bytes, items_bytes}
use Rattle.bson_tree.specs.Filled.{fill_tree, fill_items, filled_in, filled_from, filled}
use Rattle.encrypt_schema.specs.declared.command.marks.Mark.{Mark}
use Rattle.encrypt_schema.specs.Commands.Chains.{Chain, onward, Link, link, chain_in, chain_from, parent_along, last_of}
use Rattle.encrypt_schema.specs.Commands.Chains.{station_along, targets_in, targets_from}
use Rattle.encrypt_schema.specs.Language.Policies.{policy_at}
use Rattle.encrypt_schema.specs.Language.Row.{Row}
use Rattle.encrypt_schema.specs.Commands.Stations.{Station, Outside, Store, Compare, station, has_role}
use Rattle.encrypt_schema.specs.Commands.Pointers.{Targets, is_whole, pointed}
use Rattle.encrypt_schema.specs.Commands.Visits.{entry, command_entry, Visit, visit, mark_at, marks, roles}
use Rattle.encrypt_schema.proofs.Commands.Worlds.{shown_in, shown}
use Rattle.encrypt_schema.proofs.Commands.Apart.{own_marks, roles_shown}
use Rattle.encrypt_schema.proofs.Commands.Taken.{marks_item, takes_among, takes_value}
use Rattle.encrypt_schema.proofs.Commands.Plans.{AreBehind, earlier, behind}
use Rattle.encrypt_schema.proofs.Commands.Widths.{items_length}
use Rattle.encrypt_schema.proofs.Commands.PointerTexts.{Part, items_part, part_of_part, rest_part, value_part}
use Rattle.bson_codec.specs.Borrowed.{At}
use Rattle.payload6.specs.Needs.{need_by}
use Rattle.bson_tree.proofs.Sizes.{framed_size}
use Rattle.command_marker.specs.Marking.{marked_value, or_nameless}
use Rattle.command_marker.specs.Marked.{marking_at, marked, marked_by}
use Rattle.command_marker.specs.MarkedPlaces.{rule_of, marking_of}
use Rattle.command_marker.specs.Splices.{put_at}
use Rattle.encrypt_schema.proofs.Commands.SpanTexts.{Tells, by_span, by_text, command_told, told_inside}
use Rattle.bson_splice.proofs.Splices.{alike}
use Rattle.command_marker.proofs.Splices.{none_put, passed_in}

-- how the text for a rule is read from targets
abbrev pub Reader : Type 0
Reader = ℕ → Targets → Option (List ℕ)

-- the marking of a value under a rule
abbrev under : List Row → Reader → Targets → Tree → ℕ → Tree
under rows f ts t i =
    marked_value (policy_at i rows).algorithm (or_nameless (need_by (policy_at i rows).key (f i ts))) t

-- where there is one
abbrev marking_under : List Row → Reader → Targets → Tree → Option ℕ → Option Tree
marking_under rows f ts t rule = option_map (under rows f ts t) rule

-- a value of this station that begins at `at`, with its markings, by stations and targets alone
abbrev mutual
  covered_in : List Row → Reader → Station → Targets → ℕ → Tree → Tree
  covered_in rows f s ts at (leaf tag bytes) =
      unwrap_or (marking_under rows f ts (leaf tag bytes) (rule_of s)) (leaf tag bytes)
  covered_in rows f s ts at (node tag is) =
      unwrap_or (marking_under rows f ts (node tag is) (rule_of s))
      (node tag (covered rows f s (pointed rows s ts at is) (at + 4) is))

  -- elements whose parent has this station
  covered : List Row → Reader → Station → Targets → ℕ → Items → Items
  covered rows f s ts at no_items = no_items
  covered rows f s ts at (item name t is) =
      item name (covered_in rows f (station rows s (entry name t)) ts (at + (2 + length name)) t)
      (covered rows f s ts (at + (2 + length name) + length (value_bytes t)) is)

-- ---- spans read what targets have

rule_told : (rows : List Row) (first : ℕ) (bytes : List ℕ) (ts us : Targets) (t : Tree) (rule : Option ℕ)
    → Tells first bytes ts us
    → marking_under rows (by_span first bytes) ts t rule ≡ marking_under rows by_text us t rule
rule_told rows first bytes ts us t None h = refl
rule_told rows first bytes ts us t (Some i) h =
    ap (λ (x : Option (List ℕ)). Some (marked_value (policy_at i rows).algorithm
    (or_nameless (need_by (policy_at i rows).key x)) t)) (h i)

mutual
  told_in : (rows : List Row) (first : ℕ) (bytes : List ℕ) (s : Station) (ts us : Targets) (at from : ℕ) (t : Tree)
      → Part first bytes at (value_bytes t) → Tells first bytes ts us
      → covered_in rows (by_span first bytes) s ts at t ≡ covered_in rows by_text s us from t
  told_in rows first bytes s ts us at from (leaf tag b) p h =
      ap (λ (o : Option Tree). unwrap_or o (leaf tag b)) (rule_told rows first bytes ts us (leaf tag b) (rule_of s) h)
  told_in rows first bytes s ts us at from (node tag is) p h =
      ap (λ (o : Option Tree). unwrap_or o
      (node tag (covered rows (by_span first bytes) s (pointed rows s ts at is) (at + 4) is)))
      (rule_told rows first bytes ts us (node tag is) (rule_of s) h)
      ∙ ap (λ (js : Items). unwrap_or (marking_under rows by_text us (node tag is) (rule_of s)) (node tag js))
      (told_among rows first bytes s (pointed rows s ts at is) (pointed rows s us from is) (at + 4) (from + 4) is
      (part_of_part first bytes at (value_bytes (node tag is)) (at + 4) (items_bytes is) p (items_part at tag is))
      (told_inside rows first bytes ts us at from is (is_whole s) p h))

  told_among : (rows : List Row) (first : ℕ) (bytes : List ℕ) (s : Station) (ts us : Targets) (at from : ℕ)
      (is : Items)
      → Part first bytes at (items_bytes is) → Tells first bytes ts us
      → covered rows (by_span first bytes) s ts at is ≡ covered rows by_text s us from is
  told_among rows first bytes s ts us at from no_items p h = refl
  told_among rows first bytes s ts us at from (item name t is) p h =
      ap₂ (λ (v : Tree) (js : Items). item name v js)
      (told_in rows first bytes (station rows s (entry name t)) ts us (at + (2 + length name))
      (from + (2 + length name)) t
      (part_of_part first bytes at (items_bytes (item name t is)) (at + (2 + length name)) (value_bytes t) p
      (value_part at name t is)) h)
      (told_among rows first bytes s ts us (at + (2 + length name) + length (value_bytes t))
      (from + (2 + length name) + length (value_bytes t)) is
      (part_of_part first bytes at (items_bytes (item name t is)) (at + (2 + length name) + length (value_bytes t))
      (items_bytes is) p (rest_part at name t is)) h)

-- the elements of a command are a part of themselves
pub self_part : (at : ℕ) (bytes : List ℕ) → Part at bytes at bytes
self_part at bytes = record {
  front = [];
  behind = [];
  whole = sym (append-nil bytes);
  starts = omega arith;
}

-- wherever a command begins, what its spans read is what its targets have
covered_told : (rows : List Row) (at : ℕ) (c : Items)
    → covered rows (by_span (at + 4) (items_bytes c)) (station rows Outside (command_entry c))
    (pointed rows (station rows Outside (command_entry c)) [] at c) (at + 4) c
    ≡ covered rows by_text (station rows Outside (command_entry c))
    (pointed rows (station rows Outside (command_entry c)) [] 0 c) 4 c
covered_told rows at c =
    let s = station rows Outside (command_entry c) in
    told_among rows (at + 4) (items_bytes c) s (pointed rows s [] at c) (pointed rows s [] 0 c) (at + 4) 4 c
    (self_part (at + 4) (items_bytes c)) (command_told rows (at + 4) (items_bytes c) at 0 c)

-- ---- by places it is the same

-- the marking at the end of a chain that begins below a value of this station
abbrev marking_along : List Row → Station → Option Chain → Targets → Option Tree → Option Tree
marking_along rows s links ts value =
    option_and_then
    (λ i. option_map (λ t. under rows by_text ts t i) value)
    (option_and_then (λ l. rule_of (station rows (parent_along rows s l) (last_of l).entry)) links)

-- a chain that begins one value further out
along_onward : (rows : List Row) (s : Station) (l : Link) (links : Option Chain) (ts : Targets) (value : Option Tree)
    → marking_along rows s (option_map (onward l) links) ts value
    ≡ marking_along rows (station rows s l.entry) links ts value
along_onward rows s l None ts value = refl
along_onward rows s l (Some links) ts value = refl

own_marking : (rows : List Row) (ts : Targets) (t : Tree) (rule : Option ℕ)
    → option_and_then (λ i. option_map (λ t. under rows by_text ts t i) (Some t)) rule
    ≡ marking_under rows by_text ts t rule
own_marking rows ts t None = refl
own_marking rows ts t (Some i) = refl

mutual
  placed_in : (rows : List Row) (s : Station) (ts : Targets) (at : ℕ) (elder : List (List ℕ)) (name : List ℕ)
      (t : Tree) (f : List ℕ → Option Tree)
      → ((place : List ℕ) → f place ≡ marking_along rows s (chain_in elder name place t)
      (targets_in rows (station rows s (entry name t)) ts at place t) (tree_at place t))
      → filled_in f t ≡ covered_in rows by_text (station rows s (entry name t)) ts at t
  placed_in rows s ts at elder name (leaf tag bytes) f h =
      ap (λ (o : Option Tree). unwrap_or o (leaf tag bytes))
      (h [] ∙ own_marking rows ts (leaf tag bytes) (rule_of (station rows s (entry name (leaf tag bytes)))))
  placed_in rows s ts at elder name (node tag is) f h =
      let u = station rows s (entry name (node tag is)) in
      ap (λ (o : Option Tree). unwrap_or o (node tag (filled_from f 0 is)))
      (h [] ∙ own_marking rows ts (node tag is) (rule_of u))
      ∙ ap (λ (js : Items). unwrap_or (marking_under rows by_text ts (node tag is) (rule_of u)) (node tag js))
      (placed_from rows u (pointed rows u ts at is) (at + 4) [] 0 is f
      (λ j k place e. ap (λ (n : ℕ). f (n ∷ place)) (omega (arith, e)) ∙ h (k ∷ place)
      ∙ along_onward rows s (link elder name (node tag is)) (chain_from [] k place is)
      (targets_from rows u (pointed rows u ts at is) (at + 4) k place is) (value_at (k ∷ place) is)))

  placed_from : (rows : List Row) (s : Station) (ts : Targets) (at : ℕ) (elder : List (List ℕ)) (i : ℕ) (is : Items)
      (f : List ℕ → Option Tree)
      → ((j k : ℕ) (place : List ℕ) → j ≡ i + k → f (j ∷ place)
      ≡ marking_along rows s (chain_from elder k place is) (targets_from rows s ts at k place is)
      (value_at (k ∷ place) is))
      → filled_from f i is ≡ covered rows by_text s ts at is
  placed_from rows s ts at elder i no_items f h = refl
  placed_from rows s ts at elder i (item name t is) f h =
      let a : filled_in (λ place. f (i ∷ place)) t
      ≡ covered_in rows by_text (station rows s (entry name t)) ts (at + (2 + length name)) t =
      placed_in rows s ts (at + (2 + length name)) elder name t (λ place. f (i ∷ place))
      (λ place. h i zero place (omega arith)) in
      let b : filled_from f (i + 1) is
      ≡ covered rows by_text s ts (at + (2 + length name) + length (value_bytes t)) is =
      placed_from rows s ts (at + (2 + length name) + length (value_bytes t)) (elder ++ name ∷ []) (i + 1) is f
      (λ j k place e. h j (suc k) place (omega (arith, e))) in
      ap₂ (λ (v : Tree) (js : Items). item name v js) a b

-- the marking at a place of a command is that at the end of its chain
at_links : (rows : List Row) (l : Link) (ts : Targets) (value : Option Tree) (links : Option Chain)
    → option_and_then
    (λ i. option_map (λ t. under rows by_text ts t i) value)
    (option_and_then rule_of (option_map (station_along rows Outside) (option_map (onward l) links)))
    ≡ marking_along rows (station rows Outside l.entry) links ts value
at_links rows l ts value None = refl
at_links rows l ts value (Some links) = refl

covered_filled : (rows : List Row) (c : Items)
    → filled (marking_of rows c) c
    ≡ covered rows by_text (station rows Outside (command_entry c))
    (pointed rows (station rows Outside (command_entry c)) [] 0 c) 4 c
covered_filled rows c =
    let s = station rows Outside (command_entry c) in
    placed_from rows s (pointed rows s [] 0 c) 4 [] 0 c (marking_of rows c)
    (λ j k place e. ap (λ (n : ℕ). marking_of rows c (n ∷ place)) (omega (arith, e))
    ∙ at_links rows (link [] [] (node 3 c)) (targets_from rows s (pointed rows s [] 0 c) 4 k place c)
    (value_at (k ∷ place) c) (chain_from [] k place c))

-- ---- and so it is by offsets

-- the marking at an offset is what the first mark there puts in
pub put_marking : (rows : List Row) (d : At) (ms : List Mark) (q : ℕ) (u : Tree)
    → put_at (marked_by rows d) ms q u ≡ marking_at rows d ms q u
put_marking rows d [] q u = refl
put_marking rows d (m ∷ ms) q u = ap (λ (o : Option Tree). cond (m.start == q) (Some (marked_by rows d m u)) o)
    (put_marking rows d ms q u)

-- how a command's spans read texts
abbrev pub reader : At → Reader
reader d = by_span (d.start + 4) (items_bytes d.tree)

filled_leaf : (rows : List Row) (d : At) (u : Station) (v : Visit) (tag : ℕ) (bytes : List ℕ) (inside rest : List Mark)
    → (has_role u ≡ false → AreBehind v.start (inside ++ rest))
    → fill_tree (put_at (marked_by rows d) ((mark_at u v ++ inside) ++ rest)) v.start (leaf tag bytes)
    ≡ covered_in rows (reader d) u v.targets v.start (leaf tag bytes)
filled_leaf rows d (Store i) v tag bytes inside rest p = let on : (v.start == v.start) ≡ true =
    eq-eqb v.start v.start refl in rw on refl
filled_leaf rows d (Compare i) v tag bytes inside rest p = let on : (v.start == v.start) ≡ true =
    eq-eqb v.start v.start refl in rw on refl
filled_leaf rows d _ v tag bytes inside rest p =
    ap (λ (o : Option Tree). unwrap_or o (leaf tag bytes))
    (none_put (marked_by rows d) (inside ++ rest) v.start (leaf tag bytes) (p refl))

filled_node : (rows : List Row) (d : At) (u : Station) (v : Visit) (tag : ℕ) (is : Items) (inside rest : List Mark)
    → (has_role u ≡ false → AreBehind v.start (inside ++ rest))
    → (has_role u ≡ false → fill_items (put_at (marked_by rows d) (inside ++ rest)) (v.start + 4) is
    ≡ covered rows (reader d) u (pointed rows u v.targets v.start is) (v.start + 4) is)
    → fill_tree (put_at (marked_by rows d) ((mark_at u v ++ inside) ++ rest)) v.start (node tag is)
    ≡ covered_in rows (reader d) u v.targets v.start (node tag is)
filled_node rows d (Store i) v tag is inside rest p q = let on : (v.start == v.start) ≡ true =
    eq-eqb v.start v.start refl in rw on refl
filled_node rows d (Compare i) v tag is inside rest p q = let on : (v.start == v.start) ≡ true =
    eq-eqb v.start v.start refl in rw on refl
filled_node rows d _ v tag is inside rest p q =
    ap (λ (o : Option Tree). unwrap_or o (node tag
    (fill_items (put_at (marked_by rows d) (inside ++ rest)) (v.start + 4) is)))
    (none_put (marked_by rows d) (inside ++ rest) v.start (node tag is) (p refl))
    ∙ ap (node tag) (q refl)

-- inside a value without a role all is shown
shown_node : (rows : List Row) (u : Station) (ts : Targets) (at tag : ℕ) (is : Items) → has_role u ≡ false
    → marks rows (shown_in rows u ts at (node tag is))
    ≡ marks rows (shown rows u (pointed rows u ts at is) (at + 4) [] is)
shown_node rows u ts at tag is h =
    ap (λ (b : Bool). marks rows (cond b [] (shown rows u (pointed rows u ts at is) (at + 4) [] is))) h

mutual
  offsets_in : (rows : List Row) (d : At) (s : Station) (ts : Targets) (at : ℕ) (elder : List (List ℕ)) (name : List ℕ)
      (t : Tree)
      (rest : List Mark)
      → AreBehind (at + (2 + length name) + length (value_bytes t)) rest
      → fill_tree (put_at (marked_by rows d) (own_marks rows s ts elder at name t ++ rest)) (at + (2 + length name)) t
      ≡ covered_in rows (reader d) (station rows s (entry name t)) ts (at + (2 + length name)) t
  offsets_in rows d s ts at elder name (leaf tag bytes) rest b =
      filled_leaf rows d (station rows s (entry name (leaf tag bytes)))
      (visit s ts elder at name (leaf tag bytes)) tag bytes [] rest
      (λ h. earlier (at + (2 + length name)) (at + (2 + length name) + length bytes) rest (omega arith) b)
  offsets_in rows d s ts at elder name (node tag is) rest b =
      let u = station rows s (entry name (node tag is)) in
      let p = at + (2 + length name) in
      let low : AreBehind (p + 4 + length (items_bytes is)) rest =
      earlier (p + 4 + length (items_bytes is)) (p + length (framed (items_bytes is))) rest
      (omega (arith, framed_size (items_bytes is))) b in
      filled_node rows d u (visit s ts elder at name (node tag is)) tag is
      (marks rows (shown_in rows u ts p (node tag is))) rest
      (λ h. subst (λ (ms : List Mark). AreBehind p (ms ++ rest)) (sym (shown_node rows u ts p tag is h))
      (earlier p (p + 4) (marks rows (shown rows u (pointed rows u ts p is) (p + 4) [] is) ++ rest) (omega arith)
      (behind (takes_among rows u (pointed rows u ts p is) (p + 4) [] is rest) low)))
      (λ h. subst (λ (ms : List Mark). fill_items (put_at (marked_by rows d) (ms ++ rest)) (p + 4) is
      ≡ covered rows (reader d) u (pointed rows u ts p is) (p + 4) is)
      (sym (shown_node rows u ts p tag is h))
      (offsets_among rows d u (pointed rows u ts p is) (p + 4) [] is rest low))

  offsets_among : (rows : List Row) (d : At) (s : Station) (ts : Targets) (at : ℕ) (elder : List (List ℕ)) (is : Items)
      (rest : List Mark)
      → AreBehind (at + length (items_bytes is)) rest
      → fill_items (put_at (marked_by rows d) (marks rows (shown rows s ts at elder is) ++ rest)) at is
      ≡ covered rows (reader d) s ts at is
  offsets_among rows d s ts at elder no_items rest b = refl
  offsets_among rows d s ts at elder (item name t is) rest b =
      let p = at + (2 + length name) in
      let q = p + length (value_bytes t) in
      let mid = marks rows (shown rows s ts q (elder ++ name ∷ []) is) ++ rest in
      let all = own_marks rows s ts elder at name t ++ mid in
      let low : AreBehind (q + length (items_bytes is)) rest =
      earlier (q + length (items_bytes is)) (at + length (items_bytes (item name t is))) rest
      (omega (arith, items_length name t is)) b in
      let first : fill_tree (put_at (marked_by rows d) all) p t
      ≡ covered_in rows (reader d) (station rows s (entry name t)) ts p t =
      offsets_in rows d s ts at elder name t mid (behind (takes_among rows s ts q (elder ++ name ∷ []) is rest) low) in
      let others : fill_items (put_at (marked_by rows d) all) q is ≡ covered rows (reader d) s ts q is =
      alike (put_at (marked_by rows d) all) (put_at (marked_by rows d) mid) q
      (λ k v h. passed_in (marked_by rows d) (takes_value rows s ts at elder name t mid) k v h) q is (omega arith)
      ∙ offsets_among rows d s ts q (elder ++ name ∷ []) is rest low in
      ap (λ (ms : List Mark). fill_items (put_at (marked_by rows d) ms) at (item name t is))
      (marks_item rows s ts at elder name t is rest)
      ∙ ap₂ (λ (v : Tree) (js : Items). item name v js) first others

-- a command filled with the markings of its marks, wherever it begins
covered_roles : (rows : List Row) (at : ℕ) (c : Items)
    → fill_items (marking_at rows (record { tree = c; start = at }) (roles rows at c)) (at + 4) c
    ≡ covered rows by_text (station rows Outside (command_entry c))
    (pointed rows (station rows Outside (command_entry c)) [] 0 c) 4 c
covered_roles rows at c =
    let s = station rows Outside (command_entry c) in
    let p = at + 4 in
    let ts = pointed rows s [] at c in
    let d : At = record { tree = c; start = at } in
    ap (λ (ms : List Mark). fill_items (marking_at rows d ms) p c)
    (roles_shown rows at c ∙ sym (append-nil (marks rows (shown rows s ts p [] c))))
    ∙ sym (alike (put_at (marked_by rows d) (marks rows (shown rows s ts p [] c) ++ []))
    (marking_at rows d (marks rows (shown rows s ts p [] c) ++ [])) p
    (λ q u h. put_marking rows d (marks rows (shown rows s ts p [] c) ++ []) q u) p c (omega arith))
    ∙ offsets_among rows d s ts p [] c [] tt
    ∙ covered_told rows at c

-- the marked command is the command filled with the markings of its marks, wherever it begins
pub marked_roles : (rows : List Row) (at : ℕ) (c : Items)
    → marked rows c ≡ fill_items (marking_at rows (record { tree = c; start = at }) (roles rows at c)) (at + 4) c
unfolding marked
marked_roles rows at c = covered_roles rows 0 c ∙ sym (covered_roles rows at c)

-- and the command filled with the markings at its places
pub marked_filled : (rows : List Row) (c : Items) → marked rows c ≡ filled (marking_of rows c) c
marked_filled rows c = marked_roles rows 0 c ∙ covered_roles rows 0 c ∙ sym (covered_filled rows c)
