-- The marks of a command stand at its values, in reading order.
use Rattle.std.proofs.Common.{◌≡◌, ℕ, ◌+◌, ◌≤◌, ◌*◌, Bool, true, false, cond, List, [], ◌∷◌, ◌++◌, length, refl, sym}
use Rattle.std.proofs.Common.{ap, ◌∙◌, subst, arith}
use Rattle.std.proofs.lemmas.Bool.{false≢true}
use Rattle.std.proofs.lemmas.List.{append_assoc, append-nil}
use Rattle.bson_tree.specs.Tree.{Tree, leaf, node, Items, no_items, item}
use Rattle.bson_tree.specs.Spelling.{value_bytes, doc_bytes}
use Rattle.encrypt_schema.specs.declared.command.marks.Mark.{Mark}
use Rattle.encrypt_schema.specs.declared.command.marks.Role.TheVariants as role
use Rattle.encrypt_schema.specs.Language.Row.{Row}
use Rattle.encrypt_schema.specs.Commands.Stations.{Station, Outside, Store, Compare, station, has_role}
use Rattle.encrypt_schema.specs.Commands.Pointers.{Targets, pointed}
use Rattle.encrypt_schema.specs.Commands.Visits.{entry, command_entry, Visit, visit, mark, mark_at, marks, roles}
use Rattle.encrypt_schema.specs.Commands.Skeletons.{AreApart}
use Rattle.encrypt_schema.proofs.Commands.Worlds.{shown_in, shown}
use Rattle.encrypt_schema.proofs.Commands.Silence.{marks_append}
use Rattle.encrypt_schema.proofs.Commands.Apart.{own_marks, roles_shown, roles_apart}
use Rattle.encrypt_schema.proofs.Commands.Plans.{TakesIn, own, raw, inside, Takes, done, next}

-- a value takes its own mark, or those inside it
takes_own : (u : Station) (v : Visit) (t : Tree) (ms rest : List Mark) → v.width ≡ length (value_bytes t)
    → (has_role u ≡ true → ms ≡ []) → (has_role u ≡ false → TakesIn v.start t (ms ++ rest) rest)
    → TakesIn v.start t ((mark_at u v ++ ms) ++ rest) rest
takes_own (Store i) v t ms rest w p q =
    subst (λ (ns : List Mark). TakesIn v.start t ((mark_at (Store i) v ++ ns) ++ rest) rest) (sym (p refl))
    (own v.start t (mark v i role.Store) rest refl (ap (λ (n : ℕ). v.start + n) w))
takes_own (Compare i) v t ms rest w p q =
    subst (λ (ns : List Mark). TakesIn v.start t ((mark_at (Compare i) v ++ ns) ++ rest) rest) (sym (p refl))
    (own v.start t (mark v i role.Compare) rest refl (ap (λ (n : ℕ). v.start + n) w))
takes_own _ v t ms rest w p q = q refl

-- nothing is shown inside a protected value
none_shown : (rows : List Row) (u : Station) (ts : Targets) (at : ℕ) (t : Tree) → has_role u ≡ true
    → marks rows (shown_in rows u ts at t) ≡ []
none_shown rows u ts at (leaf tag bytes) h = refl
none_shown rows u ts at (node tag is) h =
    ap (λ (b : Bool). marks rows (cond b [] (shown rows u (pointed rows u ts at is) (at + 4) [] is))) h

takes_node : (rows : List Row) (u : Station) (ts : Targets) (at tag : ℕ) (is : Items) (rest : List Mark) (b : Bool)
    → b ≡ false
    → Takes (at + 4) is (marks rows (shown rows u (pointed rows u ts at is) (at + 4) [] is) ++ rest) rest
    → TakesIn at (node tag is) (marks rows (cond b [] (shown rows u (pointed rows u ts at is) (at + 4) [] is)) ++ rest)
    rest
takes_node rows u ts at tag is rest true h d = absurd (false≢true (sym h))
takes_node rows u ts at tag is rest false h d =
    inside at tag is (marks rows (shown rows u (pointed rows u ts at is) (at + 4) [] is) ++ rest) rest d

-- the marks of one element, and of those behind it
pub marks_item : (rows : List Row) (s : Station) (ts : Targets) (at : ℕ) (elder : List (List ℕ)) (name : List ℕ)
    (t : Tree)
    (is : Items) (rest : List Mark)
    → marks rows (shown rows s ts at elder (item name t is)) ++ rest
    ≡ own_marks rows s ts elder at name t ++ (marks rows
    (shown rows s ts (at + (2 + length name) + length (value_bytes t)) (elder ++ name ∷ []) is) ++ rest)
marks_item rows s ts at elder name t is rest =
    let here = mark_at (station rows s (entry name t)) (visit s ts elder at name t) in
    let within = shown_in rows (station rows s (entry name t)) ts (at + (2 + length name)) t in
    let behind = shown rows s ts (at + (2 + length name) + length (value_bytes t)) (elder ++ name ∷ []) is in
    ap (λ (ms : List Mark). (here ++ ms) ++ rest) (marks_append rows within behind)
    ∙ ap (λ (ms : List Mark). ms ++ rest) (sym (append_assoc here (marks rows within) (marks rows behind)))
    ∙ append_assoc (here ++ marks rows within) (marks rows behind) rest

mutual
  takes_in : (rows : List Row) (u : Station) (ts : Targets) (at : ℕ) (t : Tree) (rest : List Mark) → has_role u ≡ false
      → TakesIn at t (marks rows (shown_in rows u ts at t) ++ rest) rest
  takes_in rows u ts at (leaf tag bytes) rest h = raw at tag bytes rest
  takes_in rows u ts at (node tag is) rest h = takes_node rows u ts at tag is rest (has_role u) h
      (takes_among rows u (pointed rows u ts at is) (at + 4) [] is rest)

  -- elements take the marks of what is shown of them
  pub takes_among : (rows : List Row) (s : Station) (ts : Targets) (at : ℕ) (elder : List (List ℕ)) (is : Items)
      (rest : List Mark)
      → Takes at is (marks rows (shown rows s ts at elder is) ++ rest) rest
  takes_among rows s ts at elder no_items rest = done at rest
  takes_among rows s ts at elder (item name t is) rest =
      let u = station rows s (entry name t) in
      let left = marks rows (shown rows s ts (at + (2 + length name) + length (value_bytes t)) (elder ++ name ∷ []) is)
      ++ rest in
      subst (λ (ms : List Mark). Takes at (item name t is) ms rest) (sym (marks_item rows s ts at elder name t is rest))
      (next at name t is (own_marks rows s ts elder at name t ++ left) left rest
      (takes_own u (visit s ts elder at name t) t (marks rows (shown_in rows u ts (at + (2 + length name)) t)) left refl
      (none_shown rows u ts (at + (2 + length name)) t)
      (takes_in rows u ts (at + (2 + length name)) t left))
      (takes_among rows s ts (at + (2 + length name) + length (value_bytes t)) (elder ++ name ∷ []) is rest))

-- an element's value takes its own mark or those inside it
pub takes_value : (rows : List Row) (s : Station) (ts : Targets) (at : ℕ) (elder : List (List ℕ)) (name : List ℕ)
    (t : Tree)
    (rest : List Mark)
    → TakesIn (at + (2 + length name)) t (own_marks rows s ts elder at name t ++ rest) rest
takes_value rows s ts at elder name t rest =
    let u = station rows s (entry name t) in
    takes_own u (visit s ts elder at name t) t (marks rows (shown_in rows u ts (at + (2 + length name)) t)) rest refl
    (none_shown rows u ts (at + (2 + length name)) t)
    (takes_in rows u ts (at + (2 + length name)) t rest)

-- the marks of a command stand at values of it, in reading order and apart
pub roles_taken : (rows : List Row) (at : ℕ) (c : Items) → Takes (at + 4) c (roles rows at c) []
roles_taken rows at c =
    let s = station rows Outside (command_entry c) in
    subst (λ (ms : List Mark). Takes (at + 4) c ms [])
    (append-nil (marks rows (shown rows s (pointed rows s [] at c) (at + 4) [] c)) ∙ sym (roles_shown rows at c))
    (takes_among rows s (pointed rows s [] at c) (at + 4) [] c [])

few_apart : (from : ℕ) (ms : List Mark) (to : ℕ) → AreApart from ms to → from + 2 * length ms ≤ to
few_apart from [] to a = omega (arith, a)
few_apart from (m ∷ ms) to a = omega (arith, a.0, a.1, few_apart m.end ms to a.2)

-- a command has no more than half as many marks as bytes
pub few_roles : (rows : List Row) (at : ℕ) (c : Items) → 4 + 2 * length (roles rows at c) ≤ length (doc_bytes c)
few_roles rows at c =
    omega (arith, few_apart (at + 4) (roles rows at c) (at + length (doc_bytes c)) (roles_apart rows at c))
