-- Inside a value that isn't looked into nothing is marked and nothing is refused.
use Rattle.std.proofs.Common.{◌≡◌, ℕ, ◌+◌, Bool, true, false, cond, List, [], ◌∷◌, ◌++◌, length, Option, Some, None}
use Rattle.std.proofs.Common.{refl, sym, ap, ◌∙◌}
use Rattle.std.proofs.lemmas.Bool.{false≢true}
use Rattle.std.proofs.lemmas.List.{append_assoc}
use Rattle.bson_tree.specs.Tree.{Tree, leaf, node, Items, no_items, item}
use Rattle.bson_tree.specs.Spelling.{value_bytes}
use Rattle.encrypt_schema.specs.declared.command.marks.Mark.{Mark}
use Rattle.encrypt_schema.specs.declared.command.reason.Reason.{Reason}
use Rattle.encrypt_schema.specs.Language.Row.{Row}
use Rattle.encrypt_schema.specs.Commands.Stations.{Entry, Station, Store, Compare, Bare, Passed, station, has_role}
use Rattle.encrypt_schema.specs.Commands.Stations.{is_silent}
use Rattle.encrypt_schema.specs.Language.Collection.{Collection}
use Rattle.encrypt_schema.specs.Commands.Offences.{target_offence, view_offence, ruled_offence, judged_offence}
use Rattle.encrypt_schema.specs.Commands.Pointers.{Targets, pointed}
use Rattle.encrypt_schema.specs.Commands.Visits.{entry, Visit, visit, visits_in, visits, mark_at, marks, Refusal}
use Rattle.encrypt_schema.specs.Commands.Visits.{target_of, view_of, ruled_of, content_of, refused_at, first_refusal}
use Rattle.encrypt_schema.specs.Commands.Visits.{or_else, station_of}
use Rattle.encrypt_schema.proofs.Commands.Worlds.{shown_in, shown}

-- the marks of one list of places and of another behind it
pub marks_append : (rows : List Row) (vs us : List Visit)
    → marks rows (vs ++ us) ≡ marks rows vs ++ marks rows us
marks_append rows [] us = refl
marks_append rows (v ∷ vs) us =
    ap (λ (ms : List Mark). mark_at (station_of rows v) v ++ ms) (marks_append rows vs us)
    ∙ sym (append_assoc (mark_at (station_of rows v) v) (marks rows vs) (marks rows us))

or_else_assoc : (p q r : Option Refusal) → or_else p (or_else q r) ≡ or_else (or_else p q) r
or_else_assoc None q r = refl
or_else_assoc (Some p) q r = refl

-- the refusal of a place in a pass
abbrev pub refusal : (Visit → Option Reason) → Visit → Option Refusal
refusal pass v = refused_at v.start (pass v)

-- the first refusal of one list of places and of another behind it
pub refusal_append : (pass : Visit → Option Reason) (vs us : List Visit)
    → first_refusal pass (vs ++ us) ≡ or_else (first_refusal pass vs) (first_refusal pass us)
refusal_append pass [] us = refl
refusal_append pass (v ∷ vs) us =
    ap (or_else (refusal pass v)) (refusal_append pass vs us)
    ∙ or_else_assoc (refusal pass v) (first_refusal pass vs) (first_refusal pass us)

-- two lists of places with the same marks and the same first refusal in a pass
pub record Alike (pass : Visit → Option Reason) (rows : List Row) (vs us : List Visit) : Type 0 where
  pub marked : marks rows vs ≡ marks rows us
  pub refused : first_refusal pass vs ≡ first_refusal pass us

-- a list of places is like itself
pub same : {pass : Visit → Option Reason} {rows : List Row} {vs : List Visit} → Alike pass rows vs vs
same = record { marked = refl; refused = refl }

-- lists of places that are alike, behind lists that are alike
pub alike_append : (pass : Visit → Option Reason) (rows : List Row) (vs us xs ys : List Visit) → Alike pass rows vs us
    → Alike pass rows xs ys
    → Alike pass rows (vs ++ xs) (us ++ ys)
alike_append pass rows vs us xs ys p q =
    let a = marks_append rows vs xs in
    let b = marks_append rows us ys in
    let c = refusal_append pass vs xs in
    let d = refusal_append pass us ys in
    let pm = p.marked in
    let pr = p.refused in
    let qm = q.marked in
    let qr = q.refused in
    record { marked = cc; refused = cc }

-- the same place before lists that are alike
pub alike_cons : (pass : Visit → Option Reason) (rows : List Row) (v : Visit) (vs us : List Visit)
    → Alike pass rows vs us
    → Alike pass rows (v ∷ vs) (v ∷ us)
alike_cons pass rows v vs us p = record {
  marked = ap (λ (ms : List Mark). mark_at (station_of rows v) v ++ ms) p.marked;
  refused = ap (or_else (refusal pass v)) p.refused;
}

-- what stands inside such a value is such a value again
pub child_passed : (rows : List Row) (s : Station) (e : Entry) → is_silent s ≡ true
    → station rows s e ≡ Passed
child_passed rows (Store i) e h = refl
child_passed rows (Compare i) e h = refl
child_passed rows Bare e h = refl
child_passed rows Passed e h = refl
child_passed rows _ e h = absurd (false≢true h)

-- a pass that refuses nothing inside what isn't looked into
pub record IsQuiet (pass : Visit → Option Reason) : Type 0 where
  pub clear : (v : Visit) → is_silent v.parent ≡ true → pass v ≡ None

target_clear : (db : List ℕ) (s : Station) (elder : List (List ℕ)) (e : Entry) → is_silent s ≡ true
    → target_offence db s elder e ≡ None
unfolding target_offence
target_clear db (Store i) elder e h = refl
target_clear db (Compare i) elder e h = refl
target_clear db Bare elder e h = refl
target_clear db Passed elder e h = refl
target_clear db _ elder e h = absurd (false≢true h)

view_clear : (info : Option Collection) (s : Station) (elder : List (List ℕ)) (e : Entry) → is_silent s ≡ true
    → view_offence info s elder e ≡ None
unfolding view_offence
view_clear info (Store i) elder e h = refl
view_clear info (Compare i) elder e h = refl
view_clear info Bare elder e h = refl
view_clear info Passed elder e h = refl
view_clear info _ elder e h = absurd (false≢true h)

ruled_clear : (rows : List Row) (ts : Targets) (s : Station) (elder : List (List ℕ)) (e : Entry) → is_silent s ≡ true
    → judged_offence rows ts s elder e ≡ None
unfolding ruled_offence
ruled_clear rows ts (Store i) elder e h = refl
ruled_clear rows ts (Compare i) elder e h = refl
ruled_clear rows ts Bare elder e h = refl
ruled_clear rows ts Passed elder e h = refl
ruled_clear rows ts _ elder e h = absurd (false≢true h)

content_clear : (rows : List Row) (v : Visit) → is_silent v.parent ≡ true → content_of rows v ≡ None
content_clear [] v h = refl
content_clear (row ∷ rows) v h = ruled_clear (row ∷ rows) v.targets v.parent v.elder v.entry h

-- all passes are
pub target_quiet : (db : List ℕ) → IsQuiet (target_of db)
target_quiet db = record { clear = λ v h. target_clear db v.parent v.elder v.entry h }

pub view_quiet : (info : Option Collection) → IsQuiet (view_of info)
view_quiet info = record { clear = λ v h. view_clear info v.parent v.elder v.entry h }

pub ruled_quiet : (rows : List Row) → IsQuiet (ruled_of rows)
ruled_quiet rows = record { clear = λ v h. ruled_clear rows v.targets v.parent v.elder v.entry h }

pub content_quiet : (rows : List Row) → IsQuiet (content_of rows)
content_quiet rows = record { clear = content_clear rows }

one_silent : (pass : Visit → Option Reason) (rows : List Row) (s : Station) (ts : Targets) (at : ℕ)
    (elder : List (List ℕ))
    (name : List ℕ) (t : Tree) (vs us : List Visit)
    → IsQuiet pass → is_silent s ≡ true → Alike pass rows vs [] → Alike pass rows us []
    → Alike pass rows (visit s ts elder at name t ∷ (vs ++ us)) []
one_silent pass rows s ts at elder name t vs us quiet h p q =
    let rest = alike_append pass rows vs [] us [] p q in
    record {
      marked =
          ap (λ (u : Station). mark_at u (visit s ts elder at name t) ++ marks rows (vs ++ us))
          (child_passed rows s (entry name t) h) ∙ rest.marked;
      refused =
          ap (λ (r : Option Reason). or_else (refused_at (at + (2 + length name)) r) (first_refusal pass (vs ++ us)))
          (quiet.clear (visit s ts elder at name t) h) ∙ rest.refused;
    }

mutual
  silent_in : (pass : Visit → Option Reason) (rows : List Row) (s : Station) (ts : Targets) (at : ℕ) (t : Tree)
      → IsQuiet pass
      → is_silent s ≡ true
      → Alike pass rows (visits_in rows s ts at t) []
  silent_in pass rows s ts at (leaf tag bytes) quiet h = same
  silent_in pass rows s ts at (node tag is) quiet h = silent_among pass rows s (pointed rows s ts at is) (at + 4) [] is
      quiet h

  silent_among : (pass : Visit → Option Reason) (rows : List Row) (s : Station) (ts : Targets) (at : ℕ)
      (elder : List (List ℕ))
      (is : Items)
      → IsQuiet pass → is_silent s ≡ true → Alike pass rows (visits rows s ts at elder is) []
  silent_among pass rows s ts at elder no_items quiet h = same
  silent_among pass rows s ts at elder (item name t is) quiet h =
      one_silent pass rows s ts at elder name t _ _ quiet h
      (silent_in pass rows (station rows s (entry name t)) ts (at + (2 + length name)) t quiet
      (ap is_silent (child_passed rows s (entry name t) h)))
      (silent_among pass rows s ts (at + (2 + length name) + length (value_bytes t)) (elder ++ name ∷ []) is quiet h)

-- inside a value that isn't looked into nothing is marked, and nothing is refused
pub silent : (pass : Visit → Option Reason) (rows : List Row) (s : Station) (ts : Targets) (at : ℕ)
    (elder : List (List ℕ))
    (is : Items)
    → IsQuiet pass → is_silent s ≡ true
    → (marks rows (visits rows s ts at elder is) ≡ []) × (first_refusal pass (visits rows s ts at elder is) ≡ None)
silent pass rows s ts at elder is quiet h = let a = silent_among pass rows s ts at elder is quiet h in
    (a.marked, a.refused)

-- nor inside one value
pub silent_inside : (pass : Visit → Option Reason) (rows : List Row) (s : Station) (ts : Targets) (at : ℕ) (t : Tree)
    → IsQuiet pass
    → is_silent s ≡ true
    → (marks rows (visits_in rows s ts at t) ≡ []) × (first_refusal pass (visits_in rows s ts at t) ≡ None)
silent_inside pass rows s ts at t quiet h = let a = silent_in pass rows s ts at t quiet h in (a.marked, a.refused)

-- a protected value isn't looked into
pub role_silent : (s : Station) → has_role s ≡ true → is_silent s ≡ true
role_silent (Store i) h = refl
role_silent (Compare i) h = refl
role_silent _ h = absurd (false≢true h)

back : {pass : Visit → Option Reason} {rows : List Row} {vs us : List Visit} → Alike pass rows vs us
    → Alike pass rows us vs
back p = record { marked = sym p.marked; refused = sym p.refused }

cut_node : (pass : Visit → Option Reason) (rows : List Row) (s : Station) (ts : Targets) (at : ℕ) (is : Items)
    (b : Bool)
    → IsQuiet pass → has_role s ≡ b
    → Alike pass rows (shown rows s ts at [] is) (visits rows s ts at [] is)
    → Alike pass rows (cond b [] (shown rows s ts at [] is)) (visits rows s ts at [] is)
cut_node pass rows s ts at is true quiet h p = back (silent_among pass rows s ts at [] is quiet (role_silent s h))
cut_node pass rows s ts at is false quiet h p = p

-- what stands below a protected place makes no difference
mutual
  cut_in : (pass : Visit → Option Reason) (rows : List Row) (s : Station) (ts : Targets) (at : ℕ) (t : Tree)
      → IsQuiet pass
      → Alike pass rows (shown_in rows s ts at t) (visits_in rows s ts at t)
  cut_in pass rows s ts at (leaf tag bytes) quiet = same
  cut_in pass rows s ts at (node tag is) quiet = cut_node pass rows s (pointed rows s ts at is) (at + 4) is
      (has_role s) quiet refl
      (cut pass rows s (pointed rows s ts at is) (at + 4) [] is quiet)

  pub cut : (pass : Visit → Option Reason) (rows : List Row) (s : Station) (ts : Targets) (at : ℕ)
      (elder : List (List ℕ)) (is : Items)
      → IsQuiet pass
      → Alike pass rows (shown rows s ts at elder is) (visits rows s ts at elder is)
  cut pass rows s ts at elder no_items quiet = same
  cut pass rows s ts at elder (item name t is) quiet =
      alike_cons pass rows _ _ _
      (alike_append pass rows _ _ _ _
      (cut_in pass rows (station rows s (entry name t)) ts (at + (2 + length name)) t quiet)
      (cut pass rows s ts (at + (2 + length name) + length (value_bytes t)) (elder ++ name ∷ []) is quiet))
