-- The targets of the rules' pointers are read from the skeleton of the document: no path to them goes into a hole.
use Rattle.std.proofs.Common.{◌≡◌, ◌==◌, ℕ, ◌+◌, Bool, true, false, cond, List, [], ◌∷◌, ◌++◌}
use Rattle.std.proofs.Common.{length, map, Option, Some, None, option_and_then, option_map, refl, sym, ap, ap₂, ◌∙◌}
use Rattle.std.proofs.Common.{is_some, subst, ⊎_elim, if◌then◌else◌}
use Rattle.std.proofs.lemmas.Bool.{false≢true, and_parts, and_from, or_cases, or_left, or_right}
use Rattle.std.proofs.lemmas.List.{append_assoc}
use Rattle.bson_tree.specs.Tree.{Tree, leaf, node, Items, no_items, item, tag_of}
use Rattle.bson_tree.specs.Spelling.{value_bytes}
use Rattle.bson_codec.specs.Borrowed.{Elem}
use Rattle.encrypt_schema.specs.declared.path.class.Class.{Class}
use Rattle.encrypt_schema.specs.declared.path.class.Class.TheVariants.{Protected, Below, Above, Clear}
use Rattle.encrypt_schema.specs.declared.schema.policy.KeyRef.{KeyRef}
use Rattle.encrypt_schema.specs.declared.schema.policy.KeyRef.TheVariants.{Id, Pointer}
use Rattle.encrypt_schema.specs.Language.Names.{named, is_among}
use Rattle.encrypt_schema.specs.Language.Row.{Row, paths}
use Rattle.encrypt_schema.specs.Language.Values.{names_of}
use Rattle.encrypt_schema.specs.Paths.Classes.{class, class_by, goes_by, begins_at, matches, matched, covers_row}
use Rattle.encrypt_schema.specs.Paths.Classes.{covers}
use Rattle.encrypt_schema.specs.Paths.Classes.{leads}
use Rattle.encrypt_schema.specs.Paths.Dotted.{is_clear}
use Rattle.encrypt_schema.specs.Commands.Stations.{Station, Document, Passed, station, stored_at}
use Rattle.encrypt_schema.specs.Commands.Pointers.{Target, Targets, only, text_target, target_in, target_of}
use Rattle.encrypt_schema.specs.Commands.Pointers.{targets_of, is_whole, pointed}
use Rattle.encrypt_schema.specs.Commands.Visits.{entry}
use Rattle.encrypt_schema.specs.Commands.Skeletons.{Skeleton, hole, plain, branch, Skeletons, no_more, more}
use Rattle.encrypt_schema.specs.Commands.Skeletons.{skeleton_in, skeletons, width_of}
use Rattle.encrypt_schema.proofs.Commands.Widths.{names_in, names_kept, width_kept}
use Rattle.encrypt_schema.proofs.Paths.Firsts.{meets, found_by}
use Rattle.encrypt_schema.proofs.Paths.Matches.{goes_on}
use Rattle.encrypt_schema.proofs.Paths.Paths.{named_same}

-- an element of a skeleton
pub record Shade : Type 0 where
  pub name : List ℕ
  pub part : Skeleton
  pub start : ℕ

-- the only element of a name in a skeleton
abbrev pub only_seen : List ℕ → ℕ → Skeletons → Option Shade
only_seen word at no_more = None
only_seen word at (more name k ks) =
    if named word name
    then (if is_among word (names_in ks) then None
    else Some (record { name = name; part = k; start = at + (2 + length name) }))
    else only_seen word (at + (2 + length name) + width_of k) ks

-- what names lead to in a skeleton
abbrev pub target_seen : List (List ℕ) → ℕ → Skeleton → Option Target
target_seen [] at (hole tag width payload) = None
target_seen [] at (plain tag bytes) = text_target at tag bytes
target_seen [] at (branch tag ks) = None
target_seen (name ∷ names) at (hole tag width payload) = None
target_seen (name ∷ names) at (plain tag bytes) = None
target_seen (name ∷ names) at (branch tag ks) =
    if tag == 3 then option_and_then (λ e. target_seen names e.start e.part) (only_seen name (at + 4) ks) else None

-- the target of a key's pointer, read from the skeleton of a document
abbrev pub key_seen : List Row → ℕ → Skeletons → KeyRef → Option Target
key_seen rows at ks (Id id) = None
key_seen rows at ks (Pointer names) = if is_clear (class rows names) then target_seen names at (branch 3 ks) else None

-- the targets of the rules' pointers
abbrev pub all_seen : List Row → ℕ → Skeletons → Targets
all_seen rows at ks = map (λ row. key_seen rows at ks row.policy.key) rows

-- the targets inside a document of this station
abbrev pub seen_pointed : List Row → Station → Targets → ℕ → Skeletons → Targets
seen_pointed rows s ts at ks = if is_whole s then all_seen rows at ks else ts

-- the skeleton of an element among elements whose parent has this station
abbrev pub shade : List Row → Station → Elem → Shade
shade rows s e =
    record { name = e.name; part = skeleton_in rows (station rows s (entry e.name e.tree)) e.tree; start = e.start }

only_one : (rows : List Row) (s : Station) (word : List ℕ) (at : ℕ) (name : List ℕ) (t : Tree) (is : Items) (a b : Bool)
    → cond a (cond b None (Some (shade rows s (record { name = name; tree = t; start = at }))))
    (option_map (shade rows s) (only word (at + length (value_bytes t)) is))
    ≡ option_map (shade rows s) (cond a (cond b None (Some (record { name = name; tree = t; start = at })))
    (only word (at + length (value_bytes t)) is))
only_one rows s word at name t is true true = refl
only_one rows s word at name t is true false = refl
only_one rows s word at name t is false b = refl

-- the skeleton has the only element of a name where the document has it
pub only_kept : (rows : List Row) (s : Station) (word : List ℕ) (at : ℕ) (is : Items)
    → only_seen word at (skeletons rows s is) ≡ option_map (shade rows s) (only word at is)
only_kept rows s word at no_items = refl
only_kept rows s word at (item name t is) =
    let u = station rows s (entry name t) in
    let k = skeleton_in rows u t in
    let own = Some (shade rows s (record { name = name; tree = t; start = at + (2 + length name) })) in
    ap (λ (ns : List (List ℕ)). cond (named word name) (cond (is_among word ns) None own)
    (only_seen word (at + (2 + length name) + width_of k) (skeletons rows s is))) (names_kept rows s is)
    ∙ ap (λ (n : ℕ). cond (named word name) (cond (is_among word (names_of is)) None own)
    (only_seen word (at + (2 + length name) + n) (skeletons rows s is))) (width_kept rows u t)
    ∙ ap (λ (o : Option Shade). cond (named word name) (cond (is_among word (names_of is)) None own) o)
    (only_kept rows s word (at + (2 + length name) + length (value_bytes t)) is)
    ∙ only_one rows s word (at + (2 + length name)) name t is (named word name) (is_among word (names_of is))

-- it has this name
named_found : (word : List ℕ) (name : List ℕ) (t : Tree) (start : ℕ) (o : Option Elem) (e : Elem) (a b : Bool)
    → named word name ≡ a → (o ≡ Some e → e.name ≡ word)
    → cond a (cond b None (Some (record { name = name; tree = t; start = start }))) o ≡ Some e → e.name ≡ word
named_found word name t start o e true true h p q = absurd cc
named_found word name t start o e true false h p q =
    let same = named_same word name h in
    let own : e.name ≡ name = cc in
    own ∙ sym same
named_found word name t start o e false b h p q = p q

pub only_named : (word : List ℕ) (at : ℕ) (is : Items) (e : Elem) → only word at is ≡ Some e → e.name ≡ word
only_named word at no_items e h = absurd cc
only_named word at (item name t is) e h =
    named_found word name t (at + (2 + length name))
    (only word (at + (2 + length name) + length (value_bytes t)) is) e (named word name) (is_among word (names_of is))
    refl
    (only_named word (at + (2 + length name) + length (value_bytes t)) is e) h

-- a class that isn't Protected, nor Below
abbrev pub IsOpen : Class → Type 0
IsOpen (Protected i) = ⊥
IsOpen Below = ⊥
IsOpen Above = Unit {0}
IsOpen Clear = Unit {0}

-- what a rule covers of a path it covers of a longer one
begins_longer : (o : Option (List (List ℕ))) (p q : List (List ℕ)) → begins_at o p ≡ true → begins_at o (p ++ q) ≡ true
begins_longer None p q h = refl
begins_longer (Some listed) [] q h = absurd (false≢true h)
begins_longer (Some listed) (x ∷ p) q h = h

goes_longer : (o : Option (List (List ℕ))) (r p q : List (List ℕ)) → goes_by (begins_at o) r p ≡ true
    → goes_by (begins_at o) r (p ++ q) ≡ true
goes_longer o [] p q h = begins_longer o p q h
goes_longer o (x ∷ r) [] q h = absurd (false≢true h)
goes_longer o (x ∷ r) (y ∷ p) q h =
    let b = and_parts (named x y) (goes_by (begins_at o) r p) h in
    and_from (named x y) (goes_by (begins_at o) r (p ++ q)) b.0 (goes_longer o r p q b.1)

covers_longer : (p q : List (List ℕ)) (rows : List Row) → covers p rows ≡ true → covers (p ++ q) rows ≡ true
covers_longer p q [] h = h
covers_longer p q (row ∷ rows) h =
    ⊎_elim
    (λ (e : covers_row row p ≡ true). or_left (covers_row row (p ++ q)) (covers (p ++ q) rows)
    (goes_longer row.others row.path p q e))
    (λ (e : covers p rows ≡ true). or_right (covers_row row (p ++ q)) (covers (p ++ q) rows)
    (covers_longer p q rows e))
    (or_cases (covers_row row p) (covers p rows) h)

matched_covers : (p : List (List ℕ)) (rows : List Row) → meets (λ row. matches row p) rows ≡ true
    → covers p rows ≡ true
matched_covers p [] h = h
matched_covers p (row ∷ rows) h =
    ⊎_elim
    (λ (e : matches row p ≡ true). or_left (covers_row row p) (covers p rows) (goes_on row.others row.path p e))
    (λ (e : meets (λ r. matches r p) rows ≡ true). or_right (covers_row row p) (covers p rows)
    (matched_covers p rows e))
    (or_cases (matches row p) (meets (λ r. matches r p) rows) h)

clear_covers : (o : Option ℕ) (c l : Bool) → is_clear (class_by o c l) ≡ true → c ≡ false
clear_covers (Some i) c l h = absurd (false≢true h)
clear_covers None true l h = absurd (false≢true h)
clear_covers None false l h = refl

open_by : (o : Option ℕ) (c l : Bool) → (is_some o ≡ true → c ≡ true) → c ≡ false → IsOpen (class_by o c l)
open_by (Some i) c l h e = false≢true (sym e ∙ h refl)
open_by None true l h e = false≢true (sym e)
open_by None false true h e = tt
open_by None false false h e = tt

not_true : (b : Bool) → (b ≡ true → false ≡ true) → b ≡ false
not_true true h = sym (h refl)
not_true false h = refl

-- a front of a clear path is clear, or above rules
pub clear_front : (rows : List Row) (p q : List (List ℕ)) → is_clear (class rows (p ++ q)) ≡ true
    → IsOpen (class rows p)
unfolding class
clear_front rows p q h =
    let whole = clear_covers (matched (p ++ q) rows) (covers (p ++ q) rows) (leads (p ++ q) (paths rows)) h in
    open_by (matched p rows) (covers p rows) (leads p (paths rows))
    (λ e. matched_covers p rows (sym (found_by (λ (row : Row). matches row p) 0 rows) ∙ e))
    (not_true (covers p rows) (λ e. sym whole ∙ covers_longer p q rows e))

both_none : (tag : ℕ) (f : Elem → Option Target) (g : Shade → Option Target) (r : Elem → Shade) (o : Option Elem)
    → ((e : Elem) → o ≡ Some e → f e ≡ g (r e))
    → (cond (tag == 3) (option_and_then f o) None) ≡ cond (tag == 3) (option_and_then g (option_map r o)) None
both_none tag f g r None h = refl
both_none tag f g r (Some e) h = ap (λ (x : Option Target). cond (tag == 3) x None) (h e refl)

-- what passes has no hole inside
pub passed_kept : (rows : List Row) (names : List (List ℕ)) (at : ℕ) (t : Tree)
    → target_in names at t ≡ target_seen names at (skeleton_in rows Passed t)
passed_kept rows [] at (leaf tag bytes) = refl
passed_kept rows [] at (node tag is) = refl
passed_kept rows (name ∷ names) at (leaf tag bytes) = refl
passed_kept rows (name ∷ names) at (node tag is) =
    both_none tag (λ e. target_in names e.start e.tree) (λ e. target_seen names e.start e.part) (shade rows Passed)
    (only name (at + 4) is) (λ e h. passed_kept rows names e.start e.tree)
    ∙ ap (λ (o : Option Shade). cond (tag == 3) (option_and_then (λ e. target_seen names e.start e.part) o) None)
    (sym (only_kept rows Passed name (at + 4) is))

above_kept : (rows : List Row) (path names : List (List ℕ)) (at : ℕ) (t : Tree) (b : Bool)
    → target_in names at t ≡ target_seen names at (skeleton_in rows (Document path) t)
    → target_in names at t ≡ target_seen names at (skeleton_in rows (cond b (Document path) Passed) t)
above_kept rows path names at t true h = h
above_kept rows path names at t false h = passed_kept rows names at t

-- a stored value on the way of a clear path is a part of the document, or passes
stored_kept : (rows : List Row) (path names : List (List ℕ)) (at : ℕ) (t : Tree) (c : Class)
    → class rows path ≡ c → is_clear (class rows (path ++ names)) ≡ true
    → target_in names at t ≡ target_seen names at (skeleton_in rows (Document path) t)
    → target_in names at t
    ≡ target_seen names at (skeleton_in rows (stored_at (class rows path) path (tag_of t == 3)) t)
stored_kept rows path names at t (Protected i) e h p = absurd (subst IsOpen e (clear_front rows path names h))
stored_kept rows path names at t Below e h p = absurd (subst IsOpen e (clear_front rows path names h))
stored_kept rows path names at t Clear e h p =
    passed_kept rows names at t
    ∙ ap (λ (k : Class). target_seen names at (skeleton_in rows (stored_at k path (tag_of t == 3)) t)) (sym e)
stored_kept rows path names at t Above e h p =
    above_kept rows path names at t (tag_of t == 3) p
    ∙ ap (λ (k : Class). target_seen names at (skeleton_in rows (stored_at k path (tag_of t == 3)) t)) (sym e)

-- the path with one more name, as the rest of the names begins with it
pushed : (rows : List Row) (path names : List (List ℕ)) (name found : List ℕ) → found ≡ name
    → is_clear (class rows (path ++ name ∷ names)) ≡ true
    → is_clear (class rows ((path ++ found ∷ []) ++ names)) ≡ true
pushed rows path names name found e h =
    ap (λ (p : List (List ℕ)). is_clear (class rows p)) (append_assoc path (found ∷ []) names)
    ∙ ap (λ (n : List ℕ). is_clear (class rows (path ++ n ∷ names))) e ∙ h

-- on a clear path a stored document has no hole
pub document_kept : (rows : List Row) (path names : List (List ℕ)) (at : ℕ) (t : Tree)
    → is_clear (class rows (path ++ names)) ≡ true
    → target_in names at t ≡ target_seen names at (skeleton_in rows (Document path) t)
document_kept rows path [] at (leaf tag bytes) h = refl
document_kept rows path [] at (node tag is) h = refl
document_kept rows path (name ∷ names) at (leaf tag bytes) h = refl
document_kept rows path (name ∷ names) at (node tag is) h =
    both_none tag (λ e. target_in names e.start e.tree) (λ e. target_seen names e.start e.part)
    (shade rows (Document path)) (only name (at + 4) is)
    (λ e found.
    let clear = pushed rows path names name e.name (only_named name (at + 4) is e found) h in
    stored_kept rows (path ++ e.name ∷ []) names e.start e.tree (class rows (path ++ e.name ∷ [])) refl clear
    (document_kept rows (path ++ e.name ∷ []) names e.start e.tree clear))
    ∙ ap (λ (o : Option Shade). cond (tag == 3) (option_and_then (λ e. target_seen names e.start e.part) o) None)
    (sym (only_kept rows (Document path) name (at + 4) is))

key_kept : (rows : List Row) (at : ℕ) (is : Items) (key : KeyRef)
    → target_of rows at is key ≡ key_seen rows at (skeletons rows (Document []) is) key
key_kept rows at is (Id id) = refl
key_kept rows at is (Pointer names) = clear_kept (is_clear (class rows names)) refl where
  clear_kept : (b : Bool) → is_clear (class rows names) ≡ b
      → cond b (target_in names at (node 3 is)) None
      ≡ cond b (target_seen names at (branch 3 (skeletons rows (Document []) is))) None
  clear_kept true h = document_kept rows [] names at (node 3 is) h
  clear_kept false h = refl

all_kept : (rows all : List Row) (at : ℕ) (is : Items)
    → map (λ row. target_of all at is row.policy.key) rows
    ≡ map (λ row. key_seen all at (skeletons all (Document []) is) row.policy.key) rows
all_kept [] all at is = refl
all_kept (row ∷ rows) all at is =
    ap₂ (λ (t : Option Target) (ts : Targets). t ∷ ts) (key_kept all at is row.policy.key) (all_kept rows all at is)

-- the targets inside a document are told by its skeleton
pub pointed_kept : (rows : List Row) (s : Station) (ts : Targets) (at : ℕ) (is : Items)
    → pointed rows s ts at is ≡ seen_pointed rows s ts at (skeletons rows s is)
unfolding targets_of
pointed_kept rows (Document []) ts at is = all_kept rows rows at is
pointed_kept rows (Document (name ∷ path)) ts at is = refl
pointed_kept rows _ ts at is = refl
