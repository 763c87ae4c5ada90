-- Values whose keys are to be had, and the table that has them.
use Rattle.std.proofs.Common.{◌≡◌, ◌∙◌, ℕ, Bool, true, false, ◌||◌, cond, List, [], ◌∷◌, ◌++◌, Option, Some, None}
use Rattle.std.proofs.Common.{Result, Ok, Err, refl, sym, ap, subst}
use Rattle.std.specs.Prelude.{bytes_eq, if◌then◌else◌}
use Rattle.std.specs.Cmp.Lexicographic.{bytes_decides}
use Rattle.data_key.specs.declared.key_doc.KeyDoc.{KeyDoc}
use Rattle.encrypt_schema.specs.Commands.Visits.{Refusal, or_else, refused_at}
use Rattle.encrypt_schema.specs.declared.command.reason.Reason.{Reason}
use Rattle.key_vault.specs.Lookup.{key_of, opened_key}
use Rattle.payload6.specs.Needs.{Need, Id, Name}
use Rattle.doc_rewrite.specs.Keys.{Found, Table, key_by_id, key_by_name, key_in, found_by, under_id}
use Rattle.doc_rewrite.specs.declared.key_table.KeyEntry.{KeyEntry}
use Rattle.doc_rewrite.specs.declared.named_keys.NamedEntry.{NamedEntry}
use Rattle.context_machine.specs.declared.opened_keys.KeysStop.{KeysStop}
use Rattle.context_machine.specs.declared.opened_keys.KeysStop.TheVariants as stops
use Rattle.context_machine.specs.Kept.{AreFedFrom, key_by}
use Rattle.context_machine.specs.Needs.{AreIds, IsId, NeedAt, first_needs, is_needed, is_same, put_new, with_new}
use Rattle.context_machine.specs.Rings.{AreOpened, Finder, IsOpened, by_ids, finder, first_keyless, found_key}
use Rattle.context_machine.specs.Rings.{reason_of, reasoned, ring, with_own}
use Rattle.context_machine.specs.Tables.{OpensKeys, TellsTable, if_found, no_keys, table_from, table_of, with_found}
use Rattle.context_machine.proofs.Kept.{found_meets, no_some, one_some, or_left, or_right, same_need, same_self}

-- ---- what is needed

-- each of these values needs one of those
abbrev pub AreNeeded : List NeedAt → List NeedAt → Type 0
AreNeeded asked [] = Unit {0}
AreNeeded asked (n ∷ ns) = (is_needed n.need asked ≡ true) × AreNeeded asked ns

front_by : (b a c : Bool) → (a ≡ true → c ≡ true) → (b || a) ≡ true → (b || c) ≡ true
front_by true a c h e = refl
front_by false a c h e = h e

needed_front : (need : Need) (asked : List NeedAt) (n : NeedAt) → is_needed need asked ≡ true
    → is_needed need (asked ++ n ∷ []) ≡ true
needed_front need [] n e = absurd cc
needed_front need (m ∷ ms) n e =
    front_by (is_same m.need need) (is_needed need ms) (is_needed need (ms ++ n ∷ [])) (needed_front need ms n) e

needed_last : (asked : List NeedAt) (n : NeedAt) → is_needed n.need (asked ++ n ∷ []) ≡ true
needed_last [] n = or_left (is_same n.need n.need) false (same_self n.need)
needed_last (m ∷ ms) n = or_right (is_same m.need n.need) (is_needed n.need (ms ++ n ∷ [])) (needed_last ms n)

-- what is put behind the others leaves those before
put_keeps : (need : Need) (asked : List NeedAt) (n : NeedAt) → is_needed need asked ≡ true
    → is_needed need (put_new asked n) ≡ true
put_keeps need asked n e = keeps_by (is_needed n.need asked)
  where
    keeps_by : (b : Bool) → is_needed need (if b then asked else asked ++ n ∷ []) ≡ true
    keeps_by true = e
    keeps_by false = needed_front need asked n e

put_has : (asked : List NeedAt) (n : NeedAt) → is_needed n.need (put_new asked n) ≡ true
put_has asked n = has_by (is_needed n.need asked) refl
  where
    has_by : (b : Bool) → is_needed n.need asked ≡ b → is_needed n.need (if b then asked else asked ++ n ∷ []) ≡ true
    has_by true e = e
    has_by false e = needed_last asked n

with_keeps : (need : Need) (asked ns : List NeedAt) → is_needed need asked ≡ true
    → is_needed need (with_new asked ns) ≡ true
with_keeps need asked [] e = e
with_keeps need asked (n ∷ ns) e = with_keeps need (put_new asked n) ns (put_keeps need asked n e)

with_has : (asked ns : List NeedAt) → AreNeeded (with_new asked ns) ns
with_has asked [] = tt
with_has asked (n ∷ ns) = (with_keeps n.need (put_new asked n) ns (put_has asked n), with_has (put_new asked n) ns)

-- each value's need has its first value
first_has : (uses : List NeedAt) → AreNeeded (first_needs uses) uses
first_has uses = with_has [] uses

-- ---- keys that are to be had

module _ (keys : Finder) where
  module _ (table : Table) where
    opened_by : (need : Need) (n : NeedAt) (ns : List NeedAt) (b : Bool) → is_same n.need need ≡ b
        → (b || is_needed need ns) ≡ true → IsOpened keys table n.need
        → (is_needed need ns ≡ true → IsOpened keys table need) → IsOpened keys table need
    opened_by need n ns true q e o h = subst (IsOpened keys table) (same_need n.need need q) o
    opened_by need n ns false q e o h = h e

    opened_one : (need : Need) (ns : List NeedAt) → is_needed need ns ≡ true → AreOpened keys ns table
        → IsOpened keys table need
    opened_one need [] e are = absurd cc
    opened_one need (n ∷ ns) e are =
        opened_by need n ns (is_same n.need need) refl e are.0 (λ f. opened_one need ns f are.1)

    opened_all : (asked ns : List NeedAt) → AreNeeded asked ns → AreOpened keys asked table → AreOpened keys ns table
    opened_all asked [] are opened = tt
    opened_all asked (n ∷ ns) are opened =
        (opened_one n.need asked are.0 opened, opened_all asked ns are.1 opened)

    there : (n : NeedAt) (o : IsOpened keys table n.need) → refused_at n.at (reason_of (keys n.need)) ≡ None
    there n o = ap (λ (k : Result Found Reason). refused_at n.at (reason_of k)) o.1

    -- where the table has each key, no value is refused
    pub opened_none : (ns : List NeedAt) → AreOpened keys ns table → first_keyless keys ns ≡ None
    opened_none [] are = refl
    opened_none (n ∷ ns) are = rw (there n are.0) (opened_none ns are.1)

  -- ---- the first value of each need stands for all of them

  reason_by : (need : Need) (n : NeedAt) (ns : List NeedAt) (b : Bool) → is_same n.need need ≡ b
      → (b || is_needed need ns) ≡ true → (r : Option Reason) → reason_of (keys n.need) ≡ r
      → or_else (refused_at n.at r) (first_keyless keys ns) ≡ None
      → (is_needed need ns ≡ true → first_keyless keys ns ≡ None → reason_of (keys need) ≡ None)
      → reason_of (keys need) ≡ None
  reason_by need n ns true q e None is none h =
      ap (λ (x : Need). reason_of (keys x)) (sym (same_need n.need need q)) ∙ is
  reason_by need n ns false q e None is none h = h e none
  reason_by need n ns b q e (Some reason) is none h = absurd cc

  no_reason : (need : Need) (ns : List NeedAt) → is_needed need ns ≡ true → first_keyless keys ns ≡ None
      → reason_of (keys need) ≡ None
  no_reason need [] e none = absurd cc
  no_reason need (n ∷ ns) e none =
      reason_by need n ns (is_same n.need need) refl e (reason_of (keys n.need)) refl none (no_reason need ns)

  or_assoc : (a b c : Option Refusal) → or_else (or_else a b) c ≡ or_else a (or_else b c)
  or_assoc None b c = refl
  or_assoc (Some r) b c = refl

  or_none : (a : Option Refusal) → or_else a None ≡ a
  or_none None = refl
  or_none (Some r) = refl

  keyless_behind : (asked : List NeedAt) (n : NeedAt) → first_keyless keys (asked ++ n ∷ [])
      ≡ or_else (first_keyless keys asked) (refused_at n.at (reason_of (keys n.need)))
  keyless_behind [] n = or_none (refused_at n.at (reason_of (keys n.need)))
  keyless_behind (m ∷ ms) n =
      ap (or_else (refused_at m.at (reason_of (keys m.need)))) (keyless_behind ms n)
      ∙ sym (or_assoc (refused_at m.at (reason_of (keys m.need))) (first_keyless keys ms)
      (refused_at n.at (reason_of (keys n.need))))

  nothing_more : (asked : List NeedAt) (n : NeedAt) (o : Option Refusal) → first_keyless keys asked ≡ o
      → is_needed n.need asked ≡ true → o ≡ or_else o (refused_at n.at (reason_of (keys n.need)))
  nothing_more asked n None none e =
      sym (ap (refused_at n.at) (no_reason n.need asked e none))
  nothing_more asked n (Some r) some e = refl

  put_keyless_by : (asked : List NeedAt) (n : NeedAt) (b : Bool) → is_needed n.need asked ≡ b
      → first_keyless keys (if b then asked else asked ++ n ∷ [])
      ≡ or_else (first_keyless keys asked) (refused_at n.at (reason_of (keys n.need)))
  put_keyless_by asked n true e = nothing_more asked n (first_keyless keys asked) refl e
  put_keyless_by asked n false e = keyless_behind asked n

  with_keyless : (asked ns : List NeedAt)
      → first_keyless keys (with_new asked ns) ≡ or_else (first_keyless keys asked) (first_keyless keys ns)
  with_keyless asked [] = sym (or_none (first_keyless keys asked))
  with_keyless asked (n ∷ ns) =
      with_keyless (put_new asked n) ns
      ∙ ap (λ (o : Option Refusal). or_else o (first_keyless keys ns))
      (put_keyless_by asked n (is_needed n.need asked) refl)
      ∙ or_assoc (first_keyless keys asked) (refused_at n.at (reason_of (keys n.need))) (first_keyless keys ns)

  pub first_keyless_all : (uses : List NeedAt) → first_keyless keys (first_needs uses) ≡ first_keyless keys uses
  first_keyless_all uses = with_keyless [] uses

  pub first_opened : (uses : List NeedAt) (table : Table) → AreOpened keys (first_needs uses) table
      → AreOpened keys uses table
  first_opened uses table are = opened_all table (first_needs uses) uses (first_has uses) are

-- ---- a data key put behind those of a table

abbrev or_found : Option Found → Option Found → Option Found
or_found (Some f) later = Some f
or_found None later = later

abbrev or_bytes : Option (List ℕ) → Option (List ℕ) → Option (List ℕ)
or_bytes (Some k) later = Some k
or_bytes None later = later

-- what is put behind for one need answers another
abbrev answer_of : Need → Found → Need → Option Found
answer_of (Id id) f (Id other) = under_id other (cond (bytes_eq id other) (Some f.key) None)
answer_of (Name name) f (Name other) = cond (bytes_eq name other) (Some f) None
answer_of _ f _ = None

bytes_over : (b c : Bool) (j k : List ℕ) (o : Option (List ℕ))
    → cond b (Some j) (or_bytes o (cond c (Some k) None)) ≡ or_bytes (cond b (Some j) o) (cond c (Some k) None)
bytes_over true c j k o = refl
bytes_over false c j k o = refl

id_behind : (es : List KeyEntry) (id : List ℕ) (key : List ℕ) (other : List ℕ)
    → key_by_id (es ++ record { id = id; key = key } ∷ []) other
    ≡ or_bytes (key_by_id es other) (cond (bytes_eq id other) (Some key) None)
id_behind [] id key other = refl
id_behind (e ∷ es) id key other =
    ap (λ (o : Option (List ℕ)). cond (bytes_eq e.id other) (Some e.key) o) (id_behind es id key other)
    ∙ bytes_over (bytes_eq e.id other) (bytes_eq id other) e.key key (key_by_id es other)

under_both : (id : List ℕ) (a b : Option (List ℕ)) → under_id id (or_bytes a b)
    ≡ or_found (under_id id a) (under_id id b)
under_both id None b = refl
under_both id (Some k) b = refl

found_over : (b c : Bool) (g f : Found) (o : Option Found)
    → cond b (Some g) (or_found o (cond c (Some f) None)) ≡ or_found (cond b (Some g) o) (cond c (Some f) None)
found_over true c g f o = refl
found_over false c g f o = refl

name_behind : (es : List NamedEntry) (name : List ℕ) (f : Found) (other : List ℕ)
    → key_by_name (es ++ record { name = name; id = f.id; key = f.key } ∷ []) other
    ≡ or_found (key_by_name es other) (cond (bytes_eq name other) (Some f) None)
name_behind [] name f other = refl
name_behind (e ∷ es) name f other =
    ap (λ (o : Option Found). cond (bytes_eq e.name other) (Some (found_by e)) o) (name_behind es name f other)
    ∙ found_over (bytes_eq e.name other) (bytes_eq name other) (found_by e) f (key_by_name es other)

nothing_found : (o : Option Found) → o ≡ or_found o None
nothing_found None = refl
nothing_found (Some f) = refl

put_behind : (t : Table) (need : Need) (f : Found) (other : Need)
    → key_in (with_found t need f) other ≡ or_found (key_in t other) (answer_of need f other)
put_behind t (Id id) f (Id other) =
    ap (under_id other) (id_behind t.ids id f.key other)
    ∙ under_both other (key_by_id t.ids other) (cond (bytes_eq id other) (Some f.key) None)
put_behind t (Id id) f (Name other) = nothing_found (key_by_name t.names other)
put_behind t (Name name) f (Id other) = nothing_found (under_id other (key_by_id t.ids other))
put_behind t (Name name) f (Name other) = name_behind t.names name f other

-- ---- the table that is made

-- what an id finds has the id
abbrev pub FindsOwn : Finder → Type 0
FindsOwn keys = (id : List ℕ) (f : Found) → keys (Id id) ≡ Ok f → f.id ≡ id

abbrev found_ok : Found → Result Found Reason
found_ok f = Ok f

one_found : (f g : Found) → found_ok f ≡ found_ok g → f ≡ g
one_found f g e = cc

module _ (keys : Finder) (own : FindsOwn keys) where
  -- a table has no wrong key
  abbrev IsRight : Table → Type 0
  IsRight t = (need : Need) (f : Found) → key_in t need ≡ Some f → keys need ≡ Ok f

  id_answers : (id other : List ℕ) (f g : Found) (b : Bool) → bytes_eq id other ≡ b → keys (Id id) ≡ Ok f
      → under_id other (cond b (Some f.key) None) ≡ Some g → keys (Id other) ≡ Ok g
  id_answers id other f g false q has e = no_some g e
  id_answers id other f g true q has e =
      let same : id ≡ other = (bytes_decides id other).0 q in
      ap (λ (x : List ℕ). keys (Id x)) (sym same) ∙ has
      ∙ ap (λ (x : List ℕ). Ok (record { id = x; key = f.key })) (own id f has ∙ same)
      ∙ ap (λ (x : Found). Ok x) (one_some (record { id = other; key = f.key }) g e)

  name_answers : (name other : List ℕ) (f g : Found) (b : Bool) → bytes_eq name other ≡ b → keys (Name name) ≡ Ok f
      → cond b (Some f) None ≡ Some g → keys (Name other) ≡ Ok g
  name_answers name other f g false q has e = no_some g e
  name_answers name other f g true q has e =
      ap (λ (x : List ℕ). keys (Name x)) (sym ((bytes_decides name other).0 q)) ∙ has
      ∙ ap (λ (x : Found). Ok x) (one_some f g e)

  answers : (need other : Need) (f g : Found) → keys need ≡ Ok f → answer_of need f other ≡ Some g
      → keys other ≡ Ok g
  answers (Id id) (Id other) f g has e = id_answers id other f g (bytes_eq id other) refl has e
  answers (Id id) (Name other) f g has e = no_some g e
  answers (Name name) (Id other) f g has e = no_some g e
  answers (Name name) (Name other) f g has e = name_answers name other f g (bytes_eq name other) refl has e

  answers_self : (need : Need) (f : Found) → keys need ≡ Ok f → answer_of need f need ≡ Some f
  answers_self (Id id) f has =
      ap (λ (b : Bool). under_id id (cond b (Some f.key) None)) (same_self (Id id))
      ∙ ap (λ (x : List ℕ). Some (record { id = x; key = f.key })) (sym (own id f has))
  answers_self (Name name) f has = ap (λ (b : Bool). cond b (Some f) None) (same_self (Name name))

  either_found : (o p : Option Found) (g : Found) {P : Type 0} → or_found o p ≡ Some g → (o ≡ Some g → P)
      → (p ≡ Some g → P) → P
  either_found (Some f) p g e q r = q e
  either_found None p g e q r = r e

  put_right : (t : Table) (need : Need) (f : Found) → keys need ≡ Ok f → IsRight t → IsRight (with_found t need f)
  put_right t need f has right other g e =
      either_found (key_in t other) (answer_of need f other) g (sym (put_behind t need f other) ∙ e) (right other g)
      (answers need other f g has)

  put_stays : (t : Table) (need : Need) (f : Found) (other : Need) (g : Found) → key_in t other ≡ Some g
      → key_in (with_found t need f) other ≡ Some g
  put_stays t need f other g e =
      put_behind t need f other ∙ ap (λ (o : Option Found). or_found o (answer_of need f other)) e

  same_found : (need : Need) (f g : Found) → keys need ≡ Ok f → keys need ≡ Ok g → g ≡ f
  same_found need f g p q = one_found g f (sym q ∙ p)

  own_by : (t : Table) (need : Need) (f : Found) (o : Option Found) → keys need ≡ Ok f → key_in t need ≡ o → IsRight t
      → or_found o (answer_of need f need) ≡ Some f
  own_by t need f None has e right = answers_self need f has
  own_by t need f (Some g) has e right = ap (λ (x : Found). Some x) (same_found need f g has (right need g e))

  put_own : (t : Table) (need : Need) (f : Found) → keys need ≡ Ok f → IsRight t
      → key_in (with_found t need f) need ≡ Some f
  put_own t need f has right =
      put_behind t need f need ∙ own_by t need f (key_in t need) has refl right

  -- what the table that is made of values says of them, and that it keeps what was there before
  abbrev SaysTable : Table → List NeedAt → Result Table Refusal → Type 0
  SaysTable t ns (Ok table) =
      AreOpened keys ns table × ((need : Need) (g : Found) → key_in t need ≡ Some g → key_in table need ≡ Some g)
  SaysTable t ns (Err refusal) = first_keyless keys ns ≡ Some refusal

  more_says : (t : Table) (n : NeedAt) (ns : List NeedAt) (f : Found) (made : Result Table Refusal)
      → keys n.need ≡ Ok f → IsRight t → SaysTable (with_found t n.need f) ns made → SaysTable t (n ∷ ns) made
  more_says t n ns f (Ok table) has right says = (
    ((f, has, says.1 n.need f (put_own t n.need f has right)), says.0),
    λ need g e. says.1 need g (put_stays t n.need f need g e),
  )
  more_says t n ns f (Err refusal) has right says =
      ap (λ (k : Result Found Reason). or_else (refused_at n.at (reason_of k)) (first_keyless keys ns)) has ∙ says

  says_by : (t : Table) (n : NeedAt) (ns : List NeedAt) (k : Result Found Reason) → keys n.need ≡ k → IsRight t
      → ((f : Found) → keys n.need ≡ Ok f
      → SaysTable (with_found t n.need f) ns (table_from keys (with_found t n.need f) ns))
      → SaysTable t (n ∷ ns) (if_found n (λ f. table_from keys (with_found t n.need f) ns) k)
  says_by t n ns (Err reason) e right more =
      ap (λ (k : Result Found Reason). or_else (refused_at n.at (reason_of k)) (first_keyless keys ns)) e
  says_by t n ns (Ok f) e right more =
      more_says t n ns f (table_from keys (with_found t n.need f) ns) e right (more f e)

  says_table : (t : Table) (ns : List NeedAt) → IsRight t → SaysTable t ns (table_from keys t ns)
  says_table t [] right = (tt, λ need g e. e)
  says_table t (n ∷ ns) right =
      says_by t n ns (keys n.need) refl right
      (λ f e. says_table (with_found t n.need f) ns (put_right t n.need f e right))

  none_right : IsRight no_keys
  none_right (Id id) f e = no_some f e
  none_right (Name name) f e = no_some f e

  -- what the code answers of the first value of each need, it answers of all
  pub opens_keys : (uses : List NeedAt) (r : Result Table KeysStop)
      → TellsTable (table_of keys (first_needs uses)) r → OpensKeys keys uses r
  opens_keys uses (Ok table) tells =
      first_opened keys uses table
      (subst (SaysTable no_keys (first_needs uses)) tells (says_table no_keys (first_needs uses) none_right)).0
  opens_keys uses (Err (stops.Refused reason at)) tells =
      sym (first_keyless_all keys uses)
      ∙ subst (SaysTable no_keys (first_needs uses)) tells (says_table no_keys (first_needs uses) none_right)
  opens_keys uses (Err stops.TooLong) tells = absurd tells
  opens_keys uses (Err stops.Memory) tells = tt

-- ---- what key documents have

own_with : (id : List ℕ) (k : Result (List ℕ) Reason) (f : Found) → with_own id k ≡ Ok f → f.id ≡ id
own_with id (Err reason) f e = absurd cc
own_with id (Ok key) f e =
    let same : record { id = id; key = key } ≡ f = cc in ap (λ (x : Found). x.id) (sym same)

pub finder_own : (keys : List KeyDoc) (master : List ℕ) → FindsOwn (finder keys master)
finder_own keys master id f e = by (key_by keys (Id id)) refl e
  where
    by : (o : Option KeyDoc) → key_by keys (Id id) ≡ o → found_key master o ≡ Ok f → f.id ≡ id
    by None p e = absurd cc
    by (Some k) p e =
        own_with k.id (reasoned (opened_key master (Some k))) f e
        ∙ (bytes_decides k.id id).0 (found_meets (Id id) keys k p)

-- what an id finds is what the ring has for it
pub by_id_same : (keys : List KeyDoc) (master id : List ℕ)
    → by_ids (ring keys master) (Id id) ≡ finder keys master (Id id)
unfolding key_of
by_id_same keys master id = by (key_by keys (Id id)) refl
  where
    by : (o : Option KeyDoc) → key_by keys (Id id) ≡ o → with_own id (reasoned (opened_key master o))
        ≡ found_key master o
    by None p = refl
    by (Some k) p =
        ap (λ (x : List ℕ). with_own x (reasoned (opened_key master (Some k))))
        (sym ((bytes_decides k.id id).0 (found_meets (Id id) keys k p)))

module _ (keys : List KeyDoc) (master : List ℕ) where
  one_same : (need : Need) → IsId need → by_ids (ring keys master) need ≡ finder keys master need
  one_same (Id id) is = by_id_same keys master id
  one_same (Name name) is = absurd is

  pub keyless_ids : (ns : List NeedAt) → AreIds ns
      → first_keyless (by_ids (ring keys master)) ns ≡ first_keyless (finder keys master) ns
  keyless_ids [] ids = refl
  keyless_ids (n ∷ ns) ids =
      ap (λ (k : Result Found Reason). or_else (refused_at n.at (reason_of k))
      (first_keyless (by_ids (ring keys master)) ns)) (one_same n.need ids.0)
      ∙ ap (or_else (refused_at n.at (reason_of (finder keys master n.need)))) (keyless_ids ns ids.1)

  pub ids_opened : (ns : List NeedAt) (table : Table) → AreIds ns → AreOpened (finder keys master) ns table
      → AreOpened (by_ids (ring keys master)) ns table
  ids_opened [] table ids are = tt
  ids_opened (n ∷ ns) table ids are =
      ((are.0.0, one_same n.need ids.0 ∙ are.0.1, are.0.2), ids_opened ns table ids.1 are.1)

  pub opened_ids : (ns : List NeedAt) (table : Table) → AreIds ns → AreOpened (by_ids (ring keys master)) ns table
      → AreOpened (finder keys master) ns table
  opened_ids [] table ids are = tt
  opened_ids (n ∷ ns) table ids are =
      ((are.0.0, sym (one_same n.need ids.0) ∙ are.0.1, are.0.2), opened_ids ns table ids.1 are.1)

  -- what the code answers of needs that are ids
  pub opens_ids : (ns : List NeedAt) (r : Result Table KeysStop) → AreIds ns → OpensKeys (finder keys master) ns r
      → OpensKeys (by_ids (ring keys master)) ns r
  opens_ids ns (Ok table) ids are = ids_opened ns table ids are
  opens_ids ns (Err (stops.Refused reason at)) ids is = keyless_ids ns ids ∙ is
  opens_ids ns (Err stops.TooLong) ids is = is
  opens_ids ns (Err stops.Memory) ids is = is

-- ---- the keys kept, and the vault that they are of

module _ (vault kept : List KeyDoc) (master : List ℕ) where
  module _ (asked : List NeedAt) (are : AreFedFrom vault asked kept) where
    same_key : (need : Need) → is_needed need asked ≡ true → finder kept master need ≡ finder vault master need
    same_key need e = ap (found_key master) (are.answer need e)

    same_keyless : (ns : List NeedAt) → AreNeeded asked ns
        → first_keyless (finder kept master) ns ≡ first_keyless (finder vault master) ns
    same_keyless [] needed = refl
    same_keyless (n ∷ ns) needed =
        let left = first_keyless (finder kept master) ns in
        ap (λ (k : Result Found Reason). or_else (refused_at n.at (reason_of k)) left) (same_key n.need needed.0)
        ∙ ap (or_else (refused_at n.at (reason_of (finder vault master n.need)))) (same_keyless ns needed.1)

    same_opened : (table : Table) (ns : List NeedAt) → AreNeeded asked ns → AreOpened (finder kept master) ns table
        → AreOpened (finder vault master) ns table
    same_opened table [] needed o = tt
    same_opened table (n ∷ ns) needed o = (
      (o.0.0, sym (same_key n.need needed.0) ∙ o.0.1, o.0.2),
      same_opened table ns needed.1 o.1,
    )

  pub kept_keyless : (uses : List NeedAt) → AreFedFrom vault (first_needs uses) kept
      → first_keyless (finder kept master) uses ≡ first_keyless (finder vault master) uses
  kept_keyless uses are = same_keyless (first_needs uses) are uses (first_has uses)

  pub kept_opened : (uses : List NeedAt) (table : Table) → AreFedFrom vault (first_needs uses) kept
      → AreOpened (finder kept master) uses table → AreOpened (finder vault master) uses table
  kept_opened uses table are o = same_opened (first_needs uses) are table uses (first_has uses) o

  -- the same of needs that are ids, by ids alone
  pub kept_keyless_ids : (uses : List NeedAt) → AreIds uses → AreFedFrom vault (first_needs uses) kept
      → first_keyless (by_ids (ring kept master)) uses ≡ first_keyless (by_ids (ring vault master)) uses
  kept_keyless_ids uses ids are =
      keyless_ids kept master uses ids ∙ kept_keyless uses are ∙ sym (keyless_ids vault master uses ids)

  pub kept_opened_ids : (uses : List NeedAt) (table : Table) → AreIds uses → AreFedFrom vault (first_needs uses) kept
      → AreOpened (by_ids (ring kept master)) uses table → AreOpened (by_ids (ring vault master)) uses table
  kept_opened_ids uses table ids are o =
      ids_opened vault master uses table ids (kept_opened uses table are (opened_ids kept master uses table ids o))
