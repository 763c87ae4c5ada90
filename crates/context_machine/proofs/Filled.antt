-- The slots of needs: one more, and a number in those that a key meets.
use Rattle.std.proofs.Common.{◌≡◌, ◌∙◌, ◌≤◌, ◌<◌, ℕ, ◌+◌, Bool, true, false, not, ◌&&◌, ◌||◌, cond, List, []}
use Rattle.std.proofs.Common.{◌∷◌, ◌++◌, length, Option, Some, None, Result, Ok, Err, OnOk, refl, sym, ap, subst, arith}
use Rattle.std.specs.Prelude.{bytes_eq, is_some}
use Rattle.std.specs.BTreeMap.{BTreeMap, UpdatesBy}
use Rattle.std.specs.Cmp.Lexicographic.{bytes_decides, nat_list_eq_equiv, slice_cmp}
use Rattle.std.specs.Ordering.{nat_cmp}
use Rattle.std.proofs.lemmas.Bool.{false≢true}
use Rattle.std.proofs.lemmas.List.{length_push}
use Rattle.std.proofs.lemmas.Map.Text.{btree_map_updates_str, is_eq-slice_cmp}
use denote.Ref.{Bor}
use Rattle.data_key.specs.declared.key_doc.KeyDoc.{KeyDoc}
use Rattle.bson_tree.specs.NameNumbers.{or_number}
use Rattle.key_vault.specs.Keys.{is_among, place_from}
use Rattle.key_vault.proofs.Numbered.{is_placed, place_behind}
use Rattle.payload6.specs.Needs.{Need, Id, Name}
use Rattle.context_machine.specs.declared.slots.Slots.{Slots}
use Rattle.context_machine.specs.Kept.{fed, is_met, is_wanted, meets}
use Rattle.context_machine.specs.Needs.{NeedAt, is_needed, is_same}
use Rattle.context_machine.specs.Slots.{AreManySlots, AreSlots, has_free, id_slot, is_free, is_one_free, name_slot}
use Rattle.context_machine.specs.Slots.{number_in, slot_of}
use Rattle.context_machine.proofs.Kept.{needed_behind, or_either, or_left, or_right}
use Rattle.context_machine.proofs.Kept.{unwanted, wanted_new}

-- ---- one slot is put, and others stay

pub put_id : (id : List ℕ) (m n : BTreeMap (List ℕ) (Option ℕ)) (w : Option (Option ℕ))
    → UpdatesBy (slice_cmp nat_cmp) (slice_cmp nat_cmp id) m n w
    → (other : List ℕ) → id_slot n other ≡ cond (bytes_eq id other) w (id_slot m other)
put_id id m n w updates other =
    updates.0 other ∙ ap (λ (b : Bool). cond b w (id_slot m other)) (is_eq-slice_cmp id other)

pub put_name : (name : List ℕ) (m n : BTreeMap (Bor (List ℕ)) (Option ℕ)) (w : Option (Option ℕ))
    → UpdatesBy (λ x y. slice_cmp nat_cmp x.now y.now) (λ k. slice_cmp nat_cmp name k.now) m n w
    → (other : List ℕ) → name_slot n other ≡ cond (bytes_eq name other) w (name_slot m other)
put_name name m n w updates other = btree_map_updates_str name m n w updates other

-- a number is put into a slot that is free
pub fill_one_id : (id : List ℕ) (m n : BTreeMap (List ℕ) (Option ℕ)) (w : Option (Option ℕ))
    → is_free (id_slot m id) ≡ true → UpdatesBy (slice_cmp nat_cmp) (slice_cmp nat_cmp id) m n w
    → (other : List ℕ) → id_slot n other ≡ cond (is_free (id_slot m id) && bytes_eq id other) w (id_slot m other)
fill_one_id id m n w free updates other = rw free (put_id id m n w updates other)

pub fill_one_name : (name : List ℕ) (m n : BTreeMap (Bor (List ℕ)) (Option ℕ)) (w : Option (Option ℕ))
    → is_free (name_slot m name) ≡ true
    → UpdatesBy (λ x y. slice_cmp nat_cmp x.now y.now) (λ k. slice_cmp nat_cmp name k.now) m n w
    → (other : List ℕ)
    → name_slot n other ≡ cond (is_free (name_slot m name) && bytes_eq name other) w (name_slot m other)
fill_one_name name m n w free updates other = rw free (put_name name m n w updates other)

-- ---- one slot more

there_by : (b : Bool) (o w : Option (Option ℕ)) (needed : Bool) → is_some w ≡ true → is_some o ≡ needed
    → is_some (cond b w o) ≡ (needed || b)
there_by true o w true some is = some
there_by true o w false some is = some
there_by false o w true some is = is
there_by false o w false some is = is

free_by : (b : Bool) (o : Option (Option ℕ)) → number_in o ≡ None → number_in (cond b (Some None) o) ≡ None
free_by true o none = refl
free_by false o none = none

-- with no key kept no slot has a number
none_by : (o : Option (Option ℕ)) (b : Bool) → is_some o ≡ b → (b ≡ true → number_in o ≡ None) → number_in o ≡ None
none_by None b there numbered = refl
none_by (Some o) true there numbered = numbered refl
none_by (Some o) false there numbered = absurd (false≢true (sym there))

pub no_number : (needs : List NeedAt) (m : Slots) → AreSlots needs [] m → (need : Need) → number_in (slot_of m need)
    ≡ None
no_number needs m are need =
    none_by (slot_of m need) (is_needed need needs) (are.there need) (are.numbered need)

-- a value more, whose need has no slot yet
pub one_more : (needs : List NeedAt) (m n : Slots) (a : NeedAt) → AreSlots needs [] m
    → ((other : Need) → slot_of n other ≡ cond (is_same a.need other) (Some None) (slot_of m other))
    → AreSlots (needs ++ a ∷ []) [] n
one_more needs m n a are put = record {
  there = λ need. ap is_some (put need)
      ∙ there_by (is_same a.need need) (slot_of m need) (Some None) (is_needed need needs) refl (are.there need)
      ∙ sym (needed_behind needs a need);
  numbered = λ need _. ap number_in (put need)
      ∙ free_by (is_same a.need need) (slot_of m need) (no_number needs m are need);
}

-- ---- which keys are kept

open_by : (o : Option (Option ℕ)) (b met : Bool) → is_some o ≡ b → (b ≡ true → is_some (number_in o) ≡ met)
    → is_free o ≡ (b && not met)
open_by None true met there numbered = absurd (false≢true there)
open_by None false met there numbered = refl
open_by (Some o) false met there numbered = absurd (false≢true (sym there))
open_by (Some None) true met there numbered = ap not (numbered refl)
open_by (Some (Some n)) true met there numbered = ap not (numbered refl)

-- a slot is free where it is of a need that no kept key meets
pub is_open : (needs : List NeedAt) (kept : List KeyDoc) (m : Slots) → AreSlots needs kept m → (need : Need)
    → is_free (slot_of m need) ≡ (is_needed need needs && not (is_met need kept))
is_open needs kept m are need =
    open_by (slot_of m need) (is_needed need needs) (is_met need kept) (are.there need)
    (λ h. ap is_some (are.numbered need h) ∙ is_placed 0 (meets need) kept)

both : (a b : Bool) → (a && b) ≡ true → (a ≡ true) × (b ≡ true)
both true b e = (refl, e)
both false b e = absurd (false≢true e)

both_true : (a b : Bool) → a ≡ true → b ≡ true → (a && b) ≡ true
both_true true b p q = q
both_true false b p q = absurd (false≢true p)

alike : (a b : Bool) → (a ≡ true → b ≡ true) → (b ≡ true → a ≡ true) → a ≡ b
alike true b p q = sym (p refl)
alike false true p q = q refl
alike false false p q = refl

module _ (needs : List NeedAt) (kept : List KeyDoc) (m : Slots) (k : KeyDoc) (are : AreSlots needs kept m) where
  -- the slot of a need that the key meets is free: the key is wanted
  wanted_by : (need : Need) → meets need k ≡ true → is_free (slot_of m need) ≡ true → (w : Bool)
      → is_wanted needs kept k ≡ w → w ≡ true
  wanted_by need met free true e = refl
  wanted_by need met free false e =
      let open_ = both (is_needed need needs) (not (is_met need kept)) (sym (is_open needs kept m are need) ∙ free) in
      absurd (false≢true (sym (unwanted need needs kept k open_.0 e)
      ∙ both_true (meets need k) (not (is_met need kept)) met open_.1))

  wanted_free : (need : Need) → meets need k ≡ true → is_free (slot_of m need) ≡ true → is_wanted needs kept k ≡ true
  wanted_free need met free = wanted_by need met free (is_wanted needs kept k) refl

  names_free : (names : List (List ℕ)) → is_one_free m names ≡ true
      → ((name : List ℕ) → is_among name names ≡ true → is_free (slot_of m (Name name)) ≡ true
      → is_wanted needs kept k ≡ true)
      → is_wanted needs kept k ≡ true
  names_free [] e h = absurd (false≢true e)
  names_free (name ∷ names) e h =
      or_either (is_free (slot_of m (Name name))) (is_one_free m names) e
      (h name (or_left (bytes_eq name name) (is_among name names) ((bytes_decides name name).1 refl)))
      (λ later. names_free names later
      (λ other among free. h other (or_right (bytes_eq other name) (is_among other names) among) free))

  one_free : (names : List (List ℕ)) (name : List ℕ) → is_among name names ≡ true
      → is_free (slot_of m (Name name)) ≡ true → is_one_free m names ≡ true
  one_free [] name among free = absurd (false≢true among)
  one_free (other ∷ names) name among free =
      or_either (bytes_eq name other) (is_among name names) among
      (λ same. or_left (is_free (slot_of m (Name other))) (is_one_free m names)
      (subst (λ (x : List ℕ). is_free (slot_of m (Name x)) ≡ true) ((bytes_decides name other).0 same) free))
      (λ later. or_right (is_free (slot_of m (Name other))) (is_one_free m names) (one_free names name later free))

  has_by : (need : Need) → meets need k ≡ true → is_free (slot_of m need) ≡ true → has_free m k ≡ true
  has_by (Id id) met free =
      or_left (is_free (slot_of m (Id k.id))) (is_one_free m k.names)
      (subst (λ (x : List ℕ). is_free (slot_of m (Id x)) ≡ true) (sym ((bytes_decides k.id id).0 met)) free)
  has_by (Name name) met free =
      or_right (is_free (slot_of m (Id k.id))) (is_one_free m k.names) (one_free k.names name met free)

  -- a key is wanted where a slot is free that it meets
  pub wanted_slots : has_free m k ≡ is_wanted needs kept k
  wanted_slots =
      alike (has_free m k) (is_wanted needs kept k)
      (λ e. or_either (is_free (slot_of m (Id k.id))) (is_one_free m k.names) e
      (wanted_free (Id k.id) ((bytes_decides k.id k.id).1 refl))
      (λ later. names_free k.names later (λ name. wanted_free (Name name))))
      (λ e.
      let one = wanted_new needs kept k e in
      let new = both (meets one.0 k) (not (is_met one.0 kept)) one.2 in
      has_by one.0 new.0 (is_open needs kept m are one.0
      ∙ both_true (is_needed one.0 needs) (not (is_met one.0 kept)) one.1 new.1))

module _ (needs : List NeedAt) (kept : List KeyDoc) (k : KeyDoc) where
  pub fed_new : is_wanted needs kept k ≡ true → kept ++ k ∷ [] ≡ fed needs kept k
  fed_new new = ap (λ (b : Bool). cond b (kept ++ k ∷ []) kept) (sym new)

  pub fed_old : is_wanted needs kept k ≡ false → kept ≡ fed needs kept k
  fed_old old = ap (λ (b : Bool). cond b (kept ++ k ∷ []) kept) (sym old)

-- ---- a key more

same_there : (o w : Option (Option ℕ)) (m : Bool) → is_some w ≡ true → is_some (cond (is_free o && m) w o) ≡ is_some o
same_there None w m some = refl
same_there (Some None) w true some = some
same_there (Some None) w false some = refl
same_there (Some (Some n)) w m some = refl

number_by : (o : Option (Option ℕ)) (m : Bool) (place : Option ℕ) (n : ℕ) → is_some o ≡ true → number_in o ≡ place
    → number_in (cond (is_free o && m) (Some (Some n)) o) ≡ or_number place m n
number_by None m place n there is = absurd (false≢true there)
number_by (Some None) true place n there is = ap (λ (p : Option ℕ). or_number p true n) is
number_by (Some None) false place n there is = ap (λ (p : Option ℕ). or_number p false n) is
number_by (Some (Some k)) m place n there is = ap (λ (p : Option ℕ). or_number p m n) is

-- what the code makes of the slots for a key of this number
abbrev pub FillsSlots : Slots → Slots → KeyDoc → ℕ → Type 0
FillsSlots m n k number =
    (need : Need) → slot_of n need ≡ cond (is_free (slot_of m need) && meets need k) (Some (Some number))
    (slot_of m need)

-- the number of a key stands in the slots that were free
pub key_more : (needs : List NeedAt) (kept : List KeyDoc) (m n : Slots) (k : KeyDoc) (number : ℕ)
    → AreSlots needs kept m → FillsSlots m n k number → number ≡ length kept → AreSlots needs (kept ++ k ∷ []) n
key_more needs kept m n k number are filled count =
    let size : number ≡ 0 + length kept = omega (arith, count) in
    record {
      there = λ need. ap is_some (filled need)
          ∙ same_there (slot_of m need) (Some (Some number)) (meets need k) refl ∙ are.there need;
      numbered = λ need h. ap number_in (filled need)
          ∙ number_by (slot_of m need) (meets need k) (place_from 0 (meets need) kept) number (are.there need ∙ h)
          (are.numbered need h)
          ∙ ap (or_number (place_from 0 (meets need) kept) (meets need k)) size
          ∙ sym (place_behind 0 (meets need) kept k);
    }

-- ---- the names of a key, one after another

-- a key with this id and these of its names meets a need
abbrev pub meets_front : Need → List ℕ → List (List ℕ) → Bool
meets_front (Id other) id names = bytes_eq id other
meets_front (Name name) id names = is_among name names

-- what the code has made of the slots by then
abbrev pub FillsFront : Slots → Slots → List ℕ → List (List ℕ) → ℕ → Type 0
FillsFront m n id names number =
    (need : Need)
    → slot_of n need
    ≡ cond (is_free (slot_of m need) && meets_front need id names) (Some (Some number)) (slot_of m need)

nothing_met : (o w : Option (Option ℕ)) → cond (is_free o && false) w o ≡ o
nothing_met None w = refl
nothing_met (Some None) w = refl
nothing_met (Some (Some n)) w = refl

same_id_by : (ids : BTreeMap (List ℕ) (Option ℕ)) (id other : List ℕ) (w : Option (Option ℕ)) (b : Bool)
    → bytes_eq id other ≡ b
    → cond (is_free (id_slot ids id) && b) w (id_slot ids other) ≡ cond (is_free (id_slot ids other) && b) w
    (id_slot ids other)
same_id_by ids id other w true e =
    ap (λ (x : List ℕ). cond (is_free (id_slot ids x) && true) w (id_slot ids other)) ((bytes_decides id other).0 e)
same_id_by ids id other w false e =
    nothing_by (is_free (id_slot ids id)) ∙ sym (nothing_by (is_free (id_slot ids other)))
  where
    nothing_by : (f : Bool) → cond (f && false) w (id_slot ids other) ≡ id_slot ids other
    nothing_by true = refl
    nothing_by false = refl

-- the id of the key first
pub fills_id : (m n : Slots) (id : List ℕ) (number : ℕ) → n.names ≡ m.names
    → ((other : List ℕ) → id_slot n.ids other
    ≡ cond (is_free (id_slot m.ids id) && bytes_eq id other) (Some (Some number)) (id_slot m.ids other))
    → FillsFront m n id [] number
fills_id m n id number same filled (Id other) =
    filled other ∙ same_id_by m.ids id other (Some (Some number)) (bytes_eq id other) refl
fills_id m n id number same filled (Name name) =
    ap (λ (names : BTreeMap (Bor (List ℕ)) (Option ℕ)). name_slot names name) same
    ∙ sym (nothing_met (name_slot m.names name) (Some (Some number)))

among_behind : (name : List ℕ) (names : List (List ℕ)) (last : List ℕ)
    → is_among name (names ++ last ∷ []) ≡ (is_among name names || bytes_eq name last)
among_behind name [] last = or_none (bytes_eq name last)
  where
    or_none : (a : Bool) → (a || false) ≡ a
    or_none true = refl
    or_none false = refl
among_behind name (other ∷ names) last =
    ap (λ (b : Bool). bytes_eq name other || b) (among_behind name names last)
    ∙ or_assoc (bytes_eq name other) (is_among name names) (bytes_eq name last)
  where
    or_assoc : (a b c : Bool) → (a || (b || c)) ≡ ((a || b) || c)
    or_assoc true b c = refl
    or_assoc false b c = refl

filled_twice : (o : Option (Option ℕ)) (s : Bool) (n : ℕ)
    → cond (is_free (cond (is_free o && s) (Some (Some n)) o)) (Some (Some n)) (cond (is_free o && s) (Some (Some n)) o)
    ≡ cond (is_free o && (s || true)) (Some (Some n)) o
filled_twice None s n = refl
filled_twice (Some None) true n = refl
filled_twice (Some None) false n = refl
filled_twice (Some (Some k)) s n = refl

not_filled : (f s : Bool) (o x : Option (Option ℕ)) (n : ℕ)
    → cond (f && false) (Some (Some n)) x ≡ x
not_filled true s o x n = refl
not_filled false s o x n = refl

no_more : (o : Option (Option ℕ)) (s : Bool) (n : ℕ)
    → cond (is_free o && s) (Some (Some n)) o ≡ cond (is_free o && (s || false)) (Some (Some n)) o
no_more o true n = refl
no_more o false n = refl

name_by : (o : Option (Option ℕ)) (name other : List ℕ) (now : BTreeMap (Bor (List ℕ)) (Option ℕ)) (s b : Bool) (n : ℕ)
    → bytes_eq name other ≡ b → name_slot now other ≡ cond (is_free o && s) (Some (Some n)) o
    → cond (is_free (name_slot now name) && b) (Some (Some n)) (name_slot now other)
    ≡ cond (is_free o && (s || b)) (Some (Some n)) o
name_by o name other now s true n e is =
    ap (λ (x : List ℕ). cond (is_free (name_slot now x) && true) (Some (Some n)) (name_slot now other))
    ((bytes_decides name other).0 e)
    ∙ ap (λ (x : Option (Option ℕ)). cond (is_free x && true) (Some (Some n)) x) is
    ∙ and_true (is_free (cond (is_free o && s) (Some (Some n)) o)) (cond (is_free o && s) (Some (Some n)) o)
    ∙ filled_twice o s n
  where
    and_true : (f : Bool) (x : Option (Option ℕ)) → cond (f && true) (Some (Some n)) x ≡ cond f (Some (Some n)) x
    and_true true x = refl
    and_true false x = refl
name_by o name other now s false n e is =
    not_filled (is_free (name_slot now name)) s o (name_slot now other) n ∙ is ∙ no_more o s n

-- one name of the key more
pub fills_name : (m now next : Slots) (id : List ℕ) (names : List (List ℕ)) (name : List ℕ) (number : ℕ)
    → FillsFront m now id names number → next.ids ≡ now.ids
    → ((other : List ℕ) → name_slot next.names other
    ≡ cond (is_free (name_slot now.names name) && bytes_eq name other) (Some (Some number)) (name_slot now.names other))
    → FillsFront m next id (names ++ name ∷ []) number
fills_name m now next id names name number front same filled (Id other) =
    ap (λ (ids : BTreeMap (List ℕ) (Option ℕ)). id_slot ids other) same ∙ front (Id other)
fills_name m now next id names name number front same filled (Name other) =
    filled other
    ∙ name_by (name_slot m.names other) name other now.names (is_among other names) (bytes_eq name other) number refl
    (front (Name other))
    ∙ ap (λ (b : Bool). cond (is_free (name_slot m.names other) && b) (Some (Some number)) (name_slot m.names other))
    (ap (λ (b : Bool). is_among other names || b) (nat_list_eq_equiv.symm name other)
    ∙ sym (among_behind other names name))

-- ---- few and many

-- the same where many are needed
pub key_more_many : (needs : List NeedAt) (kept : List KeyDoc) (m n : Slots) (k : KeyDoc) (number : ℕ)
    → 8 < length needs → AreSlots needs kept m → FillsSlots m n k number → number ≡ length kept
    → AreManySlots needs (kept ++ k ∷ []) n
key_more_many needs kept m n k number many are filled count = record {
  few = λ few. absurd (omega (arith, many, few));
  many = λ _. key_more needs kept m n k number are filled count;
}

-- few have no slots, whatever is kept
pub no_more_slots : (needs : List NeedAt) (kept more : List KeyDoc) (m : Slots)
    → length needs ≤ 8 → AreManySlots needs kept m → AreManySlots needs more m
no_more_slots needs kept more m few are = record {
  few = are.few;
  many = λ many. absurd (omega (arith, many, few));
}

-- a value more, with its slot, where they are many
pub slot_more : {A E : Type 0} (needs more : List NeedAt) (m n : Slots) (a : NeedAt)
    (r : Result A E) → more ≡ needs ++ a ∷ [] → 8 < length needs → AreManySlots needs [] m
    → OnOk r ((other : Need) → slot_of n other ≡ cond (is_same a.need other) (Some None) (slot_of m other))
    → OnOk r (AreManySlots more [] n)
slot_more needs more m n a (Err e) is many are put = tt
slot_more needs more m n a (Ok u) is many are put =
    let size : length more ≡ length needs + 1 = ap length is ∙ length_push needs a in
    record {
      few = λ few. absurd (omega (arith, many, few, size));
      many = λ _. subst (λ (ns : List NeedAt). AreSlots ns [] n) (sym is) (one_more needs m n a (are.many many) put);
    }
