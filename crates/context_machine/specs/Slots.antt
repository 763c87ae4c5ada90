-- MongoDB Client Side Encryption: a slot for each need, and the number of its key among those kept
use Rattle.std.specs.Prelude.{◌≡◌, ◌<◌, ◌≤◌, ◌||◌, ℕ, Bool, true, false, List, [], ◌∷◌, length, Option, Some, None}
use Rattle.std.specs.Prelude.{is_some}
use Rattle.std.specs.BTreeMap.{BTreeMap, get_by}
use Rattle.std.specs.Cmp.Lexicographic.{slice_cmp}
use Rattle.std.specs.Ordering.{nat_cmp}
use denote.Ref.{Bor}
use Rattle.encrypt_schema.specs.Views.Few as limits
use Rattle.data_key.specs.declared.key_doc.KeyDoc.{KeyDoc}
use Rattle.key_vault.specs.Keys.{place_from}
use Rattle.payload6.specs.Needs.{Need, Id, Name}
use Rattle.context_machine.specs.declared.slots.Slots.{Slots}
use Rattle.context_machine.specs.Kept.{meets}
use Rattle.context_machine.specs.Needs.{NeedAt, is_needed}

-- the slot of an id
abbrev pub id_slot : BTreeMap (List ℕ) (Option ℕ) → List ℕ → Option (Option ℕ)
id_slot ids id = get_by (slice_cmp nat_cmp id) ids

-- the slot of a name
abbrev pub name_slot : BTreeMap (Bor (List ℕ)) (Option ℕ) → List ℕ → Option (Option ℕ)
name_slot names name = get_by (λ k. slice_cmp nat_cmp name k.now) names

-- the slot of a need
abbrev pub slot_of : Slots → Need → Option (Option ℕ)
slot_of slots (Id id) = id_slot slots.ids id
slot_of slots (Name name) = name_slot slots.names name

-- the number in a slot
abbrev pub number_in : Option (Option ℕ) → Option ℕ
number_in None = None
number_in (Some number) = number

-- there is a slot, and nothing stands in it
abbrev pub is_free : Option (Option ℕ) → Bool
is_free None = false
is_free (Some None) = true
is_free (Some (Some number)) = false

-- the slot of one of these names is free
abbrev pub is_one_free : Slots → List (List ℕ) → Bool
is_one_free slots [] = false
is_one_free slots (name ∷ names) = is_free (slot_of slots (Name name)) || is_one_free slots names

-- a slot that a key meets is free
abbrev pub has_free : Slots → KeyDoc → Bool
has_free slots key = is_free (slot_of slots (Id key.id)) || is_one_free slots key.names

-- each need has a slot, and nothing else has; in it stands the number of the first key kept that meets the need
pub record AreSlots (needs : List NeedAt) (kept : List KeyDoc) (slots : Slots) : Type 0 where
  pub there : (need : Need) → is_some (slot_of slots need) ≡ is_needed need needs
  pub numbered : (need : Need) → is_needed need needs ≡ true
      → number_in (slot_of slots need) ≡ place_from 0 (meets need) kept

-- more than a few needs have slots, fewer have none
pub record AreManySlots (needs : List NeedAt) (kept : List KeyDoc) (slots : Slots) : Type 0 where
  pub few : length needs ≤ limits.few → AreSlots [] [] slots
  pub many : limits.few < length needs → AreSlots needs kept slots
