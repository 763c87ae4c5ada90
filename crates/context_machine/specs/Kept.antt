-- MongoDB Client Side Encryption: which keys are kept of those that are handed in
use Rattle.std.specs.Prelude.{◌≡◌, ◌+◌, ℕ, Bool, true, false, not, ◌&&◌, ◌||◌, List, [], ◌∷◌, ◌++◌, Option, Some, None}
use Rattle.std.specs.Prelude.{is_some, if◌then◌else◌}
use Rattle.data_key.specs.declared.key_doc.KeyDoc.{KeyDoc}
use Rattle.key_vault.specs.Keys.{first_key, has_id, has_name, key_by_id}
use Rattle.payload6.specs.Needs.{Need, Id, Name}
use Rattle.context_machine.specs.Needs.{NeedAt, is_needed}

-- a key meets the need of its id, and those of its alternate names
abbrev pub meets : Need → KeyDoc → Bool
meets (Id id) key = has_id id key
meets (Name name) key = has_name name key

-- the first key that meets a need
abbrev pub key_by : List KeyDoc → Need → Option KeyDoc
key_by keys need = first_key (meets need) keys

-- a kept key meets a need
abbrev pub is_met : Need → List KeyDoc → Bool
is_met need kept = is_some (key_by kept need)

-- a key meets a need that no kept key meets
abbrev pub is_wanted : List NeedAt → List KeyDoc → KeyDoc → Bool
is_wanted [] kept key = false
is_wanted (n ∷ ns) kept key = (meets n.need key && not (is_met n.need kept)) || is_wanted ns kept key

-- a key is kept, behind those before, exactly where it meets a need that no kept key meets
abbrev pub fed : List NeedAt → List KeyDoc → KeyDoc → List KeyDoc
fed needs kept key = if is_wanted needs kept key then kept ++ key ∷ [] else kept

-- the values that need keys, and the keys kept
pub record Wants : Type 0 where
  pub needs : List NeedAt
  pub kept : List KeyDoc

-- how many needs no kept key meets
abbrev pub lacking : List KeyDoc → List NeedAt → ℕ
lacking kept [] = 0
lacking kept (n ∷ ns) = (if is_met n.need kept then 0 else 1) + lacking kept ns

-- a need before others, unless it is met
abbrev pub unless_met : Bool → NeedAt → List NeedAt → List NeedAt
unless_met true n ns = ns
unless_met false n ns = n ∷ ns

-- the needs that no key of these meets
abbrev pub unmet : List KeyDoc → List NeedAt → List NeedAt
unmet keys [] = []
unmet keys (n ∷ ns) = unless_met (is_met n.need keys) n (unmet keys ns)

-- one key after another
abbrev pub all_fed : List NeedAt → List KeyDoc → List KeyDoc → List KeyDoc
all_fed needs kept [] = kept
all_fed needs kept (key ∷ keys) = all_fed needs (fed needs kept key) keys

-- the keys kept answer each need as all keys do; and each of them is what these have for a need
pub record AnswerAs (needs : List NeedAt) (keys kept : List KeyDoc) : Type 0 where
  pub answer : (need : Need) → is_needed need needs ≡ true → key_by kept need ≡ key_by keys need
  pub others : (need : Need) (key : KeyDoc) → key_by kept need ≡ Some key
      → (other : Need) × (is_needed other needs ≡ true) × (key_by keys other ≡ Some key)

-- the same of needs that are ids: for any other id there is none
abbrev pub AnswerByIds : List NeedAt → List KeyDoc → List KeyDoc → Type 0
AnswerByIds needs keys kept =
    (id : List ℕ) → key_by_id kept id ≡ (if is_needed (Id id) needs then key_by_id keys id else None)

-- a key that may not be there
abbrev pub fed_some : List NeedAt → List KeyDoc → Option KeyDoc → List KeyDoc
fed_some needs kept None = kept
fed_some needs kept (Some key) = fed needs kept key

-- the keys kept are those of the vault for the needs asked for so far
abbrev pub AreFedFrom : List KeyDoc → List NeedAt → List KeyDoc → Type 0
AreFedFrom vault asked kept = AnswerAs asked vault kept

-- the key that a vault has for one of these needs it has for each of them that the key meets
abbrev pub AreAgreed : List KeyDoc → List NeedAt → Type 0
AreAgreed vault needs = (need other : Need) (key : KeyDoc) → is_needed need needs ≡ true → is_needed other needs ≡ true
    → key_by vault need ≡ Some key → meets other key ≡ true → key_by vault other ≡ Some key

-- no two keys have one id
abbrev pub HasDistinctIds : List KeyDoc → Type 0
HasDistinctIds [] = Unit {0}
HasDistinctIds (key ∷ keys) = (key_by_id keys key.id ≡ None) × HasDistinctIds keys
