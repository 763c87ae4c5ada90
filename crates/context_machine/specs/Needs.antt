-- MongoDB Client Side Encryption: the data keys that a document needs, each by an id or by an alternate name
use Rattle.std.specs.Prelude.{ℕ, Bool, false, ◌||◌, List, [], ◌∷◌, ◌++◌, map, bytes_eq, if◌then◌else◌}
use Rattle.payload6.specs.Needs.{Need, Id, Name, need_seen}
use Rattle.context_machine.specs.declared.need.NeedAt.{NeedAt as HeldNeedAt}

-- a value that needs a key: what names the key, and the offset of the value's first byte
pub record NeedAt : Type 0 where
  pub need : Need
  pub at : ℕ

-- what the code holds
abbrev pub need_at_seen : HeldNeedAt → NeedAt
need_at_seen n = record { need = need_seen n.need; at = n.at }

-- the same of a list
abbrev pub needs_seen : List HeldNeedAt → List NeedAt
needs_seen ns = map need_at_seen ns

-- two needs are one
abbrev pub is_same : Need → Need → Bool
is_same (Id id) (Id other) = bytes_eq id other
is_same (Name name) (Name other) = bytes_eq name other
is_same _ _ = false

-- this is needed
abbrev pub is_needed : Need → List NeedAt → Bool
is_needed need [] = false
is_needed need (n ∷ ns) = is_same n.need need || is_needed need ns

-- a value whose need isn't there yet is put behind those before
abbrev pub put_new : List NeedAt → NeedAt → List NeedAt
put_new needs n = if is_needed n.need needs then needs else needs ++ n ∷ []

-- the first value of each need, in reading order
abbrev pub with_new : List NeedAt → List NeedAt → List NeedAt
with_new needs [] = needs
with_new needs (n ∷ ns) = with_new (put_new needs n) ns

-- the same of all values, with none before
abbrev pub first_needs : List NeedAt → List NeedAt
first_needs ns = with_new [] ns

-- what is needed, without where
abbrev pub needs_alone : List NeedAt → List Need
needs_alone ns = map (λ n. n.need) ns

-- an id before others, where the need has one
abbrev pub with_id : Need → List (List ℕ) → List (List ℕ)
with_id (Id id) ids = id ∷ ids
with_id (Name name) ids = ids

-- the ids that are needed
abbrev pub ids_of : List NeedAt → List (List ℕ)
ids_of [] = []
ids_of (n ∷ ns) = with_id n.need (ids_of ns)

-- an alternate name before others, where the need has one
abbrev pub with_name : Need → List (List ℕ) → List (List ℕ)
with_name (Id id) names = names
with_name (Name name) names = name ∷ names

-- the alternate names that are needed
abbrev pub names_of : List NeedAt → List (List ℕ)
names_of [] = []
names_of (n ∷ ns) = with_name n.need (names_of ns)

-- a need is an id
abbrev pub IsId : Need → Type 0
IsId (Id id) = Unit {0}
IsId (Name name) = ⊥

-- all needs are ids
abbrev pub AreIds : List NeedAt → Type 0
AreIds [] = Unit {0}
AreIds (n ∷ ns) = IsId n.need × AreIds ns
