-- Opened keys that are kept, the most recently used first.
use Rattle.std.specs.Prelude.{◌≡◌, ℕ, ◌-◌, Bool, true, false, List, [], ◌∷◌, take, Option, Some}
use Rattle.std.specs.Prelude.{None, Result, Ok, Err, refl, bytes_eq, Contains, if◌then◌else◌, ◌⊎◌}
use Rattle.std.specs.Coded.{Coded, code_by, coded×, coded_list, coded_ℕ}
use Rattle.data_key.specs.declared.key_doc.KeyDoc.{KeyDoc}
use Rattle.local_kms.specs.Wrapped.{Unwraps}
use Rattle.key_vault.specs.declared.cache.Opened.{Opened}
use Rattle.key_vault.specs.declared.open_stop.OpenStop.{OpenStop}
use Rattle.key_vault.specs.declared.open_stop.OpenStop.TheVariants as stops

-- a key that was opened
pub record Entry : Type 0 where
  pub id : List ℕ
  pub material : List ℕ
  pub key : List ℕ

-- the master key, the most keys that are kept, and the keys opened under it, the most recently used first
pub record Cached : Type 0 where
  pub master : List ℕ
  pub capacity : ℕ
  pub entries : List Entry

-- how the logic stores an entry: its id, the sealed material and the key that it opened to
abbrev pub coded_entry : Coded Entry
coded_entry = code_by (List ℕ × (List ℕ × List ℕ))
    (coded× (coded_list coded_ℕ) (coded× (coded_list coded_ℕ) (coded_list coded_ℕ)))
    (λ e. (e.id, (e.material, e.key))) (λ p. record { id = p.0; material = p.1.0; key = p.1.1 }) (λ _. refl)

-- how the logic stores them: the master key, the number, and the entries in order
abbrev pub coded_cached : Coded Cached
coded_cached = code_by (List ℕ × (ℕ × List Entry))
    (coded× (coded_list coded_ℕ) (coded× coded_ℕ (coded_list coded_entry)))
    (λ c. (c.master, (c.capacity, c.entries)))
    (λ p. record { master = p.0; capacity = p.1.0; entries = p.1.1 }) (λ _. refl)

-- the entry of a pair that is kept
abbrev pub entry_of : List ℕ × Opened → Entry
entry_of p = record { id = p.0; material = p.1.material; key = p.1.key }

-- each was opened under this master key
abbrev pub AreOpened : List ℕ → List (List ℕ × Opened) → Type 0
AreOpened master es = (e : List ℕ × Opened) → Contains es e → Unwraps master e.1.material (Ok e.1.key)

-- the entries without the first of an id
abbrev pub without : List ℕ → List Entry → List Entry
without id [] = []
without id (e ∷ es) = if bytes_eq id e.id then es else e ∷ without id es

-- an entry has this id
abbrev pub is_kept : List ℕ → List Entry → Bool
is_kept id [] = false
is_kept id (e ∷ es) = if bytes_eq id e.id then true else is_kept id es

-- the entry of a key that was opened goes first, and the others keep their order; a new one in a full list of this
-- capacity drops the last
abbrev pub kept_first : ℕ → Entry → List Entry → List Entry
kept_first capacity e es = e ∷ (if is_kept e.id es then without e.id es else take (capacity - 1) es)

-- the first entry of an id
abbrev pub entry_in : List ℕ → List Entry → Option Entry
entry_in id [] = None
entry_in id (e ∷ es) = if bytes_eq id e.id then Some e else entry_in id es

-- the data key of an entry where it is of this material
abbrev pub key_from : List ℕ → Option Entry → Option (List ℕ)
key_from material None = None
key_from material (Some e) = if bytes_eq e.material material then Some e.key else None

-- the data key that is kept under a key's id with its material
abbrev pub kept_key : KeyDoc → List Entry → Option (List ℕ)
kept_key key es = key_from key.material (entry_in key.id es)

-- an entry that was found goes first
abbrev pub found_first : Option Entry → List Entry → List Entry
found_first None es = es
found_first (Some e) es = e ∷ without e.id es

-- the entry of an id that is used goes first
abbrev pub used_first : List ℕ → List Entry → List Entry
used_first id es = found_first (entry_in id es) es

-- a key that was opened is first; or, where its id was new and there was no memory for it, the list is as before
abbrev pub KeepsOpened : ℕ → KeyDoc → List ℕ → List Entry → List Entry → Type 0
KeepsOpened capacity key opened before now =
    (now ≡ kept_first capacity (record { id = key.id; material = key.material; key = opened }) before)
    ⊎ ((is_kept key.id before ≡ false) × (now ≡ before))

-- where no key is answered, what is kept under its id was used all the same
abbrev pub Keeps : {E : Type 0} → ℕ → KeyDoc → List Entry → List Entry → Result (List ℕ) E → Type 0
Keeps capacity key before now (Ok opened) = KeepsOpened capacity key opened before now
Keeps capacity key before now (Err _) = now ≡ used_first key.id before

-- what a cache answers for a key's material: its data key, or its fault; want of memory may come at any time
abbrev pub Opens : List ℕ → List ℕ → Result (List ℕ) OpenStop → Type 0
Opens master material (Ok key) = Unwraps master material (Ok key)
Opens master material (Err (stops.Unopened fault)) = Unwraps master material (Err fault)
Opens master material (Err stops.Memory) = Unit {0}
