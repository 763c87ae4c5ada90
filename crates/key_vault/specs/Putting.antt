-- MongoDB Client Side Encryption, "Key vault": a key document that is put behind the keys that there are
use Rattle.std.specs.Prelude.{◌≡◌, ℕ, ◌++◌, Bool, true, false, ◌&&◌, nat_lt, List, [], ◌∷◌, length, Option, Some}
use Rattle.std.specs.Prelude.{None, Result, Ok, Err, bytes_eq, if◌then◌else◌}
use Rattle.bson_tree.specs.Tree.{Items}
use Rattle.data_key.specs.declared.key_doc.KeyDoc.{KeyDoc}
use Rattle.data_key.specs.declared.key_doc.KeyFault.{KeyFault}
use Rattle.data_key.specs.declared.key_doc.Provider.{Provider}
use Rattle.data_key.specs.declared.key_doc.Provider.TheVariants as providers
use Rattle.data_key.specs.Key.{key_in}
use Rattle.key_vault.specs.declared.faults.PutFault.{PutFault}
use Rattle.key_vault.specs.declared.faults.PutFault.TheVariants as faults
use Rattle.key_vault.specs.declared.faults.VaultKind.{VaultKind}
use Rattle.key_vault.specs.declared.faults.VaultKind.TheVariants as kinds
use Rattle.key_vault.specs.Keys.{key_by_id}
use Rattle.key_vault.specs.Loading.{judged, key_limit, kind_of}

-- the same names in the same order
abbrev pub same_names : List (List ℕ) → List (List ℕ) → Bool
same_names [] [] = true
same_names [] (other ∷ others) = false
same_names (name ∷ names) [] = false
same_names (name ∷ names) (other ∷ others) = bytes_eq name other && same_names names others

-- the same holder of the master key
abbrev pub same_provider : Provider → Provider → Bool
same_provider providers.Local providers.Local = true
same_provider providers.Local providers.Other = false
same_provider providers.Other providers.Local = false
same_provider providers.Other providers.Other = true

-- the same key: id, names, material and holder of the master key
abbrev pub same_key : KeyDoc → KeyDoc → Bool
same_key key other =
    bytes_eq key.id other.id && (same_names key.names other.names
    && (bytes_eq key.material other.material && same_provider key.provider other.provider))

-- the key that was found is this one
abbrev pub is_key : KeyDoc → Option KeyDoc → Bool
is_key key None = false
is_key key (Some other) = same_key other key

-- this key stands among the keys
abbrev pub has_key : List KeyDoc → KeyDoc → Bool
has_key keys key = is_key key (key_by_id keys key.id)

-- the keys with an accepted one behind them
abbrev pub with_new : List KeyDoc → Result KeyDoc VaultKind → Result (List KeyDoc) VaultKind
with_new keys (Err kind) = Err kind
with_new keys (Ok key) = Ok (keys ++ key ∷ [])

-- the keys with one that is put: the same again changes nothing; another goes behind them, where there is room for it,
-- its id is new and its names are
abbrev pub with_key : List KeyDoc → KeyDoc → Result (List KeyDoc) VaultKind
with_key keys key =
    if has_key keys key then Ok keys
    else (if nat_lt (length keys) key_limit then with_new keys (judged keys (Ok key)) else Err kinds.TooMany)

-- the same for a key that was read of a document, or for the first faulty field
abbrev pub with_read : List KeyDoc → Result KeyDoc KeyFault → Result (List KeyDoc) VaultKind
with_read keys (Err fault) = Err (kind_of fault)
with_read keys (Ok key) = with_key keys key

-- the keys with the one that a document states, or what is wrong with it
unfoldable pub put_key : List KeyDoc → Items → Result (List KeyDoc) VaultKind
put_key keys is = with_read keys (key_in is)

-- what putting a key answers, and the keys before and after: what comes of it; where it is faulty, and where memory
-- runs out, as it may at any time, nothing changes
abbrev pub Puts : List KeyDoc → List KeyDoc → Result Unit PutFault → Result (List KeyDoc) VaultKind → Type 0
Puts before now (Ok _) put = put ≡ Ok now
Puts before now (Err (faults.Bad kind)) put = (put ≡ Err kind) × (now ≡ before)
Puts before now (Err faults.Memory) put = now ≡ before
