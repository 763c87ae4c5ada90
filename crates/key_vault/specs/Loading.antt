-- MongoDB Client Side Encryption, "Key vault": the keys of a file of key documents, one after another
use Rattle.std.specs.Prelude.{◌≡◌, ◌≤◌, ℕ, zero, suc, ◌+◌, ◌++◌, Bool, true, false, not, ◌||◌, ◌&&◌, nat_lt, List, []}
use Rattle.std.specs.Prelude.{◌∷◌, length, drop, is_some, Option, Some, None, Result, Ok, Err, if◌then◌else◌}
use Rattle.bson_tree.specs.Tree.{Items}
use Rattle.bson_codec.specs.declared.fault.BsonFault.{BsonFault}
use Rattle.bson_codec.specs.Reading.{front_document}
use Rattle.data_key.specs.declared.key_doc.KeyDoc.{KeyDoc}
use Rattle.data_key.specs.declared.key_doc.KeyFault.{KeyFault}
use Rattle.data_key.specs.declared.key_doc.KeyFault.TheVariants as key_faults
use Rattle.data_key.specs.Key.{key_in}
use Rattle.key_vault.specs.declared.faults.VaultFault.{VaultFault}
use Rattle.key_vault.specs.declared.faults.VaultFault.TheVariants as faults
use Rattle.key_vault.specs.declared.faults.VaultKind.{VaultKind}
use Rattle.key_vault.specs.declared.faults.VaultKind.TheVariants as kinds
use Rattle.key_vault.specs.Keys.{is_among, key_by_id, key_by_name}

-- the most keys of a vault
abbrev pub key_limit : ℕ
key_limit = 65536

-- a key before has this id
abbrev pub is_id_known : List KeyDoc → List ℕ → Bool
is_id_known before id = is_some (key_by_id before id)

-- a key before has this name
abbrev pub is_name_known : List KeyDoc → List ℕ → Bool
is_name_known before name = is_some (key_by_name before name)

-- none of these names is known, nor stands among those before it
abbrev pub are_new : (List ℕ → Bool) → List (List ℕ) → List (List ℕ) → Bool
are_new known before [] = true
are_new known before (name ∷ names) = not (is_among name before || known name) && are_new known (name ∷ before) names

-- a faulty field of a key document (that memory ran out is no fault of it)
abbrev pub kind_of : KeyFault → VaultKind
kind_of key_faults.Id = kinds.Id
kind_of key_faults.AltNames = kinds.AltNames
kind_of key_faults.Material = kinds.Material
kind_of key_faults.Provider = kinds.Provider
kind_of key_faults.Memory = kinds.Bson

-- the key that a document states, behind those before: its id is judged first, then its names
abbrev pub judged : List KeyDoc → Result KeyDoc KeyFault → Result KeyDoc VaultKind
judged before (Err fault) = Err (kind_of fault)
judged before (Ok key) =
    if is_id_known before key.id then Err kinds.IdTwice
    else (if are_new (is_name_known before) [] key.names then Ok key else Err kinds.NameTwice)

-- the same where there is room for it: a vault has at most 65,536 keys
unfoldable pub key_behind : List KeyDoc → Items → Result KeyDoc VaultKind
key_behind before is = if nat_lt (length before) key_limit then judged before (key_in is) else Err kinds.TooMany

-- what is wrong with a key by whether its id is known and whether its names are new
abbrev pub kind_by : Bool → Bool → Option VaultKind
kind_by true new = Some kinds.IdTwice
kind_by false true = None
kind_by false false = Some kinds.NameTwice

-- what adding a document of this number answers is what it states, and the key is behind those before; memory may run
-- out at any time
abbrev pub Grows : List KeyDoc → List KeyDoc → ℕ → Result Unit VaultFault → Result KeyDoc VaultKind → Type 0
Grows before now number (Ok _) read = (key : KeyDoc) × (read ≡ Ok key) × (now ≡ before ++ key ∷ [])
Grows before now number (Err (faults.Bad document kind)) read = (document ≡ number) × (read ≡ Err kind)
Grows before now number (Err faults.Memory) read = Unit {0}

-- a file's first faulty document, from 1, and what is wrong with it
pub record Faulty : Type 0 where
  pub document : ℕ
  pub kind : VaultKind

-- the document behind those before is the first faulty one
abbrev pub faulty : {A : Type 0} → List KeyDoc → VaultKind → Result A Faulty
faulty before kind = Err (record { document = length before + 1; kind = kind })

-- a key with the bytes behind it
abbrev pub with_rest : List KeyDoc → List ℕ → Result KeyDoc VaultKind → Result (KeyDoc × List ℕ) Faulty
with_rest before rest (Err kind) = faulty before kind
with_rest before rest (Ok key) = Ok (key, rest)

-- the same for a document that was read in front of these bytes, or for a fault of its spelling
abbrev pub in_front : List KeyDoc → List ℕ → Result (Items × ℕ) BsonFault → Result (KeyDoc × List ℕ) Faulty
in_front before bytes (Err fault) = faulty before kinds.Bson
in_front before bytes (Ok read) = with_rest before (drop read.1 bytes) (key_behind before read.0)

-- the key of the document at the front of these bytes, and the bytes behind it
abbrev pub front_key : List KeyDoc → List ℕ → Result (KeyDoc × List ℕ) Faulty
front_key before bytes = in_front before bytes (front_document bytes)

-- the first key, then those that are read behind it
abbrev pub and_others : (List KeyDoc → List ℕ → Result (List KeyDoc) Faulty) → List KeyDoc
    → Result (KeyDoc × List ℕ) Faulty → Result (List KeyDoc) Faulty
and_others read before (Err fault) = Err fault
and_others read before (Ok first) = read (before ++ first.0 ∷ []) first.1

-- the keys of a file, behind those before; each document takes a byte at least, so n documents suffice for n bytes
abbrev pub keys_from : ℕ → List KeyDoc → List ℕ → Result (List KeyDoc) Faulty
keys_from n before [] = Ok before
keys_from zero before (byte ∷ bytes) = Ok before
keys_from (suc n) before (byte ∷ bytes) = and_others (keys_from n) before (front_key before (byte ∷ bytes))

-- the keys of a file, in order, or its first faulty document
unfoldable pub vault : List ℕ → Result (List KeyDoc) Faulty
vault bytes = keys_from (length bytes) [] bytes

-- what loading answers is what is read; memory may run out at any time
abbrev pub Loads : Result (List KeyDoc) VaultFault → Result (List KeyDoc) Faulty → Type 0
Loads (Ok keys) read = read ≡ Ok keys
Loads (Err (faults.Bad document kind)) read = read ≡ Err (record { document = document; kind = kind })
Loads (Err faults.Memory) read = Unit {0}

-- the key read first is added behind those before
abbrev pub Adds : List KeyDoc → List KeyDoc → List ℕ → Result ℕ VaultFault → Result (KeyDoc × List ℕ) Faulty → Type 0
Adds before now bytes (Ok n) read = (key : KeyDoc) × (read ≡ Ok (key, drop n bytes)) × (now ≡ before ++ key ∷ [])
Adds before now bytes (Err (faults.Bad document kind)) read = read ≡ Err (record { document = document; kind = kind })
Adds before now bytes (Err faults.Memory) read = Unit {0}

-- what holds while a file is read: these keys are read, these bytes are left, and together they make the vault
pub record Left (start : List ℕ) (so_far : List KeyDoc) (rest : List ℕ) : Type 0 where
  pub enough : ℕ
  pub long : length rest ≤ enough
  pub few : length so_far + length rest ≤ length start
  pub comes : keys_from enough so_far rest ≡ vault start
