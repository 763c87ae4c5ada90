-- MongoDB Client Side Encryption, "Key vault": what a key document says of a key
use Rattle.std.specs.Prelude.{◌≡◌, ℕ, List, [], Option, Some, None, Result, Ok, Err, codes, bytes_eq, if◌then◌else◌}
use Rattle.bson_tree.specs.Tree.{Tree, Items, kids_of}
use Rattle.bson_codec.specs.Standings.{Standing, absent, once, repeated, standing}
use Rattle.bson_codec.specs.Values.{is_array_value, is_document_value, text_value}
use Rattle.data_key.specs.declared.key_doc.KeyDoc.{KeyDoc}
use Rattle.data_key.specs.declared.key_doc.KeyFault.{KeyFault}
use Rattle.data_key.specs.declared.key_doc.KeyFault.TheVariants as faults
use Rattle.data_key.specs.declared.key_doc.Provider.{Provider}
use Rattle.data_key.specs.declared.key_doc.Provider.TheVariants as providers
use Rattle.data_key.specs.Values.{are_strings, texts, contents_of, uuid_of}

-- `_id`: a UUID
abbrev pub id_in : Standing → Option (List ℕ)
id_in absent = None
id_in (once t) = uuid_of t
id_in repeated = None

-- `keyAltNames`: an array of strings where it stands
abbrev pub names_of : Tree → Option (List (List ℕ))
names_of t = if is_array_value t then (if are_strings (kids_of t) then Some (texts (kids_of t)) else None) else None

-- the names by how `keyAltNames` stands: none where it is missing, at fault where it stands twice
abbrev pub names_in : Standing → Option (List (List ℕ))
names_in absent = Some []
names_in (once t) = names_of t
names_in repeated = None

-- `keyMaterial`: a binary of subtype 00
abbrev pub material_in : Standing → Option (List ℕ)
material_in absent = None
material_in (once t) = contents_of 0 t
material_in repeated = None

-- `masterKey`: a document whose `provider` is a string; `local` is that of the user
abbrev pub provider_named : Option (List ℕ) → Option Provider
provider_named None = None
provider_named (Some text) = Some (if bytes_eq text (codes "local") then providers.Local else providers.Other)

-- the provider by how `provider` stands in `masterKey`, where it is required
abbrev pub provider_by : Standing → Option Provider
provider_by absent = None
provider_by (once t) = provider_named (text_value t)
provider_by repeated = None

-- the provider by how `masterKey` stands in the key document, where it is required
abbrev pub provider_in : Standing → Option Provider
provider_in absent = None
provider_in (once t) = if is_document_value t then provider_by (standing (codes "provider") (kids_of t)) else None
provider_in repeated = None

-- what a field says, or that it is faulty
abbrev pub or_fault : {A : Type 0} → KeyFault → Option A → Result A KeyFault
or_fault fault None = Err fault
or_fault fault (Some x) = Ok x

infixl 10 ◌>>=◌
-- a field that may be faulty, and what is read next
abbrev pub ◌>>=◌ : {A B : Type 0} → Result A KeyFault → (A → Result B KeyFault) → Result B KeyFault
(Err fault) >>= f = Err fault
(Ok x) >>= f = f x

-- the key of a document, or its first faulty field; other fields aren't read
unfoldable pub key_in : Items → Result KeyDoc KeyFault
key_in is = do
  id ← or_fault faults.Id (id_in (standing (codes "_id") is))
  names ← or_fault faults.AltNames (names_in (standing (codes "keyAltNames") is))
  material ← or_fault faults.Material (material_in (standing (codes "keyMaterial") is))
  provider ← or_fault faults.Provider (provider_in (standing (codes "masterKey") is))
  Ok (record { id = id; names = names; material = material; provider = provider })

-- what reading a key answers is what the document says; memory may run out at any time
abbrev pub Reads : Result KeyDoc KeyFault → Result KeyDoc KeyFault → Type 0
Reads (Ok key) read = read ≡ Ok key
Reads (Err faults.Memory) read = Unit {0}
Reads (Err fault) read = read ≡ Err fault
