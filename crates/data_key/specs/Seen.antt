-- What the code's own types for key documents stand for
use Rattle.std.specs.Prelude.{◌≡◌, ℕ, List, [], Option, Some, None, Result, Ok, Err}
use Rattle.bson_codec.specs.Borrowed.{At}
use Rattle.data_key.specs.declared.key_doc.KeyDoc.{KeyDoc}
use Rattle.data_key.specs.declared.key_doc.KeyFault.{KeyFault}
use Rattle.data_key.specs.declared.reading.KeyFields.{KeyFields}
use Rattle.data_key.specs.Values.{texts}

-- the names in an array that may not be there
abbrev pub names_seen : Option At → List (List ℕ)
names_seen None = []
names_seen (Some array) = texts array.tree

-- the same, where the field isn't at fault
abbrev pub some_names_seen : Option (Option At) → Option (List (List ℕ))
some_names_seen None = None
some_names_seen (Some array) = Some (names_seen array)

-- the key that the fields of a document are
abbrev pub key_seen : KeyFields → KeyDoc
key_seen f = record { id = f.id; names = names_seen f.names; material = f.material.now; provider = f.provider }

-- what reading a key document answers is what it says: the same key, or the same fault
abbrev pub Says : Result KeyFields KeyFault → Result KeyDoc KeyFault → Type 0
Says (Ok f) read = read ≡ Ok (key_seen f)
Says (Err fault) read = read ≡ Err fault
