-- MongoDB Client Side Encryption: the data key that an id has in a vault under a master key
use Rattle.std.specs.Prelude.{ℕ, List, Option, Some, None, Result, Ok, Err}
use Rattle.data_key.specs.declared.key_doc.KeyDoc.{KeyDoc}
use Rattle.data_key.specs.declared.key_doc.Provider.{Provider}
use Rattle.data_key.specs.declared.key_doc.Provider.TheVariants as providers
use Rattle.local_kms.specs.Wrapped.{unwrapped}
use Rattle.key_vault.specs.declared.lookup.Keyless.{Keyless}
use Rattle.key_vault.specs.declared.lookup.Keyless.TheVariants as keyless
use Rattle.key_vault.specs.Keys.{key_by_id}

-- a key that was opened, or material that doesn't open
abbrev pub or_damaged : Option (List ℕ) → Result (List ℕ) Keyless
or_damaged None = Err keyless.Damaged
or_damaged (Some key) = Ok key

-- the key of a document by its provider: none opens here but those of the local one
abbrev pub opened_by : Provider → Option (List ℕ) → Result (List ℕ) Keyless
opened_by providers.Local key = or_damaged key
opened_by providers.Other key = Err keyless.NotLocal

-- the data key of a key document that was found: missing, under another master key than the user's, damaged, or opened
abbrev pub opened_key : List ℕ → Option KeyDoc → Result (List ℕ) Keyless
opened_key master None = Err keyless.Missing
opened_key master (Some key) = opened_by key.provider (unwrapped master key.material)

-- the data key of an id
unfoldable pub key_of : List KeyDoc → List ℕ → List ℕ → Result (List ℕ) Keyless
key_of keys master id = opened_key master (key_by_id keys id)
