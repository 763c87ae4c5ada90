-- What the keys of a vault open to.
use Rattle.std.specs.Prelude.{◌≡◌, ℕ, true, false, List, [], ◌∷◌, Vec, Option, Some, None, Result, Ok, Err}
use Rattle.std.specs.Global.{Global}
use Rattle.data_key.specs.declared.key_doc.KeyDoc.{KeyDoc}
use Rattle.data_key.specs.declared.key_doc.Provider.{Provider}
use Rattle.data_key.specs.declared.key_doc.Provider.TheVariants as providers
use Rattle.local_kms.specs.Wrapped.{unwrapped}
use Rattle.local_kms.specs.declared.wrapping.UnwrapFault.{UnwrapFault}
use Rattle.rewrap_keys.specs.Rewrapped.{first_damaged, is_damaged}
use Rattle.rewrap_keys.specs.declared.passes.Unopened.{Unopened}
use Rattle.rewrap_keys.specs.declared.passes.Unopened.TheVariants as unopened

-- the data key of a key of this provider: what its material opens to, where the user holds its master key
abbrev pub data_key_by : Provider → Option (List ℕ) → Option (List ℕ)
data_key_by providers.Local key = key
data_key_by providers.Other key = None

-- the data key of a key under this master key
abbrev pub data_key_of : List ℕ → KeyDoc → Option (List ℕ)
data_key_of master k = data_key_by k.provider (unwrapped master k.material)

-- the same of each of these keys
abbrev pub data_keys_of : List ℕ → List KeyDoc → List (Option (List ℕ))
data_keys_of master [] = []
data_keys_of master (k ∷ ks) = data_key_of master k ∷ data_keys_of master ks

-- what opening a key answers: its data key, or that it is damaged
abbrev pub OpensOne : List ℕ → KeyDoc → Result (Option (List ℕ)) UnwrapFault → Type 0
OpensOne master k (Ok key) = (is_damaged master k ≡ false) × (key ≡ data_key_of master k)
OpensOne master k (Err _) = is_damaged master k ≡ true

-- what opening all keys answers: none is damaged, and these are their data keys; or the first one that is damaged; or
-- none is, and there was no memory
abbrev pub OpensAll : List ℕ → List KeyDoc → Result (Vec (Option (List ℕ)) Global) Unopened → Type 0
OpensAll master keys (Ok opened) = (first_damaged master keys ≡ None) × (opened.items ≡ data_keys_of master keys)
OpensAll master keys (Err (unopened.Damaged number)) = first_damaged master keys ≡ Some number
OpensAll master keys (Err unopened.Memory) = first_damaged master keys ≡ None
