-- What is answered where a key is put.
use Rattle.std.proofs.Common.{◌≡◌, ◌++◌, ◌∷◌, List, [], Result, Ok, Err, refl, sym, ap}
use Rattle.data_key.specs.declared.key_doc.KeyDoc.{KeyDoc}
use Rattle.key_vault.specs.declared.faults.VaultKind.{VaultKind}
use Rattle.key_vault.specs.Putting.{with_new}

-- the list that was made, or this one
abbrev made_or : List KeyDoc → Result (List KeyDoc) VaultKind → List KeyDoc
made_or other (Ok keys) = keys
made_or other (Err kind) = other

-- a list with a key behind those before is made of one that was accepted
pub grown : (before now : List KeyDoc) (read : Result KeyDoc VaultKind) → with_new before read ≡ Ok now
    → (key : KeyDoc) × (read ≡ Ok key) × (now ≡ before ++ key ∷ [])
grown before now (Ok key) e = (key, refl, sym (ap (made_or before) e))
grown before now (Err kind) e = absurd cc

-- none is made of a refused one
pub refused_new : (before : List KeyDoc) (read : Result KeyDoc VaultKind) (kind : VaultKind)
    → with_new before read ≡ Err kind → read ≡ Err kind
refused_new before (Ok key) kind e = absurd cc
refused_new before (Err other) kind e = ap (λ (r : Result (List KeyDoc) VaultKind). fault_of other r) e
  where
    fault_of : VaultKind → Result (List KeyDoc) VaultKind → Result KeyDoc VaultKind
    fault_of other (Ok keys) = Err other
    fault_of other (Err kind) = Err kind

-- what is made of an accepted one, and of a refused one
pub put_accepted : (before : List KeyDoc) (read : Result KeyDoc VaultKind) (key : KeyDoc) → read ≡ Ok key
    → with_new before read ≡ Ok (before ++ key ∷ [])
put_accepted before read key e = ap (with_new before) e

pub put_refused : (before : List KeyDoc) (read : Result KeyDoc VaultKind) (kind : VaultKind) → read ≡ Err kind
    → with_new before read ≡ Err kind
put_refused before read kind e = ap (with_new before) e
