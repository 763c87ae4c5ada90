-- What the keys of a vault opened to, kept in their order.
use Rattle.std.proofs.Common.{◌≡◌, ℕ, zero, suc, List, [], ◌∷◌, length, drop, get_or, Option, refl, ap, arith}
use Rattle.data_key.specs.declared.key_doc.KeyDoc.{KeyDoc}
use Rattle.rewrap_keys.specs.Opened.{data_key_of, data_keys_of}

-- each key opened to something, or to nothing
pub data_keys_length : (master : List ℕ) (ks : List KeyDoc) → length (data_keys_of master ks) ≡ length ks
data_keys_length master [] = refl
data_keys_length master (k ∷ ks) = ap suc (data_keys_length master ks)

-- what the key at a place opened to stands at that place
pub data_key_at : (master : List ℕ) (ks : List KeyDoc) (i : ℕ) (other : Option (List ℕ)) (k : KeyDoc)
    (behind : List KeyDoc) → drop i ks ≡ k ∷ behind → get_or (data_keys_of master ks) i other ≡ data_key_of master k
data_key_at master [] zero other k behind is = absurd (omega (arith, ap length is))
data_key_at master [] (suc i) other k behind is = absurd (omega (arith, ap length is))
data_key_at master (x ∷ xs) zero other k behind is = ap (λ (ks : List KeyDoc). data_key_of master (get_or ks 0 x)) is
data_key_at master (x ∷ xs) (suc i) other k behind is = data_key_at master xs i other k behind is
