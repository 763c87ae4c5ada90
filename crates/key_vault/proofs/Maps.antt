-- One text more has a number: what becomes of the number of any text.
use Rattle.std.proofs.Common.{◌≡◌, ◌<◌, ℕ, cond, List, length, Option, Some}
use Rattle.std.proofs.Common.{None, IfSome, refl, ap}
use Rattle.std.proofs.Common.{zero, suc, [], ◌∷◌, ◌++◌, ◌≤◌, arith, length-append}
use Rattle.std.specs.Prelude.{slice_get}
use Rattle.data_key.specs.declared.key_doc.KeyDoc.{KeyDoc}
use Rattle.key_vault.specs.declared.numbers.Numbers.{Numbers}
use Rattle.key_vault.specs.declared.place.Place.{Place}
use Rattle.bson_tree.specs.NameNumbers.{hash_of, number_of_name}
use Rattle.key_vault.specs.Numbers.{AreOf, first_of, is_text, number_of}
use Rattle.key_vault.specs.Numbers.{or_first, text_in}

more_keys : (keys : List KeyDoc) (k : KeyDoc) (n : ℕ) → n < length keys
    → slice_get (keys ++ k ∷ []) n ≡ slice_get keys n
more_keys [] k n within = absurd (omega (arith, within))
more_keys (d ∷ keys) k zero within = refl
more_keys (d ∷ keys) k (suc n) within = more_keys keys k n (omega (arith, within))

pushed_by : (keys : List KeyDoc) (k : KeyDoc) (text : List ℕ) (o : Option ℕ) (f : Option Place)
    → IfSome f (λ p. p.key < length keys) → or_first (keys ++ k ∷ []) text o f ≡ or_first keys text o f
pushed_by keys k text (Some n) f within = refl
pushed_by keys k text None None within = refl
pushed_by keys k text None (Some place) within =
    ap (λ (d : Option KeyDoc). cond (is_text text (text_in place.name d)) (Some place.key) None)
    (more_keys keys k place.key within)

-- one more key changes no number
pub pushed : (keys : List KeyDoc) (k : KeyDoc) (n : Numbers) → AreOf keys n
    → (text : List ℕ) → number_of (keys ++ k ∷ []) n text ≡ number_of keys n text
pushed keys k n are text =
    pushed_by keys k text (number_of_name n.others text) (first_of n.firsts (hash_of text)) (are (hash_of text))

less_by : (n m : ℕ) (f : Option Place) → n ≤ m → IfSome f (λ p. p.key < n) → IfSome f (λ p. p.key < m)
less_by n m None less are = are
less_by n m (Some place) less are = omega (arith, less, are)

-- and the places are of it too
pub pushed_of : (keys : List KeyDoc) (k : KeyDoc) (n : Numbers) → AreOf keys n → AreOf (keys ++ k ∷ []) n
pushed_of keys k n are h =
    less_by (length keys) (length (keys ++ k ∷ [])) (first_of n.firsts h) (omega (arith, length-append keys (k ∷ [])))
    (are h)
