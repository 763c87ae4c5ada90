-- Reading a file of key documents, one after another.
use Rattle.std.proofs.Common.{◌≡◌, ℕ, zero, suc, ◌<◌, ◌≤◌, ◌++◌, Result, Ok, List, [], ◌∷◌, length, drop}
use Rattle.std.proofs.Common.{refl, sym, ap, subst, ◌∙◌, arith, length-append, length-drop}
use Rattle.data_key.specs.declared.key_doc.KeyDoc.{KeyDoc}
use Rattle.key_vault.specs.Loading.{Faulty, Left, and_others, front_key, keys_from, vault}

-- at the start all is left
pub all_left : (bytes : List ℕ) → Left bytes [] bytes
unfolding vault
all_left bytes = record { enough = length bytes; long = omega arith; few = omega arith; comes = refl }

-- where nothing is left the keys are the vault
pub all_read : {start : List ℕ} {cs : List KeyDoc} (rest : List ℕ) → Left start cs rest → length rest ≡ 0
    → vault start ≡ Ok cs
all_read [] left none = sym left.comes
all_read (byte ∷ bytes) left none = cc

-- what comes of the keys and the bytes, by what stands in front
comes_by : (enough : ℕ) (cs : List KeyDoc) (rest : List ℕ) (read : Result (KeyDoc × List ℕ) Faulty)
    → front_key cs rest ≡ read → 0 < length rest → length rest ≤ enough
    → (m : ℕ) × (enough ≡ suc m) × (keys_from enough cs rest ≡ and_others (keys_from m) cs read)
comes_by enough cs [] read front some long = absurd (omega arith)
comes_by zero cs (byte ∷ bytes) read front some long = absurd (omega arith)
comes_by (suc m) cs (byte ∷ bytes) read front some long = (m, refl, ap (and_others (keys_from m) cs) front)

-- the key in front was added
pub key_added : {start : List ℕ} {cs now : List KeyDoc} {rest : List ℕ} (n : ℕ) (key : KeyDoc) → Left start cs rest
    → front_key cs rest ≡ Ok (key, drop n rest) → now ≡ cs ++ key ∷ [] → 0 < n → n ≤ length rest
    → Left start now (drop n rest)
key_added {start = start} {cs = cs} {rest = rest} n key left front is some within =
    let by = comes_by left.enough cs rest _ front (omega arith) left.long in
    subst (λ (keys : List KeyDoc). Left start keys (drop n rest)) (sym is) (record {
      enough = by.0;
      long = omega (arith, by.1, left.long, length-drop n rest);
      few = omega (arith, left.few, length-append cs (key ∷ []), length-drop n rest);
      comes = sym by.2 ∙ left.comes;
    })
