-- Two keys are the same exactly where the test says so.
use Rattle.std.proofs.Common.{◌≡◌, ◌∙◌, ℕ, suc, Bool, true, false, ◌&&◌, List, [], ◌∷◌, length, bytes_eq, refl, sym, ap}
use Rattle.std.proofs.Common.{subst}
use Rattle.std.proofs.lemmas.Bool.{false≢true}
use Rattle.std.specs.Cmp.Lexicographic.{bytes_decides}
use Rattle.std.specs.Prelude.{MatchBool}
use Rattle.data_key.specs.declared.key_doc.KeyDoc.{KeyDoc}
use Rattle.data_key.specs.declared.key_doc.Provider.{Provider}
use Rattle.data_key.specs.declared.key_doc.Provider.TheVariants as providers
use Rattle.key_vault.specs.Putting.{same_key, same_names, same_provider}

and_nothing : (b : Bool) → (b && false) ≡ false
and_nothing true = refl
and_nothing false = refl

-- lists of other lengths are others
pub other_length : (names others : List (List ℕ)) → (length names ≡ length others → ⊥)
    → same_names names others ≡ false
other_length [] [] h = absurd (h refl)
other_length [] (y ∷ others) h = refl
other_length (x ∷ names) [] h = refl
other_length (x ∷ names) (y ∷ others) h =
    ap (λ (b : Bool). bytes_eq x y && b) (other_length names others (λ e. h (ap suc e)))
    ∙ and_nothing (bytes_eq x y)

both : (a b : Bool) → (a && b) ≡ true → (a ≡ true) × (b ≡ true)
both true b e = (refl, e)
both false b e = absurd (false≢true e)

names_told : (names others : List (List ℕ)) → same_names names others ≡ true → names ≡ others
names_told [] [] e = refl
names_told [] (y ∷ others) e = absurd (false≢true e)
names_told (x ∷ names) [] e = absurd (false≢true e)
names_told (x ∷ names) (y ∷ others) e =
    let parts = both (bytes_eq x y) (same_names names others) e in
    ap (λ (z : List ℕ). z ∷ names) ((bytes_decides x y).0 parts.0)
    ∙ ap (λ (zs : List (List ℕ)). y ∷ zs) (names_told names others parts.1)

same_bytes : (bs : List ℕ) → bytes_eq bs bs ≡ true
same_bytes bs = (bytes_decides bs bs).1 refl

names_same : (names : List (List ℕ)) → same_names names names ≡ true
names_same [] = refl
names_same (x ∷ names) =
    ap (λ (b : Bool). b && same_names names names) (same_bytes x) ∙ names_same names

provider_told : (p q : Provider) → same_provider p q ≡ true → p ≡ q
provider_told providers.Local providers.Local e = refl
provider_told providers.Local providers.Other e = absurd (false≢true e)
provider_told providers.Other providers.Local e = absurd (false≢true e)
provider_told providers.Other providers.Other e = refl

provider_same : (p : Provider) → same_provider p p ≡ true
provider_same providers.Local = refl
provider_same providers.Other = refl

key_same : (key : KeyDoc) → same_key key key ≡ true
key_same key =
    ap (λ (b : Bool). b && (same_names key.names key.names
    && (bytes_eq key.material key.material && same_provider key.provider key.provider))) (same_bytes key.id)
    ∙ ap (λ (b : Bool). b && (bytes_eq key.material key.material && same_provider key.provider key.provider))
    (names_same key.names)
    ∙ ap (λ (b : Bool). b && same_provider key.provider key.provider) (same_bytes key.material)
    ∙ provider_same key.provider

key_is : (key other : KeyDoc) → same_key key other ≡ true → key ≡ other
key_is key other e =
    let ids = both (bytes_eq key.id other.id) _ e in
    let names = both (same_names key.names other.names) _ ids.1 in
    let last = both (bytes_eq key.material other.material) _ names.1 in
    ap (λ (i : List ℕ). record { id = i; names = key.names; material = key.material; provider = key.provider })
    ((bytes_decides key.id other.id).0 ids.0)
    ∙ ap (λ (ns : List (List ℕ)). record {
      id = other.id;
      names = ns;
      material = key.material;
      provider = key.provider;
    }) (names_told key.names other.names names.0)
    ∙ ap (λ (m : List ℕ). record { id = other.id; names = other.names; material = m; provider = key.provider })
    ((bytes_decides key.material other.material).0 last.0)
    ∙ ap (λ (p : Provider). record { id = other.id; names = other.names; material = other.material; provider = p })
    (provider_told key.provider other.provider last.1)

-- the test tells whether two keys are one
pub key_told : (key other : KeyDoc) → MatchBool (same_key key other) (key ≡ other) (key ≡ other → ⊥)
key_told key other = by (same_key key other) refl
  where
    by : (b : Bool) → same_key key other ≡ b → MatchBool b (key ≡ other) (key ≡ other → ⊥)
    by true e = key_is key other e
    by false e = λ same. false≢true (sym e ∙ subst (λ (k : KeyDoc). same_key key k ≡ true) same (key_same key))
