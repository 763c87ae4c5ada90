-- A key whose id and names are new leaves ids and names distinct.
use Rattle.std.proofs.Common.{◌≡◌, ◌∙◌, ℕ, Bool, true, false, cond, List, [], ◌∷◌, ◌++◌, Option, Some, None, bytes_eq}
use Rattle.std.proofs.Common.{refl, sym, ap}
use Rattle.std.specs.Cmp.Lexicographic.{nat_list_eq_equiv}
use Rattle.std.specs.Prelude.{is_some}
use Rattle.std.proofs.lemmas.Bool.{false≢true}
use Rattle.data_key.specs.declared.key_doc.KeyDoc.{KeyDoc}
use Rattle.key_vault.specs.Keys.{AreDistinct, first_key, has_id, has_name, key_by_id, key_by_name}
use Rattle.key_vault.specs.Loading.{are_new, is_id_known, is_name_known}
use Rattle.key_vault.proofs.Numbered.{new_unknown}

-- no key passes a test that none of these does, nor the one behind them
none_behind : (test : KeyDoc → Bool) (ks : List KeyDoc) (k : KeyDoc) → first_key test ks ≡ None → test k ≡ false
    → first_key test (ks ++ k ∷ []) ≡ None
none_behind test [] k none off = ap (λ (b : Bool). cond b (Some k) None) off
none_behind test (j ∷ js) k none off = by (test j) none (λ rest. none_behind test js k rest off)
  where
    by : (b : Bool) → cond b (Some j) (first_key test js) ≡ None
        → (first_key test js ≡ None → first_key test (js ++ k ∷ []) ≡ None)
        → cond b (Some j) (first_key test (js ++ k ∷ [])) ≡ None
    by true e more = absurd cc
    by false e more = more e

parts : (b : Bool) (j : KeyDoc) (o : Option KeyDoc) → is_some (cond b (Some j) o) ≡ false
    → (b ≡ false) × (is_some o ≡ false)
parts true j o e = absurd (false≢true (sym e))
parts false j o e = (refl, e)

-- the names of a key of which none is known
abbrev AreUnknown : List KeyDoc → KeyDoc → Type 0
AreUnknown ks k = (name : List ℕ) → has_name name k ≡ true → is_name_known ks name ≡ false

off_by : (j k : KeyDoc) (js : List KeyDoc) (name : List ℕ) (b : Bool) → has_name name k ≡ b → AreUnknown (j ∷ js) k
    → has_name name j ≡ true → b ≡ false
off_by j k js name true is unknown has =
    absurd (false≢true (sym (parts (has_name name j) j (key_by_name js name) (unknown name is)).0 ∙ has))
off_by j k js name false is unknown has = refl

distinct_by : (ks : List KeyDoc) (k : KeyDoc) → AreDistinct ks → is_some (key_by_id ks k.id) ≡ false → AreUnknown ks k
    → AreDistinct (ks ++ k ∷ [])
distinct_by [] k distinct id names = (refl, (λ name has. refl), tt)
distinct_by (j ∷ js) k distinct id names =
    let new = parts (bytes_eq j.id k.id) j (key_by_id js k.id) id in (
      none_behind (has_id j.id) js k distinct.0 (nat_list_eq_equiv.symm k.id j.id ∙ new.0),
      λ name has. none_behind (has_name name) js k (distinct.1 name has)
          (off_by j k js name (has_name name k) refl names has),
      distinct_by js k distinct.2 new.1
          (λ name has. (parts (has_name name j) j (key_by_name js name) (names name has)).1),
    )

pub distinct_more : (ks : List KeyDoc) (k : KeyDoc) → AreDistinct ks → is_id_known ks k.id ≡ false
    → are_new (is_name_known ks) [] k.names ≡ true → AreDistinct (ks ++ k ∷ [])
distinct_more ks k distinct id names =
    distinct_by ks k distinct id (λ name has. new_unknown (is_name_known ks) [] k.names names name has)
