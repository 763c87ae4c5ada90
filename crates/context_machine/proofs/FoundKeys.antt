-- A look-up by a vault finds the keys that the vault has.
use Rattle.std.proofs.Common.{◌≡◌, ◌∙◌, ℕ, Bool, true, false, cond, List, [], ◌∷◌, Option, Some, None, Result, Ok, Err}
use Rattle.std.proofs.Common.{bytes_eq, length, refl, sym, ap}
use Rattle.std.specs.Cmp.Lexicographic.{bytes_decides}
use Rattle.data_key.specs.declared.key_doc.KeyDoc.{KeyDoc}
use Rattle.encrypt_schema.specs.declared.command.reason.Reason.{Reason}
use Rattle.key_vault.specs.Keys.{key_by_id}
use Rattle.key_vault.specs.Lookup.{key_of, opened_key}
use Rattle.payload6.specs.Needs.{Need, Id, Name}
use Rattle.doc_rewrite.specs.Keys.{Found, GivesLongIds}
use Rattle.doc_rewrite.specs.Opened.{HasAll, Keyring}
use Rattle.context_machine.specs.Kept.{HasDistinctIds, key_by, meets}
use Rattle.context_machine.specs.Rings.{by_ids, finder, found_in, found_key, key_if, reasoned, ring, with_own}
use Rattle.context_machine.proofs.Kept.{no_some, one_some}

-- ---- ids that are distinct

own_by : (k d : KeyDoc) (o p : Option KeyDoc) (b : Bool) → bytes_eq k.id d.id ≡ b → p ≡ None → o ≡ Some d
    → (bytes_eq k.id d.id ≡ true → o ≡ p) → cond b (Some k) o ≡ Some d
own_by k d o p true s none e h = no_some d (sym none ∙ sym (h s) ∙ e)
own_by k d o p false s none e h = e

-- a key that a need finds is found by its id
pub by_own_id : (need : Need) (keys : List KeyDoc) (d : KeyDoc) → HasDistinctIds keys → key_by keys need ≡ Some d
    → key_by_id keys d.id ≡ Some d
by_own_id need [] d h e = no_some d e
by_own_id need (k ∷ ks) d h e = by (meets need k) e (by_own_id need ks d h.1)
  where
    by : (b : Bool) → cond b (Some k) (key_by ks need) ≡ Some d
        → (key_by ks need ≡ Some d → key_by_id ks d.id ≡ Some d)
        → cond (bytes_eq k.id d.id) (Some k) (key_by_id ks d.id) ≡ Some d
    by true p later =
        let same = one_some k d p in
        ap (λ (b : Bool). cond b (Some k) (key_by_id ks d.id))
        ((bytes_decides k.id d.id).1 (ap (λ (x : KeyDoc). x.id) same)) ∙ p
    by false p later =
        own_by k d (key_by_id ks d.id) (key_by_id ks k.id) (bytes_eq k.id d.id) refl h.0 (later p)
        (λ s. ap (key_by_id ks) (sym ((bytes_decides k.id d.id).0 s)))

-- ---- what is found is had

found_is : (r : Result Found Reason) (f : Found) → key_if r ≡ Some f → r ≡ Ok f
found_is (Ok g) f e = ap (λ (x : Found). Ok x) (one_some g f e)
found_is (Err reason) f e = no_some f e

own_key : (id : List ℕ) (k : Result (List ℕ) Reason) (f : Found) → with_own id k ≡ Ok f → (id ≡ f.id) × (k ≡ Ok f.key)
own_key id (Err reason) f e = absurd cc
own_key id (Ok key) f e =
    let same : record { id = id; key = key } ≡ f = cc in
    (ap (λ (x : Found). x.id) same, ap (λ (x : Found). Ok x.key) same)

-- the keys that a vault of distinct ids finds are all there under their ids
pub all_found : (vault : List KeyDoc) (master : List ℕ) → HasDistinctIds vault
    → HasAll (ring vault master) (found_in (finder vault master))
unfolding key_of
all_found vault master distinct need f found =
    by (key_by vault need) refl (found_is (finder vault master need) f found)
  where
    by : (o : Option KeyDoc) → key_by vault need ≡ o → found_key master o ≡ Ok f
        → reasoned (opened_key master (key_by_id vault f.id)) ≡ Ok f.key
    by None p e = absurd cc
    by (Some d) p e =
        let own = own_key d.id (reasoned (opened_key master (Some d))) f e in
        ap (λ (id : List ℕ). reasoned (opened_key master (key_by_id vault id))) (sym own.0)
        ∙ ap (λ (o : Option KeyDoc). reasoned (opened_key master o)) (by_own_id need vault d distinct p)
        ∙ own.1

-- those that are found by ids alone are there in every vault
pub ids_found : (keys : Keyring) → HasAll keys (found_in (by_ids keys))
ids_found keys (Id id) f found =
    let own = own_key id (keys id) f (found_is (with_own id (keys id)) f found) in
    ap keys (sym own.0) ∙ own.1
ids_found keys (Name name) f found = no_some f found

-- and have ids of 16 bytes
pub ids_long : (keys : Keyring) → GivesLongIds (found_in (by_ids keys))
ids_long keys (Id id) f long found =
    ap length (sym (own_key id (keys id) f (found_is (with_own id (keys id)) f found)).0) ∙ long
ids_long keys (Name name) f long found = no_some f found
