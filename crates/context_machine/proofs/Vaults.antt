-- The keys of a vault: no two have one id, and no two one name.
use Rattle.std.proofs.Common.{◌≡◌, ◌∙◌, ℕ, zero, suc, Bool, true, false, cond, List, [], ◌∷◌, ◌++◌}
use Rattle.std.proofs.Common.{length, Some, None, Result, Ok, Err, refl, sym, ap, subst, drop}
use Rattle.std.specs.Prelude.{nat_lt}
use Rattle.std.specs.Cmp.Lexicographic.{bytes_decides}
use Rattle.bson_codec.specs.declared.fault.BsonFault.{BsonFault}
use Rattle.bson_codec.specs.Reading.{front_document}
use Rattle.bson_tree.specs.Tree.{Items}
use Rattle.data_key.specs.declared.key_doc.KeyDoc.{KeyDoc}
use Rattle.data_key.specs.declared.key_doc.KeyFault.{KeyFault}
use Rattle.data_key.specs.Key.{key_in}
use Rattle.key_vault.specs.Keys.{AreDistinct, key_by_id}
use Rattle.key_vault.specs.Loading.{Faulty, and_others, are_new, front_key, in_front, is_id_known, is_name_known}
use Rattle.key_vault.specs.Loading.{judged, key_behind, key_limit, keys_from, vault, with_rest}
use Rattle.key_vault.specs.declared.faults.VaultKind.{VaultKind}
use Rattle.key_vault.specs.declared.faults.VaultKind.TheVariants as kinds
use Rattle.key_vault.proofs.Distinct.{distinct_more}
use Rattle.payload6.specs.Needs.{Need, Id, Name}
use Rattle.context_machine.specs.Kept.{AreAgreed, HasDistinctIds, key_by, meets}
use Rattle.context_machine.specs.Needs.{NeedAt}
use Rattle.context_machine.proofs.Kept.{no_some, one_some}

-- ---- those that were loaded from a file

-- the id and the names of a key are new
abbrev IsNew : List KeyDoc → KeyDoc → Type 0
IsNew before k = (is_id_known before k.id ≡ false) × (are_new (is_name_known before) [] k.names ≡ true)

chosen : (b c : Bool) (k key : KeyDoc)
    → cond b (Err kinds.IdTwice) (cond c (Ok k) (Err kinds.NameTwice)) ≡ Ok key
    → (b ≡ false) × (c ≡ true) × (k ≡ key)
chosen true c k key e = absurd cc
chosen false true k key e = (refl, refl, cc)
chosen false false k key e = absurd cc

judged_new : (before : List KeyDoc) (r : Result KeyDoc KeyFault) (key : KeyDoc) → judged before r ≡ Ok key
    → IsNew before key
judged_new before (Err fault) key e = absurd cc
judged_new before (Ok k) key e =
    let c = chosen (is_id_known before k.id) (are_new (is_name_known before) [] k.names) k key e in
    subst (IsNew before) c.2 (c.0, c.1)

few : (b : Bool) (r : Result KeyDoc VaultKind) (key : KeyDoc) → cond b r (Err kinds.TooMany) ≡ Ok key → r ≡ Ok key
few true r key e = e
few false r key e = absurd cc

behind_new : (before : List KeyDoc) (is : Items) (key : KeyDoc) → key_behind before is ≡ Ok key → IsNew before key
unfolding key_behind
behind_new before is key e =
    judged_new before (key_in is) key (few (nat_lt (length before) key_limit) (judged before (key_in is)) key e)

rest_is : (before : List KeyDoc) (rest : List ℕ) (r : Result KeyDoc VaultKind) (x : KeyDoc × List ℕ)
    → with_rest before rest r ≡ Ok x → r ≡ Ok x.0
rest_is before rest (Err kind) x e = absurd cc
rest_is before rest (Ok key) x e =
    let same : (key, rest) ≡ x = cc in
    ap (λ (y : KeyDoc × List ℕ). Ok y.0) same

front_new : (before : List KeyDoc) (bytes : List ℕ) (r : Result (Items × ℕ) BsonFault) (x : KeyDoc × List ℕ)
    → in_front before bytes r ≡ Ok x → IsNew before x.0
front_new before bytes (Err fault) x e = absurd cc
front_new before bytes (Ok read) x e =
    behind_new before read.0 x.0 (rest_is before (drop read.1 bytes) (key_behind before read.0) x e)

others_hold : (f : List KeyDoc → List ℕ → Result (List KeyDoc) Faulty) (before keys : List KeyDoc)
    (r : Result (KeyDoc × List ℕ) Faulty) → and_others f before r ≡ Ok keys
    → ((x : KeyDoc × List ℕ) → r ≡ Ok x → IsNew before x.0) → AreDistinct before
    → ((now : List KeyDoc) (rest : List ℕ) → AreDistinct now → f now rest ≡ Ok keys → AreDistinct keys)
    → AreDistinct keys
others_hold f before keys (Err fault) e one distinct others = absurd cc
others_hold f before keys (Ok x) e one distinct others =
    let new = one x refl in
    others (before ++ x.0 ∷ []) x.1 (distinct_more before x.0 distinct new.0 new.1) e

ok_is : (a b : List KeyDoc) (r : Result (List KeyDoc) Faulty) → r ≡ Ok a → r ≡ Ok b → a ≡ b
ok_is a b r p q = cc

from_hold : (n : ℕ) (before : List KeyDoc) (bytes : List ℕ) (keys : List KeyDoc) → AreDistinct before
    → keys_from n before bytes ≡ Ok keys → AreDistinct keys
from_hold zero before [] keys p e = subst AreDistinct (ok_is before keys (keys_from zero before []) refl e) p
from_hold zero before (b ∷ bs) keys p e =
    subst AreDistinct (ok_is before keys (keys_from zero before (b ∷ bs)) refl e) p
from_hold (suc n) before [] keys p e = subst AreDistinct (ok_is before keys (keys_from (suc n) before []) refl e) p
from_hold (suc n) before (b ∷ bs) keys p e =
    others_hold (keys_from n) before keys (front_key before (b ∷ bs)) e
    (λ x is. front_new before (b ∷ bs) (front_document (b ∷ bs)) x is) p
    (λ now rest now_holds is. from_hold n now rest keys now_holds is)

pub loaded_distinct : (file : List ℕ) (keys : List KeyDoc) → vault file ≡ Ok keys → AreDistinct keys
unfolding vault
loaded_distinct file keys e = from_hold (length file) [] file keys tt e

-- ---- all needs agree

-- a need that the first key meets finds no other
met_none : (need : Need) (k : KeyDoc) (ks : List KeyDoc) → AreDistinct (k ∷ ks) → meets need k ≡ true
    → key_by ks need ≡ None
met_none (Id id) k ks distinct met = ap (key_by_id ks) (sym ((bytes_decides k.id id).0 met)) ∙ distinct.0
met_none (Name name) k ks distinct met = distinct.1 name met

first_by : (need : Need) (k j : KeyDoc) (ks : List KeyDoc) (b : Bool) → meets need k ≡ b → AreDistinct (k ∷ ks)
    → key_by ks need ≡ Some j → cond b (Some k) (key_by ks need) ≡ Some j
first_by need k j ks true met distinct e = no_some j (sym (met_none need k ks distinct met) ∙ e)
first_by need k j ks false met distinct e = e

agree_by : (need other : Need) (k j : KeyDoc) (ks : List KeyDoc) (b : Bool) → AreDistinct (k ∷ ks)
    → cond b (Some k) (key_by ks need) ≡ Some j → meets other j ≡ true
    → (key_by ks need ≡ Some j → key_by ks other ≡ Some j) → key_by (k ∷ ks) other ≡ Some j
agree_by need other k j ks true distinct e met more =
    let same = one_some k j e in
    ap (λ (b : Bool). cond b (Some k) (key_by ks other)) (ap (meets other) same ∙ met) ∙ e
agree_by need other k j ks false distinct e met more =
    first_by other k j ks (meets other k) refl distinct (more e)

agree : (keys : List KeyDoc) (need other : Need) (j : KeyDoc) → AreDistinct keys → key_by keys need ≡ Some j
    → meets other j ≡ true → key_by keys other ≡ Some j
agree [] need other j distinct e met = no_some j e
agree (k ∷ ks) need other j distinct e met =
    agree_by need other k j ks (meets need k) distinct e met (λ there. agree ks need other j distinct.2 there met)

pub distinct_agree : (vault : List KeyDoc) (needs : List NeedAt) → AreDistinct vault → AreAgreed vault needs
distinct_agree vault needs distinct need other k _ _ found met = agree vault need other k distinct found met

pub distinct_ids : (vault : List KeyDoc) → AreDistinct vault → HasDistinctIds vault
distinct_ids [] distinct = tt
distinct_ids (k ∷ ks) distinct = (distinct.0, distinct_ids ks distinct.2)
