-- The data keys of a vault are had by UUIDs alone.
use Rattle.std.proofs.Common.{◌≡◌, ℕ, zero, suc, ◌==◌, Bool, true, false, cond, nat_lt, Option, Some, None, Result}
use Rattle.std.proofs.Common.{Ok, Err, List, [], ◌∷◌, ◌++◌, length, drop, refl, sym, ap, subst, ◌∙◌, bytes_eq, codes}
use Rattle.std.proofs.lemmas.Bool.{eqb-true}
use Rattle.std.proofs.lemmas.Slice.Eq.{bytes_eq-Decides}
use Rattle.bson_tree.specs.Tree.{Items}
use Rattle.bson_codec.specs.declared.fault.BsonFault.{BsonFault}
use Rattle.bson_codec.specs.Reading.{front_document}
use Rattle.bson_codec.specs.Standings.{Standing, absent, once, repeated, standing}
use Rattle.context_machine.specs.Kept.{key_by, meets}
use Rattle.context_machine.specs.Rings.{by_ids, finder, found_key, reasoned, ring, with_own}
use Rattle.data_key.specs.Key.{◌>>=◌, id_in, key_in, material_in, names_in, or_fault, provider_in}
use Rattle.data_key.specs.Values.{contents_of, of_length}
use Rattle.data_key.specs.declared.key_doc.KeyDoc.{KeyDoc}
use Rattle.data_key.specs.declared.key_doc.KeyFault.{KeyFault}
use Rattle.data_key.specs.declared.key_doc.Provider.{Provider}
use Rattle.data_key.specs.declared.key_doc.KeyFault.TheVariants as key_faults
use Rattle.doc_rewrite.specs.Keys.{Found}
use Rattle.encrypt_schema.specs.declared.command.reason.Reason.{Reason}
use Rattle.key_vault.specs.Keys.{first_key, has_id, key_by_id}
use Rattle.payload6.specs.Needs.{Need, Id, Name}
use Rattle.key_vault.specs.Loading.{Faulty, and_others, are_new, front_key, in_front, is_id_known, is_name_known}
use Rattle.key_vault.specs.Loading.{judged, key_behind, key_limit, keys_from, vault, with_rest}
use Rattle.key_vault.specs.Lookup.{key_of, opened_key}
use Rattle.key_vault.specs.declared.faults.VaultKind.{VaultKind}
use Rattle.key_vault.specs.declared.faults.VaultKind.TheVariants as kinds
use Rattle.key_vault.specs.declared.lookup.Keyless.{Keyless}
use Rattle.fle_runner.specs.Headline.{AreByUuid}

-- ---- one key document

said : {A : Type 0} (fault : KeyFault) (o : Option A) (x : A) → or_fault fault o ≡ Ok x → o ≡ Some x
said fault None x e = absurd cc
said fault (Some y) x e = cc

long_by : (b : Bool) (bytes id : List ℕ) → (length bytes == 16) ≡ b → cond b (Some bytes) None ≡ Some id
    → length id ≡ 16
long_by true bytes id is e =
    let same : bytes ≡ id = cc in
    sym (ap length same) ∙ eqb-true (length bytes) 16 is
long_by false bytes id is e = absurd cc

long_of : (o : Option (List ℕ)) (id : List ℕ) → of_length 16 o ≡ Some id → length id ≡ 16
long_of None id e = absurd cc
long_of (Some bytes) id e = long_by (length bytes == 16) bytes id refl e

id_long : (s : Standing) (id : List ℕ) → id_in s ≡ Some id → length id ≡ 16
id_long absent id e = absurd cc
id_long (once t) id e = long_of (contents_of 4 t) id e
id_long repeated id e = absurd cc

abbrev key_made : KeyDoc → Result KeyDoc KeyFault
key_made key = Ok key

key_is : (a b : KeyDoc) → key_made a ≡ key_made b → a ≡ b
key_is a b e = cc

-- the key has the id that is read first
kept_id : (a : Result (List ℕ) KeyFault) (b : Result (List (List ℕ)) KeyFault) (c : Result (List ℕ) KeyFault)
    (d : Result Provider KeyFault) (key : KeyDoc)
    → (a >>= λ id. b >>= λ names. c >>= λ material. d >>= λ provider.
    key_made (record { id = id; names = names; material = material; provider = provider })) ≡ Ok key → a ≡ Ok key.id
kept_id (Err fault) b c d key e = absurd cc
kept_id (Ok id) (Err fault) c d key e = absurd cc
kept_id (Ok id) (Ok names) (Err fault) d key e = absurd cc
kept_id (Ok id) (Ok names) (Ok material) (Err fault) key e = absurd cc
kept_id (Ok id) (Ok names) (Ok material) (Ok provider) key e =
    ap (λ (k : KeyDoc). Ok k.id)
    (key_is (record { id = id; names = names; material = material; provider = provider }) key e)

key_long : (is : Items) (key : KeyDoc) → key_in is ≡ Ok key → length key.id ≡ 16
unfolding key_in
key_long is key e =
    let s = standing (codes "_id") is in
    let first = kept_id (or_fault key_faults.Id (id_in s))
    (or_fault key_faults.AltNames (names_in (standing (codes "keyAltNames") is)))
    (or_fault key_faults.Material (material_in (standing (codes "keyMaterial") is)))
    (or_fault key_faults.Provider (provider_in (standing (codes "masterKey") is))) key e in
    id_long s key.id (said key_faults.Id (id_in s) key.id first)

abbrev found_made : Found → Result Found Reason
found_made found = Ok found

found_is : (a b : Found) → found_made a ≡ found_made b → a ≡ b
found_is a b e = cc

-- ---- the keys of a file

abbrev pub AreLong : List KeyDoc → Type 0
AreLong [] = Unit {0}
AreLong (k ∷ ks) = (length k.id ≡ 16) × AreLong ks

with_one : (ks : List KeyDoc) (k : KeyDoc) → AreLong ks → length k.id ≡ 16 → AreLong (ks ++ k ∷ [])
with_one [] k long one = (one, tt)
with_one (j ∷ ks) k long one = (long.0, with_one ks k long.1 one)

chosen : (b c : Bool) (k key : KeyDoc)
    → cond b (Err kinds.IdTwice) (cond c (Ok k) (Err kinds.NameTwice)) ≡ Ok key → k ≡ key
chosen true c k key e = absurd cc
chosen false true k key e = cc
chosen false false k key e = absurd cc

judged_is : (before : List KeyDoc) (r : Result KeyDoc KeyFault) (key : KeyDoc) → judged before r ≡ Ok key → r ≡ Ok key
judged_is before (Err fault) key e = absurd cc
judged_is before (Ok k) key e =
    ap (λ (j : KeyDoc). Ok j) (chosen (is_id_known before k.id) (are_new (is_name_known before) [] k.names) k key e)

few : (b : Bool) (r : Result KeyDoc VaultKind) (key : KeyDoc) → cond b r (Err kinds.TooMany) ≡ Ok key → r ≡ Ok key
few true r key e = e
few false r key e = absurd cc

behind_long : (before : List KeyDoc) (is : Items) (key : KeyDoc) → key_behind before is ≡ Ok key → length key.id ≡ 16
unfolding key_behind
behind_long before is key e =
    key_long is key
    (judged_is before (key_in is) key (few (nat_lt (length before) key_limit) (judged before (key_in is)) key e))

rest_long : (before : List KeyDoc) (rest : List ℕ) (r : Result KeyDoc VaultKind) (x : KeyDoc × List ℕ)
    → with_rest before rest r ≡ Ok x → r ≡ Ok x.0
rest_long before rest (Err kind) x e = absurd cc
rest_long before rest (Ok key) x e =
    let same : (key, rest) ≡ x = cc in
    ap (λ (y : KeyDoc × List ℕ). Ok y.0) same

in_front_long : (before : List KeyDoc) (bytes : List ℕ) (r : Result (Items × ℕ) BsonFault) (x : KeyDoc × List ℕ)
    → in_front before bytes r ≡ Ok x → length x.0.id ≡ 16
in_front_long before bytes (Err fault) x e = absurd cc
in_front_long before bytes (Ok read) x e =
    behind_long before read.0 x.0 (rest_long before (drop read.1 bytes) (key_behind before read.0) x e)

abbrev keys_made : List KeyDoc → Result (List KeyDoc) Faulty
keys_made keys = Ok keys

keys_is : (a b : List KeyDoc) → keys_made a ≡ keys_made b → a ≡ b
keys_is a b e = cc

others_long : (f : List KeyDoc → List ℕ → Result (List KeyDoc) Faulty) (before keys : List KeyDoc)
    (r : Result (KeyDoc × List ℕ) Faulty) → and_others f before r ≡ Ok keys
    → ((x : KeyDoc × List ℕ) → r ≡ Ok x → length x.0.id ≡ 16) → AreLong before
    → ((now : List KeyDoc) (rest : List ℕ) → AreLong now → f now rest ≡ Ok keys → AreLong keys) → AreLong keys
others_long f before keys (Err fault) e one long others = absurd cc
others_long f before keys (Ok x) e one long others =
    others (before ++ x.0 ∷ []) x.1 (with_one before x.0 long (one x refl)) e

from_long : (n : ℕ) (before : List KeyDoc) (bytes : List ℕ) (keys : List KeyDoc) → AreLong before
    → keys_from n before bytes ≡ Ok keys → AreLong keys
from_long zero before [] keys long e = subst AreLong (keys_is before keys e) long
from_long zero before (b ∷ bs) keys long e = subst AreLong (keys_is before keys e) long
from_long (suc n) before [] keys long e = subst AreLong (keys_is before keys e) long
from_long (suc n) before (b ∷ bs) keys long e =
    others_long (keys_from n) before keys (front_key before (b ∷ bs)) e
    (λ x is. in_front_long before (b ∷ bs) (front_document (b ∷ bs)) x is) long
    (λ now rest now_long is. from_long n now rest keys now_long is)

vault_long : (bytes : List ℕ) (keys : List KeyDoc) → vault bytes ≡ Ok keys → AreLong keys
unfolding vault
vault_long bytes keys e = from_long (length bytes) [] bytes keys tt e

-- ---- the key of a need

first_by : (b : Bool) (k key : KeyDoc) (others : Option KeyDoc) → cond b (Some k) others ≡ Some key
    → length k.id ≡ 16 → (others ≡ Some key → length key.id ≡ 16) → length key.id ≡ 16
first_by true k key others e long behind =
    let same : k ≡ key = cc in
    sym (ap (λ (d : KeyDoc). length d.id) same) ∙ long
first_by false k key others e long behind = behind e

first_long : (test : KeyDoc → Bool) (keys : List KeyDoc) (key : KeyDoc) → AreLong keys → first_key test keys ≡ Some key
    → length key.id ≡ 16
first_long test [] key long e = absurd cc
first_long test (k ∷ ks) key long e =
    first_by (test k) k key (first_key test ks) e long.0 (λ behind. first_long test ks key long.1 behind)

found_by : (b : Bool) (k key : KeyDoc) (id : List ℕ) (others : Option KeyDoc) → bytes_eq k.id id ≡ b
    → cond b (Some k) others ≡ Some key → (others ≡ Some key → key.id ≡ id) → key.id ≡ id
found_by true k key id others is e behind =
    let same : k ≡ key = cc in
    sym (ap (λ (d : KeyDoc). d.id) same) ∙ (bytes_eq-Decides k.id id).0 is
found_by false k key id others is e behind = behind e

-- the key of an id has it
has_it : (keys : List KeyDoc) (id : List ℕ) (key : KeyDoc) → key_by_id keys id ≡ Some key → key.id ≡ id
has_it [] id key e = absurd cc
has_it (k ∷ ks) id key e =
    found_by (bytes_eq k.id id) k key id (key_by_id ks id) refl e (λ behind. has_it ks id key behind)

own_id : (id : List ℕ) (r : Result (List ℕ) Reason) (found : Found) → with_own id r ≡ Ok found → found.id ≡ id
own_id id (Ok key) found e =
    let same : found_made (record { id = id; key = key }) ≡ found_made found = e in
    sym (ap (λ (f : Found). f.id) (found_is (record { id = id; key = key }) found same))
own_id id (Err reason) found e = absurd cc

key_had : (master : List ℕ) (keys : List KeyDoc) (o : Option KeyDoc) (found : Found)
    → ((key : KeyDoc) → o ≡ Some key → length key.id ≡ 16) → found_key master o ≡ Ok found → length found.id ≡ 16
key_had master keys None found long e = absurd cc
key_had master keys (Some key) found long e =
    ap length (own_id key.id (reasoned (opened_key master (Some key))) found e) ∙ long key refl

-- the data keys of a vault are had by UUIDs alone, by whatever they are looked up
pub vault_uuids : (bytes master : List ℕ) (keys : List KeyDoc) → vault bytes ≡ Ok keys → AreByUuid (finder keys master)
vault_uuids bytes master keys e need found is =
    key_had master keys (key_by keys need) found
    (λ key at. first_long (meets need) keys key (vault_long bytes keys e) at) is

opened_is : (master : List ℕ) (o : Option KeyDoc) (key : List ℕ) → opened_key master o ≡ Ok key
    → (k : KeyDoc) × (o ≡ Some k)
opened_is master None key e = absurd cc
opened_is master (Some k) key e = (k, refl)

reasoned_is : (r : Result (List ℕ) Keyless) (key : List ℕ) → reasoned r ≡ Ok key → r ≡ Ok key
reasoned_is (Ok k) key e = cc
reasoned_is (Err why) key e = absurd cc

id_long_by : (keys : List KeyDoc) (master id key : List ℕ) → AreLong keys → key_of keys master id ≡ Ok key
    → length id ≡ 16
unfolding key_of
id_long_by keys master id key long e =
    let found = opened_is master (key_by_id keys id) key e in
    sym (ap length (has_it keys id found.0 found.1)) ∙ first_long (has_id id) keys found.0 long found.1

own_had : (id : List ℕ) (r : Result (List ℕ) Reason) (found : Found) → with_own id r ≡ Ok found
    → (key : List ℕ) × (r ≡ Ok key)
own_had id (Ok key) found e = (key, refl)
own_had id (Err reason) found e = absurd cc

-- and so are those that are looked up by ids alone
pub vault_ids : (bytes master : List ℕ) (keys : List KeyDoc) → vault bytes ≡ Ok keys
    → AreByUuid (by_ids (ring keys master))
vault_ids bytes master keys e (Id id) found is =
    let had = own_had id (ring keys master id) found is in
    ap length (own_id id (ring keys master id) found is)
    ∙ id_long_by keys master id had.0 (vault_long bytes keys e) (reasoned_is (key_of keys master id) had.0 had.1)
vault_ids bytes master keys e (Name name) found is = absurd cc
