-- The documents of a file that loads, and a file of documents that loads.
use Rattle.std.proofs.Common.{◌≡◌, ◌∙◌, ℕ, zero, suc, ◌≤◌, Bool, true, false, cond, List, [], ◌∷◌, ◌++◌}
use Rattle.std.proofs.Common.{length, drop, Result, Ok, Err, refl, sym, ap, subst, arith, append_assoc}
use Rattle.std.proofs.Common.{length-append}
use Rattle.std.specs.Prelude.{is_ok, nat_lt}
use Rattle.std.proofs.lemmas.Bool.{false≢true}
use Rattle.std.proofs.lemmas.List.{append-nil, drop_at, length-drop}
use Rattle.bson_tree.specs.Tree.{Items}
use Rattle.bson_tree.specs.Spelling.{doc_bytes, items_bytes}
use Rattle.bson_tree.proofs.Sizes.{framed_size}
use Rattle.bson_codec.specs.Bytes.{AreBytes}
use Rattle.bson_codec.specs.declared.fault.BsonFault.{BsonFault}
use Rattle.bson_codec.specs.Layout.{IsDoc}
use Rattle.bson_codec.specs.Reading.{front_document}
use Rattle.bson_codec.proofs.Documents.{front_again, front_takes}
use Rattle.bson_codec.proofs.Pieces.{AreBytes-drop, begins_of}
use Rattle.data_key.specs.declared.key_doc.KeyDoc.{KeyDoc}
use Rattle.data_key.specs.declared.key_doc.KeyFault.{KeyFault}
use Rattle.data_key.specs.Key.{key_in}
use Rattle.key_vault.specs.declared.faults.VaultKind.{VaultKind}
use Rattle.key_vault.specs.declared.faults.VaultKind.TheVariants as kinds
use Rattle.key_vault.specs.Loading.{and_others, are_new, in_front, is_id_known, is_name_known, judged}
use Rattle.key_vault.specs.Loading.{key_behind, key_limit, keys_from, vault, with_rest}
use Rattle.rewrap_keys.specs.Documents.{documents, documents_from, spelled}

-- these documents have a spelling, and state these keys
abbrev pub AreStated : List Items → List KeyDoc → Type 0
AreStated [] [] = Unit {0}
AreStated [] (k ∷ ks) = ⊥
AreStated (d ∷ ds) [] = ⊥
AreStated (d ∷ ds) (k ∷ ks) = IsDoc d × (key_in d ≡ Ok k) × AreStated ds ks

-- documents that are read behind these keys, and the keys that they state
abbrev pub AreKeys : List KeyDoc → List Items → List KeyDoc → Type 0
AreKeys before [] [] = Unit {0}
AreKeys before [] (k ∷ ks) = ⊥
AreKeys before (d ∷ ds) [] = ⊥
AreKeys before (d ∷ ds) (k ∷ ks) = IsDoc d × (key_behind before d ≡ Ok k) × AreKeys (before ++ k ∷ []) ds ks

-- the keys of a file, with its documents
pub record Listed (n : ℕ) (before : List KeyDoc) (bytes : List ℕ) (keys : List KeyDoc) : Type 0 where
  pub others : List KeyDoc
  pub whole : keys ≡ before ++ others
  pub are : AreKeys before (documents_from n bytes) others
  pub parts : bytes ≡ spelled (documents_from n bytes)

abbrev or_none : {A E : Type 0} → Result (List A) E → List A
or_none (Ok x) = x
or_none (Err e) = []

ok_list : {E : Type 0} (a b : List KeyDoc) → ◌≡◌ {A = Result (List KeyDoc) E} (Ok a) (Ok b) → a ≡ b
ok_list a b e = ap or_none e

not_ok : {A E : Type 0} (e : E) (a : A) → ◌≡◌ {A = Result A E} (Err e) (Ok a) → ⊥
not_ok e a is = false≢true (ap is_ok is)

doc_size : (d : Items) → 5 ≤ length (doc_bytes d)
doc_size d = omega (arith, framed_size (items_bytes d))

-- one document, by what stands in front
listed_by : (n : ℕ) (before : List KeyDoc) (byte : ℕ) (bytes : List ℕ) (keys : List KeyDoc)
    (read : Result (Items × ℕ) BsonFault)
    → front_document (byte ∷ bytes) ≡ read → AreBytes (byte ∷ bytes) → length bytes ≤ n
    → ((cs : List KeyDoc) (rest : List ℕ) → AreBytes rest → length rest ≤ n → keys_from n cs rest ≡ Ok keys
    → Listed n cs rest keys)
    → and_others (keys_from n) before (in_front before (byte ∷ bytes) read) ≡ Ok keys
    → Listed (suc n) before (byte ∷ bytes) keys
listed_by n before byte bytes keys (Err fault) front fits short others e = absurd (not_ok _ keys e)
listed_by n before byte bytes keys (Ok (d, w)) front fits short others e =
    by_key (key_behind before d) refl e
  where
    by_key : (k : Result KeyDoc VaultKind) → key_behind before d ≡ k
        → and_others (keys_from n) before (with_rest before (drop w (byte ∷ bytes)) k) ≡ Ok keys
        → Listed (suc n) before (byte ∷ bytes) keys
    by_key (Err kind) is e = absurd (not_ok _ keys e)
    by_key (Ok k) is e =
        let read = front_takes (byte ∷ bytes) (d, w) fits front in
        let some : 5 ≤ length (doc_bytes d) = doc_size d in
        let rest = others (before ++ k ∷ []) (drop w (byte ∷ bytes)) (AreBytes-drop w (byte ∷ bytes) fits)
        (omega (arith, length-drop w (byte ∷ bytes), some, read.parts.size)) e in
        let here : documents_from (suc n) (byte ∷ bytes) ≡ d ∷ documents_from n (drop w (byte ∷ bytes)) =
        ap (Rattle.rewrap_keys.specs.Documents.and_others (documents_from n) (byte ∷ bytes)) front in
        record {
          others = k ∷ rest.others;
          whole = rest.whole ∙ append_assoc before (k ∷ []) rest.others;
          are = subst (λ (ds : List Items). AreKeys before ds (k ∷ rest.others)) (sym here) (read.doc, is, rest.are);
          parts =
              read.parts.parts ∙ ap (λ (x : List ℕ). doc_bytes d ++ x) rest.parts ∙ ap spelled (sym here);
        }

pub listed : (n : ℕ) (before : List KeyDoc) (bytes : List ℕ) (keys : List KeyDoc) → AreBytes bytes → length bytes ≤ n
    → keys_from n before bytes ≡ Ok keys → Listed n before bytes keys
listed n before [] keys fits short e = record {
  others = [];
  whole = sym (ok_list before keys e) ∙ sym (append-nil before);
  are = tt;
  parts = refl;
}
listed zero before (byte ∷ bytes) keys fits short e = absurd (omega arith)
listed (suc n) before (byte ∷ bytes) keys fits short e =
    listed_by n before byte bytes keys (front_document (byte ∷ bytes)) refl fits (omega arith)
    (λ cs rest f s h. listed n cs rest keys f s h) e

-- ---- and back

-- one document in front of others is read
front_is : (d : Items) (rest : List ℕ) → IsDoc d
    → front_document (doc_bytes d ++ rest) ≡ Ok (d, length (doc_bytes d))
front_is d rest doc = front_again (doc_bytes d ++ rest) d (length (doc_bytes d)) doc (begins_of (doc_bytes d) rest)

pub reads_back : (m : ℕ) (before : List KeyDoc) (ds : List Items) (ks : List KeyDoc) → AreKeys before ds ks
    → length (spelled ds) ≤ m → keys_from m before (spelled ds) ≡ Ok (before ++ ks)
reads_back m before [] [] are short = ap (λ (cs : List KeyDoc). Ok cs) (sym (append-nil before))
reads_back m before [] (k ∷ ks) are short = absurd are
reads_back m before (d ∷ ds) [] are short = absurd are
reads_back zero before (d ∷ ds) (k ∷ ks) are short =
    absurd (omega (arith, short, doc_size d, length-append (doc_bytes d) (spelled ds)))
reads_back (suc m) before (d ∷ ds) (k ∷ ks) are short =
    let behind : drop (length (doc_bytes d)) (doc_bytes d ++ spelled ds) ≡ spelled ds =
    drop_at (doc_bytes d) (spelled ds) (length (doc_bytes d)) refl in
    let others = reads_back m (before ++ k ∷ []) ds ks are.2
    (omega (arith, short, doc_size d, length-append (doc_bytes d) (spelled ds))) in
    ap (λ (r : Result (Items × ℕ) BsonFault). and_others (keys_from m) before
    (in_front before (doc_bytes d ++ spelled ds) r)) (front_is d (spelled ds) are.0)
    ∙ ap (λ (r : Result KeyDoc VaultKind). and_others (keys_from m) before
    (with_rest before (drop (length (doc_bytes d)) (doc_bytes d ++ spelled ds)) r)) are.1
    ∙ ap (keys_from m (before ++ k ∷ [])) behind ∙ others
    ∙ ap (λ (cs : List KeyDoc). Ok cs) (append_assoc before (k ∷ []) ks)

-- ---- one key behind others

-- a document that states a key which may stand behind these: there is room, and id and names are new
pub record Behind (before : List KeyDoc) (d : Items) (k : KeyDoc) : Type 0 where
  pub room : nat_lt (length before) key_limit ≡ true
  pub says : key_in d ≡ Ok k
  pub id : is_id_known before k.id ≡ false
  pub names : are_new (is_name_known before) [] k.names ≡ true

key_is : {E : Type 0} (a b : KeyDoc) → ◌≡◌ {A = Result KeyDoc E} (Ok a) (Ok b) → a ≡ b
key_is {E} a b e = ap or_a e
  where
    or_a : Result KeyDoc E → KeyDoc
    or_a (Ok k) = k
    or_a (Err e) = a

names_by : (b : Bool) (k l : KeyDoc) → cond b (Ok k) (Err kinds.NameTwice) ≡ Ok l → (b ≡ true) × (k ≡ l)
names_by true k l e = (refl, key_is k l e)
names_by false k l e = absurd (not_ok _ l e)

id_by : (b : Bool) (r : Result KeyDoc VaultKind) (l : KeyDoc) → cond b (Err kinds.IdTwice) r ≡ Ok l
    → (b ≡ false) × (r ≡ Ok l)
id_by true r l e = absurd (not_ok _ l e)
id_by false r l e = (refl, e)

room_by : (b : Bool) (r : Result KeyDoc VaultKind) (l : KeyDoc) → cond b r (Err kinds.TooMany) ≡ Ok l
    → (b ≡ true) × (r ≡ Ok l)
room_by true r l e = (refl, e)
room_by false r l e = absurd (not_ok _ l e)

behind_by : (before : List KeyDoc) (d : Items) (k : KeyDoc) (r : Result KeyDoc KeyFault)
    → nat_lt (length before) key_limit ≡ true → key_in d ≡ r → judged before r ≡ Ok k → Behind before d k
behind_by before d k (Err fault) room is e = absurd (not_ok _ k e)
behind_by before d k (Ok l) room is e =
    let i = id_by (is_id_known before l.id) _ k e in
    let n = names_by (are_new (is_name_known before) [] l.names) l k i.1 in
    record {
      room = room;
      says = is ∙ ap (λ (x : KeyDoc). Ok x) n.1;
      id = ap (λ (x : KeyDoc). is_id_known before x.id) (sym n.1) ∙ i.0;
      names = ap (λ (x : KeyDoc). are_new (is_name_known before) [] x.names) (sym n.1) ∙ n.0;
    }

pub behind : (before : List KeyDoc) (d : Items) (k : KeyDoc) → key_behind before d ≡ Ok k → Behind before d k
unfolding key_behind
behind before d k e =
    let r = room_by (nat_lt (length before) key_limit) (judged before (key_in d)) k e in
    behind_by before d k (key_in d) r.0 refl r.1

pub behind_again : (before : List KeyDoc) (d : Items) (k : KeyDoc) → Behind before d k → key_behind before d ≡ Ok k
unfolding key_behind
behind_again before d k b =
    ap (λ (x : Bool). cond x (judged before (key_in d)) (Err kinds.TooMany)) b.room ∙ ap (judged before) b.says
    ∙ ap (λ (x : Bool). cond x (Err kinds.IdTwice) (cond (are_new (is_name_known before) [] k.names) (Ok k)
    (Err kinds.NameTwice))) b.id
    ∙ ap (λ (x : Bool). cond x (Ok k) (Err kinds.NameTwice)) b.names

pub are_stated : (before : List KeyDoc) (ds : List Items) (ks : List KeyDoc) → AreKeys before ds ks → AreStated ds ks
are_stated before [] [] are = tt
are_stated before [] (k ∷ ks) are = absurd are
are_stated before (d ∷ ds) [] are = absurd are
are_stated before (d ∷ ds) (k ∷ ks) are =
    (are.0, (behind before d k are.1).says, are_stated (before ++ k ∷ []) ds ks are.2)

-- the documents of a file that loads
pub documents_stated : (bytes : List ℕ) (keys : List KeyDoc) → AreBytes bytes → vault bytes ≡ Ok keys
    → AreStated (documents bytes) keys × (bytes ≡ spelled (documents bytes))
unfolding vault documents
documents_stated bytes keys fits e =
    let l = listed (length bytes) [] bytes keys fits (omega arith) e in (
      subst (AreStated (documents_from (length bytes) bytes)) (sym l.whole)
          (are_stated [] (documents_from (length bytes) bytes) l.others l.are),
      l.parts,
    )
