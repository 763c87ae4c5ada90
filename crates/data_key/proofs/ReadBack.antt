-- A key document as it is written reads back as its key.
use Rattle.std.proofs.Common.{◌≡◌, ◌∙◌, ℕ, ◌+◌, ◌==◌, Bool, true, cond, List, [], ◌∷◌, length, refl, sym}
use Rattle.std.proofs.Common.{ap}
use Rattle.std.specs.Prelude.{codes, Option, Some, None, Result, Ok}
use Rattle.bson_tree.specs.Tree.{item}
use Rattle.bson_codec.specs.Layout.{string_bytes}
use Rattle.bson_codec.specs.Standings.{standing}
use Rattle.data_key.specs.declared.key_doc.KeyDoc.{KeyDoc}
use Rattle.data_key.specs.declared.key_doc.KeyFault.{KeyFault}
use Rattle.data_key.specs.declared.key_doc.KeyFault.TheVariants as faults
use Rattle.data_key.specs.declared.key_doc.Provider.{Provider}
use Rattle.data_key.specs.declared.key_doc.Provider.TheVariants as providers
use Rattle.data_key.specs.Key.{key_in, or_fault, ◌>>=◌}
use Rattle.data_key.specs.Values.{are_strings, texts, uuid_of}
use Rattle.data_key.specs.Written.{binary, numbered, names_field, history, key_fields, IsWritable, ReadsBack}
use Rattle.bson_tree.specs.Spelling.{doc_bytes}
use Rattle.data_key.proofs.Laid.{document_is}
use Rattle.data_key.proofs.Texts.{text_is}

strings_numbered : (i : ℕ) (names : List (List ℕ)) → are_strings (numbered i names) ≡ true
strings_numbered i [] = refl
strings_numbered i (name ∷ names) = strings_numbered (i + 1) names

texts_numbered : (i : ℕ) (names : List (List ℕ)) → texts (numbered i names) ≡ names
texts_numbered i [] = refl
texts_numbered i (name ∷ names) =
    ap (λ (first : List ℕ). first ∷ texts (numbered (i + 1) names)) (text_is (string_bytes name) name refl)
    ∙ ap (λ (others : List (List ℕ)). name ∷ others) (texts_numbered (i + 1) names)

names_again : (i : ℕ) (names : List (List ℕ))
    → cond (are_strings (numbered i names)) (Some (texts (numbered i names))) None ≡ Some names
names_again i names =
    ap (λ (b : Bool). cond b (Some (texts (numbered i names))) None) (strings_numbered i names)
    ∙ ap (λ (ns : List (List ℕ)). Some ns) (texts_numbered i names)

id_again : (id : List ℕ) → length id ≡ 16 → uuid_of (binary 4 id) ≡ Some id
id_again id long = ap (λ (n : ℕ). cond (n == 16) (Some id) None) long

-- the key of fields of these values
abbrev pub key_by : Option (List ℕ) → Option (List (List ℕ)) → Option (List ℕ) → Option Provider
    → Result KeyDoc KeyFault
key_by i ns m p =
    or_fault faults.Id i >>= λ id. (or_fault faults.AltNames ns >>= λ names.
    (or_fault faults.Material m >>= λ material. (or_fault faults.Provider p >>= λ provider. Ok (record {
      id = id;
      names = names;
      material = material;
      provider = provider;
    }))))

again_by : (key : KeyDoc) (i : Option (List ℕ)) (ns : Option (List (List ℕ))) → i ≡ Some key.id → ns ≡ Some key.names
    → key.provider ≡ providers.Local
    → key_by i ns (Some key.material) (Some providers.Local) ≡ Ok key
again_by key i ns e f local =
    ap (λ (x : Option (List ℕ)). key_by x ns (Some key.material) (Some providers.Local)) e
    ∙ ap (λ (x : Option (List (List ℕ))). key_by (Some key.id) x (Some key.material) (Some providers.Local)) f
    ∙ ap (λ (p : Provider). key_by (Some key.id) (Some key.names) (Some key.material) (Some p)) (sym local)

pub key_again : (key : KeyDoc) (names : List (List ℕ)) (created updated status : ℕ) → length key.id ≡ 16
    → key.provider ≡ providers.Local
    → names ≡ key.names
    → key_in (item (codes "_id") (binary 4 key.id)
    (names_field names (item (codes "keyMaterial") (binary 0 key.material) (history created updated status))))
    ≡ Ok key
unfolding key_in standing
key_again key [] created updated status long local same =
    again_by key (uuid_of (binary 4 key.id)) (Some []) (id_again key.id long)
    (ap (λ (ns : List (List ℕ)). Some ns) same) local
key_again key (name ∷ names) created updated status long local same =
    again_by key (uuid_of (binary 4 key.id)) _ (id_again key.id long)
    (names_again 0 (name ∷ names) ∙ ap (λ (ns : List (List ℕ)). Some ns) same) local

-- what is written reads back
pub reads_back : (key : KeyDoc) (created updated status : ℕ) (bytes : List ℕ) → length key.id ≡ 16 → IsWritable key
    → bytes ≡ doc_bytes (key_fields key created updated status) → ReadsBack bytes key
unfolding key_fields
reads_back key created updated status bytes long w is = record {
  fields = key_fields key created updated status;
  read = document_is key created updated status bytes long w.few w.small is;
  says = key_again key key.names created updated status long w.local refl;
}
