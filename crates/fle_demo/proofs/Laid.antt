-- The demo's documents have spellings.
use Rattle.std.proofs.Common.{◌≡◌, ◌^◌, ℕ, ◌<◌, ◌≤◌, List, [], ◌∷◌, length, refl}
use Rattle.std.proofs.Common.{arith, subst, sym}
use Rattle.std.specs.Prelude.{codes}
use Rattle.aes_block.specs.Steps.{cell, state}
use Rattle.aes_block.proofs.Entries.{sixteen}
use Rattle.bson_tree.specs.Tree.{Items, node}
use Rattle.bson_tree.specs.Spelling.{doc_bytes}
use Rattle.bson_codec.specs.Layout.{IsName, IsValue, AreElements, IsItems, IsDoc}
use Rattle.bson_codec.specs.Table.{layout_of}
use Rattle.bson_codec.proofs.PlainNames.{named}
use Rattle.data_key.specs.Written.{binary, int, text}
use Rattle.fle_demo.specs.Commands.{command, deterministic, info, key_ids, person, random}
use Rattle.fle_demo.specs.Commands.{schema}
use Rattle.fle_demo.specs.Commands.{salary_of, single, ssn_of, ssn_text}
use Rattle.fle_demo.specs.Generator.{after_two, next_output}
use Rattle.fle_demo.proofs.Bytes.{command_size}

text_laid : (D : Items → Type 0) (t : List ℕ) → length t ≤ 1000 → IsValue D (text t)
unfolding layout_of
text_laid D t short = record { text = t; fits = omega (arith, short); parts = refl }

id_laid : (D : Items → Type 0) (id : List ℕ) → length id ≡ 16 → IsValue D (binary 4 id)
unfolding layout_of
id_laid D id long = record { subtype = 4; contents = id; fits = omega (arith, long); parts = refl }

int_laid : (D : Items → Type 0) (n : ℕ) → IsValue D (int n)
unfolding layout_of
int_laid D n = refl

document_laid : (D : Items → Type 0) (is : Items) → D is → length (doc_bytes is) < 2 ^ 31 → IsValue D (node 3 is)
unfolding layout_of
document_laid D is inside fits = record { inside = inside; fits = fits }

array_laid : (D : Items → Type 0) (is : Items) → D is → length (doc_bytes is) < 2 ^ 31 → IsValue D (node 4 is)
unfolding layout_of
array_laid D is inside fits = record { inside = inside; fits = fits }

-- a person of 45 bytes, in an array of 53
person_laid : (D : Items → Type 0) (s y i : ℕ) → IsValue (AreElements D) (person (text (ssn_text s)) (int y) (int i))
person_laid D s y i = document_laid (AreElements D) _ (
  named (codes "ssn") refl,
  text_laid D (ssn_text s) (omega arith),
  (
    named (codes "salary") refl,
    int_laid D y,
    (named (codes "n") refl, int_laid D i, tt),
  ),
) (omega arith)

documents_laid : (D : Items → Type 0) (s y i : ℕ)
    → IsValue (AreElements (AreElements D)) (single 4 (codes "0") (person (text (ssn_text s)) (int y) (int i)))
documents_laid D s y i =
    array_laid (AreElements (AreElements D)) _ (named (codes "0") refl, person_laid D s y i, tt) (omega arith)

pub command_laid : (db : List ℕ) (i x : ℕ) → length db ≤ 63 → IsDoc (command db i x)
unfolding command
command_laid db i x short = record {
  inside = (
    named (codes "insert") refl,
    text_laid (IsItems 99) (codes "demo") (omega arith),
    (
      named (codes "documents") refl,
      documents_laid (IsItems 97) (ssn_of (next_output x)) (salary_of (after_two x)) i,
      (named (codes "$db") refl, text_laid (IsItems 99) db (omega (arith, short)), tt),
    ),
  );
  fits = omega (arith, short, command_size db i x);
}

-- the info, with an id of 16 bytes
ids_laid : (D : Items → Type 0) (f : ℕ → ℕ → ℕ) → IsValue (AreElements D) (key_ids (state f))
ids_laid D f =
    array_laid (AreElements D) _ (named (codes "0") refl, id_laid D (state f) refl, tt) (omega arith)

deterministic_laid : (D : Items → Type 0) (f : ℕ → ℕ → ℕ)
    → IsValue (AreElements (AreElements (AreElements D))) (single 3 (codes "encrypt") (deterministic (state f)))
deterministic_laid D f =
    document_laid (AreElements (AreElements (AreElements D))) _ (
      named (codes "encrypt") refl,
      document_laid (AreElements (AreElements D)) _ (
        named (codes "keyId") refl,
        ids_laid D f,
        (
          named (codes "algorithm") refl,
          text_laid (AreElements D) (codes "AEAD_AES_256_CBC_HMAC_SHA_512-Deterministic") (omega arith),
          (named (codes "bsonType") refl, text_laid (AreElements D) (codes "string") (omega arith), tt),
        ),
      ) (omega arith),
      tt,
    ) (omega arith)

random_laid : (D : Items → Type 0) (f : ℕ → ℕ → ℕ)
    → IsValue (AreElements (AreElements (AreElements D))) (single 3 (codes "encrypt") (random (state f)))
random_laid D f =
    document_laid (AreElements (AreElements (AreElements D))) _ (
      named (codes "encrypt") refl,
      document_laid (AreElements (AreElements D)) _ (
        named (codes "keyId") refl,
        ids_laid D f,
        (
          named (codes "algorithm") refl,
          text_laid (AreElements D) (codes "AEAD_AES_256_CBC_HMAC_SHA_512-Random") (omega arith),
          tt,
        ),
      ) (omega arith),
      tt,
    ) (omega arith)

schema_laid : (f : ℕ → ℕ → ℕ) → IsValue (IsItems 97) (node 3 (schema (state f)))
schema_laid f =
    document_laid (IsItems 97) _ (
      named (codes "bsonType") refl,
      text_laid (IsItems 96) (codes "object") (omega arith),
      (
        named (codes "properties") refl,
        document_laid (IsItems 96) _ (
          named (codes "ssn") refl,
          deterministic_laid (IsItems 92) f,
          (named (codes "salary") refl, random_laid (IsItems 92) f, tt),
        ) (omega arith),
        tt,
      ),
    ) (omega arith)

info_state_laid : (f : ℕ → ℕ → ℕ) → IsDoc (info (state f))
unfolding info
info_state_laid f = record {
  inside = (
    named (codes "name") refl,
    text_laid (IsItems 99) (codes "demo") (omega arith),
    (
      named (codes "type") refl,
      text_laid (IsItems 99) (codes "collection") (omega arith),
      (
        named (codes "options") refl,
        document_laid (IsItems 99) _ (
          named (codes "validator") refl,
          document_laid (IsItems 98) _ (named (codes "$jsonSchema") refl, schema_laid f, tt) (omega arith),
          tt,
        ) (omega arith),
        tt,
      ),
    ),
  );
  fits = omega arith;
}

pub info_laid : (id : List ℕ) → length id ≡ 16 → IsDoc (info id)
info_laid id long = subst (λ (x : List ℕ). IsDoc (info x)) (sym (sixteen id long)) (info_state_laid (cell id))
