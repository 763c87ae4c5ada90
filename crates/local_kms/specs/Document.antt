-- MongoDB Client Side Encryption, "Key vault": the document of a new data key
use Rattle.std.specs.Prelude.{ℕ, List, length, replicate}
use Rattle.bson_tree.specs.Spelling.{doc_bytes}
use Rattle.data_key.specs.Written.{key_fields}
use Rattle.data_key.specs.declared.key_doc.KeyDoc.{KeyDoc}
use Rattle.data_key.specs.declared.key_doc.Provider.TheVariants as providers
use Rattle.fle_outside.specs.Blocks.{Block}
use Rattle.local_kms.specs.Made.{key_of_blocks}

-- the document of the key that eight blocks make: made and changed now, its status 0
abbrev pub new_document : List ℕ → List (List ℕ) → ℕ → List Block → List ℕ
new_document master names now blocks = doc_bytes (key_fields (key_of_blocks master names blocks) now now 0)

-- a key of zeros with these names, whose document has as many bytes
abbrev pub blank_key : List (List ℕ) → KeyDoc
blank_key names = record { id = replicate 16 0; names = names; material = replicate 160 0; provider = providers.Local }

-- how many bytes the key document of these names has, whatever key is in it
abbrev pub document_size : List (List ℕ) → ℕ → ℕ
document_size names now = length (doc_bytes (key_fields (blank_key names) now now 0))
