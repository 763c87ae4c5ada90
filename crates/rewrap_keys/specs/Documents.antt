-- BSON 1.1: the documents of a file, one after another
use Rattle.std.specs.Prelude.{ℕ, zero, suc, List, [], ◌∷◌, ◌++◌, length, drop, Result, Ok, Err}
use Rattle.bson_tree.specs.Tree.{Items}
use Rattle.bson_tree.specs.Spelling.{doc_bytes}
use Rattle.bson_codec.specs.declared.fault.BsonFault.{BsonFault}
use Rattle.bson_codec.specs.Reading.{front_document}

-- the bytes of documents, one after another
abbrev pub spelled : List Items → List ℕ
spelled [] = []
spelled (d ∷ ds) = doc_bytes d ++ spelled ds

-- the first document, then those that are read behind it
abbrev pub and_others : (List ℕ → List Items) → List ℕ → Result (Items × ℕ) BsonFault → List Items
and_others read bytes (Err fault) = []
and_others read bytes (Ok first) = first.0 ∷ read (drop first.1 bytes)

-- the documents at the front of these bytes; each takes a byte at least, so n documents suffice for n bytes
abbrev pub documents_from : ℕ → List ℕ → List Items
documents_from n [] = []
documents_from zero (byte ∷ bytes) = []
documents_from (suc n) (byte ∷ bytes) = and_others (documents_from n) (byte ∷ bytes) (front_document (byte ∷ bytes))

-- the documents of a file
unfoldable pub documents : List ℕ → List Items
documents bytes = documents_from (length bytes) bytes
