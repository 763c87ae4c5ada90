-- MongoDB Client Side Encryption, libmongocrypt's states: what is known in each
use Rattle.std.specs.Prelude.{ℕ, List, Option}
use Rattle.bson_codec.specs.Borrowed.{At}
use Rattle.data_key.specs.declared.key_doc.KeyDoc.{KeyDoc}
use Rattle.encrypt_schema.specs.Language.Collection.{Collection}
use Rattle.doc_rewrite.specs.Keys.{Table}

-- a command that is to be sealed, and the database that it is sent to
pub record Started : Type 0 where
  pub db : List ℕ
  pub command : At

-- a command with protected values perhaps, and the info of its collection, once one is kept
pub record Asks : Type 0 where
  pub command : At
  pub info : Option Collection

-- a command whose protected values are known, and the keys kept so far
pub record Waits : Type 0 where
  pub command : At
  pub info : Option Collection
  pub kept : List KeyDoc

-- the same with the data key of each value that needs one
pub record Readied : Type 0 where
  pub command : At
  pub info : Option Collection
  pub kept : List KeyDoc
  pub table : Table

-- the same with the sealed command's bytes
pub record Finished : Type 0 where
  pub command : At
  pub info : Option Collection
  pub kept : List KeyDoc
  pub table : Table
  pub bytes : List ℕ

-- a document whose payloads are known, and the keys kept so far
pub record Opens : Type 0 where
  pub document : At
  pub kept : List KeyDoc

-- the same with the data key of each payload
pub record OpensWith : Type 0 where
  pub document : At
  pub kept : List KeyDoc
  pub table : Table

-- the same with the opened document's bytes
pub record OpenedDone : Type 0 where
  pub document : At
  pub kept : List KeyDoc
  pub table : Table
  pub bytes : List ℕ
