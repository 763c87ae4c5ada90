-- MongoDB's manual, Database Commands: `count`, `findAndModify`, `distinct` and `createIndexes`, and of `insert`,
-- `update`, `delete` and `find` what they hold beside filters, updates and stored documents, with what the Go driver
-- 1.8.4 adds to each command (x/mongo/driver/operation.go): the fields that such a command may have, and what each
-- holds
use Rattle.std.specs.Prelude.{ℕ, Bool, true, false, List, [], ◌∷◌, codes, if◌then◌else◌}
use Rattle.encrypt_schema.specs.declared.command.listed.FieldKind.{FieldKind}
use Rattle.encrypt_schema.specs.declared.command.listed.FieldKind.TheVariants as kinds
use Rattle.encrypt_schema.specs.declared.command.listed.Listed.{Listed}
use Rattle.encrypt_schema.specs.declared.command.listed.Listed.TheVariants.{Count, FindAndModify, Distinct}
use Rattle.encrypt_schema.specs.declared.command.listed.Listed.TheVariants.{CreateIndexes, Index}
use Rattle.encrypt_schema.specs.declared.command.listed.OwnDocument.{OwnDocument}
use Rattle.encrypt_schema.specs.declared.command.listed.OwnDocument.TheVariants as owns
use Rattle.encrypt_schema.specs.Language.Names.{named, is_among}

-- one value, in any command: of the database, of a transaction, of a time limit, of the stable API
unfoldable pub is_envelope_word : List ℕ → Bool
is_envelope_word name =
    is_among name
    (codes "$db" ∷ codes "txnNumber" ∷ codes "autocommit" ∷ codes "startTransaction" ∷ codes "maxTimeMS"
    ∷ codes "comment" ∷ codes "apiVersion" ∷ codes "apiStrict" ∷ codes "apiDeprecationErrors" ∷ [])

-- a field that any command may have: beside those, documents of a session, of the cluster's time, of concerns
abbrev pub envelope_kind : List ℕ → FieldKind
envelope_kind name =
    if is_envelope_word name then kinds.Word
    else if named name (codes "lsid") then kinds.Own owns.Session
    else if named name (codes "$clusterTime") then kinds.Own owns.ClusterTime
    else if named name (codes "$readPreference") then kinds.Own owns.ReadPreference
    else if named name (codes "readConcern") then kinds.Own owns.ReadConcern
    else if named name (codes "writeConcern") then kinds.Own owns.WriteConcern
    else kinds.Unlisted

-- a field that a command which reads a collection may have
abbrev pub reading_kind : List ℕ → FieldKind
reading_kind name =
    if named name (codes "hint") then kinds.Hint
    else if named name (codes "collation") then kinds.Own owns.Collation
    else envelope_kind name

-- one value, in an insert
unfoldable pub is_insert_word : List ℕ → Bool
is_insert_word name = is_among name (codes "insert" ∷ codes "ordered" ∷ codes "bypassDocumentValidation" ∷ [])

-- insert: its fields but `documents`
abbrev pub insert_kind : List ℕ → FieldKind
insert_kind name = if is_insert_word name then kinds.Word else envelope_kind name

-- one value, in an update
unfoldable pub is_update_word : List ℕ → Bool
is_update_word name = is_among name (codes "update" ∷ codes "ordered" ∷ codes "bypassDocumentValidation" ∷ [])

-- update: its fields but `updates`
abbrev pub update_kind : List ℕ → FieldKind
update_kind name = if is_update_word name then kinds.Word else envelope_kind name

-- one value, in a delete
unfoldable pub is_delete_word : List ℕ → Bool
is_delete_word name = is_among name (codes "delete" ∷ codes "ordered" ∷ [])

-- delete: its fields but `deletes`
abbrev pub delete_kind : List ℕ → FieldKind
delete_kind name = if is_delete_word name then kinds.Word else envelope_kind name

-- one value, in a find: how many documents are shown, and where
unfoldable pub is_find_word : List ℕ → Bool
is_find_word name =
    is_among name
    (codes "find" ∷ codes "limit" ∷ codes "skip" ∷ codes "batchSize" ∷ codes "singleBatch" ∷ codes "returnKey"
    ∷ codes "showRecordId" ∷ [])

-- one value, in a find: how it looks
unfoldable pub is_find_option : List ℕ → Bool
is_find_option name =
    is_among name
    (codes "tailable" ∷ codes "awaitData" ∷ codes "noCursorTimeout" ∷ codes "oplogReplay" ∷ codes "snapshot"
    ∷ codes "maxScan" ∷ codes "allowPartialResults" ∷ codes "allowDiskUse" ∷ [])

-- find: its fields but `filter` and `projection`
abbrev pub find_kind : List ℕ → FieldKind
find_kind name =
    if named name (codes "sort") then kinds.Keys
    else if is_find_word name then kinds.Word
    else if is_find_option name then kinds.Word
    else reading_kind name

-- a field that any item of updates or deletes may have
abbrev pub item_kind : List ℕ → FieldKind
item_kind name =
    if named name (codes "hint") then kinds.Hint
    else if named name (codes "collation") then kinds.Own owns.Collation
    else kinds.Unlisted

-- one value, in an item of updates
unfoldable pub is_update_item_word : List ℕ → Bool
is_update_item_word name = is_among name (codes "upsert" ∷ codes "multi" ∷ [])

-- an item of updates: its fields but `q` and `u`
abbrev pub update_item_kind : List ℕ → FieldKind
update_item_kind name = if is_update_item_word name then kinds.Word else item_kind name

-- an item of deletes: its fields but `q`
abbrev pub delete_item_kind : List ℕ → FieldKind
delete_item_kind name = if named name (codes "limit") then kinds.Word else item_kind name

-- one value, in a count
unfoldable pub is_count_word : List ℕ → Bool
is_count_word name = is_among name (codes "count" ∷ codes "limit" ∷ codes "skip" ∷ [])

-- count: how many documents a filter finds
abbrev pub count_kind : List ℕ → FieldKind
count_kind name =
    if named name (codes "query") then kinds.Filter
    else if is_count_word name then kinds.Word
    else reading_kind name

-- one value, in a findAndModify
unfoldable pub is_modify_word : List ℕ → Bool
is_modify_word name =
    is_among name
    (codes "findAndModify" ∷ codes "remove" ∷ codes "new" ∷ codes "upsert" ∷ codes "bypassDocumentValidation" ∷ [])

-- the order by which a findAndModify takes its document, and the fields that it shows
unfoldable pub is_modify_keys : List ℕ → Bool
is_modify_keys name = is_among name (codes "sort" ∷ codes "fields" ∷ [])

-- findAndModify: the first document that a filter finds is changed, or removed, and shown
abbrev pub modify_kind : List ℕ → FieldKind
modify_kind name =
    if named name (codes "query") then kinds.Filter
    else if named name (codes "update") then kinds.Update
    else if is_modify_keys name then kinds.Keys
    else if is_modify_word name then kinds.Word
    else reading_kind name

-- distinct: the different values of one field, in the documents that a filter finds
abbrev pub distinct_kind : List ℕ → FieldKind
distinct_kind name =
    if named name (codes "query") then kinds.Filter
    else if named name (codes "key") then kinds.Path
    else if named name (codes "distinct") then kinds.Word
    else reading_kind name

-- one value, in a createIndexes
unfoldable pub is_indexing_word : List ℕ → Bool
is_indexing_word name = is_among name (codes "createIndexes" ∷ codes "commitQuorum" ∷ [])

-- createIndexes
abbrev pub indexing_kind : List ℕ → FieldKind
indexing_kind name =
    if named name (codes "indexes") then kinds.Indexes
    else if is_indexing_word name then kinds.Word
    else envelope_kind name

-- one value, in any index
unfoldable pub is_index_word : List ℕ → Bool
is_index_word name =
    is_among name
    (codes "name" ∷ codes "v" ∷ codes "unique" ∷ codes "sparse" ∷ codes "hidden" ∷ codes "background" ∷ codes "dropDups"
    ∷ codes "expireAfterSeconds" ∷ codes "prepareUnique" ∷ [])

-- one value, in an index on texts or on places
unfoldable pub is_index_option : List ℕ → Bool
is_index_option name =
    is_among name
    (codes "default_language" ∷ codes "language_override" ∷ codes "textIndexVersion" ∷ codes "2dsphereIndexVersion"
    ∷ codes "bits" ∷ codes "min" ∷ codes "max" ∷ codes "bucketSize" ∷ [])

-- the weights of the fields of a text index, and the fields of a wildcard index
unfoldable pub is_index_keys : List ℕ → Bool
is_index_keys name = is_among name (codes "weights" ∷ codes "wildcardProjection" ∷ [])

-- an index
abbrev pub index_kind : List ℕ → FieldKind
index_kind name =
    if named name (codes "key") then kinds.IndexKeys
    else if is_index_keys name then kinds.Keys
    else if is_index_word name then kinds.Word
    else if is_index_option name then kinds.Word
    else if named name (codes "collation") then kinds.Own owns.Collation
    else kinds.Unlisted

-- what a field of a document of which each field is listed holds
abbrev pub field_kind : Listed → List ℕ → FieldKind
field_kind Count name = count_kind name
field_kind FindAndModify name = modify_kind name
field_kind Distinct name = distinct_kind name
field_kind CreateIndexes name = indexing_kind name
field_kind Index name = index_kind name

-- such a document that is a command
abbrev pub is_command : Listed → Bool
is_command Index = false
is_command _ = true

-- the names under which a document of MongoDB's own names holds one value
abbrev pub own_names : OwnDocument → List (List ℕ)
own_names owns.Session = codes "id" ∷ codes "uid" ∷ []
own_names owns.ClusterTime = codes "clusterTime" ∷ []
own_names owns.ReadPreference = codes "mode" ∷ codes "maxStalenessSeconds" ∷ []
own_names owns.ReadConcern =
    codes "level" ∷ codes "afterClusterTime" ∷ codes "atClusterTime" ∷ codes "provenance" ∷ []
own_names owns.WriteConcern =
    codes "w" ∷ codes "wtimeout" ∷ codes "wtimeoutMS" ∷ codes "j" ∷ codes "journal" ∷ codes "fsync"
    ∷ codes "provenance" ∷ []
own_names owns.Collation =
    codes "locale" ∷ codes "caseLevel" ∷ codes "caseFirst" ∷ codes "strength" ∷ codes "numericOrdering"
    ∷ codes "alternate" ∷ codes "maxVariable" ∷ codes "normalization" ∷ codes "backwards" ∷ []

-- such a name
unfoldable pub is_own : OwnDocument → List ℕ → Bool
is_own own name = is_among name (own_names own)

-- those under which it holds a document or an array, or one value
abbrev pub own_branches : OwnDocument → List (List ℕ)
own_branches owns.ClusterTime = codes "signature" ∷ []
own_branches owns.ReadPreference = codes "tags" ∷ codes "hedge" ∷ []
own_branches _ = []

-- such a name
unfoldable pub is_own_branch : OwnDocument → List ℕ → Bool
is_own_branch own name = is_among name (own_branches own)

-- what the keys of an index may say of a field, beside a number or a bool
unfoldable pub is_index_type : List ℕ → Bool
is_index_type text =
    is_among text (codes "text" ∷ codes "hashed" ∷ codes "2d" ∷ codes "2dsphere" ∷ codes "geoHaystack" ∷ [])
