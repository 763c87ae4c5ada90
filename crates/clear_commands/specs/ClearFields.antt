-- MongoDB's manual, Database Commands, and the Go driver 1.8.4 (x/mongo/driver/operation, x/mongo/driver/operation.go):
-- the fields that each clear command may have, and what each holds
use Rattle.std.specs.Prelude.{ℕ, Bool, not, ◌&&◌, ◌||◌, List, [], ◌∷◌, codes, if◌then◌else◌}
use Rattle.encrypt_schema.specs.declared.command.listed.FieldKind.{FieldKind}
use Rattle.encrypt_schema.specs.declared.command.listed.FieldKind.TheVariants as listed
use Rattle.encrypt_schema.specs.Commands.ListedFields.{envelope_kind}
use Rattle.encrypt_schema.specs.Commands.Offences.{is_index_key, is_own_field}
use Rattle.encrypt_schema.specs.Commands.Stations.{Entry, is_array, is_document}
use Rattle.encrypt_schema.specs.Language.Names.{named, is_among}
use Rattle.clear_commands.specs.declared.command.ClearCommand.{ClearCommand}
use Rattle.clear_commands.specs.declared.command.ClearCommand.TheVariants as commands
use Rattle.clear_commands.specs.declared.kind.ClearKind.{ClearKind}
use Rattle.clear_commands.specs.declared.kind.ClearKind.TheVariants as kinds
use Rattle.clear_commands.specs.declared.kind.ClearDocument.{ClearDocument}
use Rattle.clear_commands.specs.declared.kind.ClearDocument.TheVariants as documents

-- names of fields that hold the same
pub record Line : Type 0 where
  pub kind : ClearKind
  pub names : List (List ℕ)

-- one value each
abbrev pub words : List (List ℕ) → Line
words names = record { kind = kinds.Word; names = names }

-- anything, each
abbrev pub anything : List (List ℕ) → Line
anything names = record { kind = kinds.Anything; names = names }

-- a list
abbrev pub list : List ℕ → Line
list name = record { kind = kinds.Flat; names = name ∷ [] }

-- the name of an index, or its keys
abbrev pub hint : List ℕ → Line
hint name = record { kind = kinds.Hint; names = name ∷ [] }

-- a document of MongoDB's own names
abbrev pub own : ClearDocument → List ℕ → Line
own document name = record { kind = kinds.Own document; names = name ∷ [] }

-- the table: what a command has beside its name and the envelope
abbrev pub own_fields : ClearCommand → List Line
own_fields commands.Plain = []
own_fields commands.Sessions = []
own_fields commands.Transaction = anything (codes "recoveryToken" ∷ []) ∷ []
own_fields commands.GetMore = words (codes "collection" ∷ codes "batchSize" ∷ codes "term" ∷ []) ∷ []
own_fields commands.KillCursors = list (codes "cursors") ∷ []
own_fields commands.ListCollections =
    anything (codes "filter" ∷ []) ∷ words (codes "nameOnly" ∷ codes "authorizedCollections" ∷ [])
    ∷ own documents.Cursor (codes "cursor") ∷ []
own_fields commands.ListDatabases =
    anything (codes "filter" ∷ []) ∷ words (codes "nameOnly" ∷ codes "authorizedDatabases" ∷ []) ∷ []
own_fields commands.ListIndexes = own documents.Cursor (codes "cursor") ∷ []
own_fields commands.DropIndexes = hint (codes "index") ∷ []
own_fields commands.RenameCollection = words (codes "to" ∷ codes "dropTarget" ∷ []) ∷ []
own_fields commands.DbStats = words (codes "scale" ∷ codes "freeStorage" ∷ []) ∷ []
own_fields commands.CollStats = words (codes "scale" ∷ []) ∷ []
own_fields commands.Authenticate = words (codes "mechanism" ∷ codes "user" ∷ []) ∷ []
own_fields commands.SaslContinue = words (codes "conversationId" ∷ codes "payload" ∷ []) ∷ []
own_fields commands.SaslStart =
    words (codes "mechanism" ∷ codes "payload" ∷ codes "autoAuthorize" ∷ [])
    ∷ own documents.SaslOptions (codes "options") ∷ []
own_fields commands.Hello =
    anything (codes "client" ∷ codes "speculativeAuthenticate" ∷ []) ∷ list (codes "compression")
    ∷ own documents.Topology (codes "topologyVersion")
    ∷ words (codes "saslSupportedMechs" ∷ codes "loadBalanced" ∷ codes "helloOk" ∷ codes "maxAwaitTimeMS" ∷ []) ∷ []

-- what a command holds in its first field, under its name
abbrev pub first_kind : ClearCommand → ClearKind
first_kind commands.Sessions = kinds.Flat
first_kind _ = kinds.Word

-- the envelope: the fields that any command may have, as encrypt_schema lists them
abbrev pub of_envelope : FieldKind → ClearKind
of_envelope listed.Word = kinds.Word
of_envelope (listed.Own own) = kinds.Own (documents.Envelope own)
of_envelope _ = kinds.Unlisted

-- what a field of this name holds by such lines; another kind where none has it
abbrev pub kind_by : List Line → List ℕ → ClearKind → ClearKind
kind_by [] name other = other
kind_by (line ∷ lines) name other = if is_among name line.names then line.kind else kind_by lines name other

-- what a field of this name holds in a command, its first field apart
unfoldable pub field_kind : ClearCommand → List ℕ → ClearKind
field_kind command name = kind_by (own_fields command) name (of_envelope (envelope_kind name))

-- what a field holds in a command that is called `own`
abbrev pub clear_kind : ClearCommand → List ℕ → List ℕ → ClearKind
clear_kind command own name = if named name own then first_kind command else field_kind command name

-- an element has one of these names, and is no document and no array
abbrev pub is_word_of : List (List ℕ) → Entry → Bool
is_word_of names e = is_among e.name names && not (is_document e || is_array e)

-- an element may stand in such a document
unfoldable pub may_stand : ClearDocument → Entry → Bool
may_stand (documents.Envelope own) e = is_own_field own e
may_stand documents.Cursor e = is_word_of (codes "batchSize" ∷ []) e
may_stand documents.SaslOptions e = is_word_of (codes "skipEmptyExchange" ∷ []) e
may_stand documents.Topology e = is_word_of (codes "processId" ∷ codes "counter" ∷ []) e
may_stand documents.IndexKeys e = is_index_key e
