-- MongoDB's manual, Database Commands, of which libmongocrypt 1.5.2 lets these by (mongocrypt-ctx-encrypt.c): commands
-- that hold no value of a collection's fields
use Rattle.std.specs.Prelude.{ℕ, Bool, List, [], ◌∷◌, codes, Option, Some, None, is_some}
use Rattle.std.specs.Prelude.{if◌then◌else◌}
use Rattle.bson_tree.specs.Tree.{Items, no_items, item}
use Rattle.encrypt_schema.specs.Language.Names.{is_among}
use Rattle.clear_commands.specs.declared.command.ClearCommand.{ClearCommand}
use Rattle.clear_commands.specs.declared.command.ClearCommand.TheVariants as commands

-- the names of each; commands whose fields are the same stand together
abbrev pub clear_names : ClearCommand → List (List ℕ)
clear_names commands.Plain =
    codes "ping" ∷ codes "buildInfo" ∷ codes "startSession" ∷ codes "drop" ∷ codes "dropDatabase" ∷ codes "isMaster"
    ∷ codes "ismaster" ∷ codes "getnonce" ∷ codes "logout" ∷ codes "getCmdLineOpts" ∷ codes "getLog" ∷ []
clear_names commands.Sessions =
    codes "endSessions" ∷ codes "refreshSessions" ∷ codes "killSessions" ∷ codes "killAllSessions"
    ∷ codes "killAllSessionsByPattern" ∷ []
clear_names commands.Transaction = codes "abortTransaction" ∷ codes "commitTransaction" ∷ []
clear_names commands.GetMore = codes "getMore" ∷ []
clear_names commands.KillCursors = codes "killCursors" ∷ []
clear_names commands.ListCollections = codes "listCollections" ∷ []
clear_names commands.ListDatabases = codes "listDatabases" ∷ []
clear_names commands.ListIndexes = codes "listIndexes" ∷ []
clear_names commands.DropIndexes = codes "dropIndexes" ∷ []
clear_names commands.RenameCollection = codes "renameCollection" ∷ []
clear_names commands.DbStats = codes "dbStats" ∷ []
clear_names commands.CollStats = codes "collStats" ∷ []
clear_names commands.Authenticate = codes "authenticate" ∷ []
clear_names commands.SaslContinue = codes "saslContinue" ∷ []
clear_names commands.SaslStart = codes "saslStart" ∷ []
clear_names commands.Hello = codes "hello" ∷ []

-- all of them
abbrev pub clear_commands : List ClearCommand
clear_commands =
    commands.Plain ∷ commands.Sessions ∷ commands.Transaction ∷ commands.GetMore ∷ commands.KillCursors
    ∷ commands.ListCollections ∷ commands.ListDatabases ∷ commands.ListIndexes ∷ commands.DropIndexes
    ∷ commands.RenameCollection ∷ commands.DbStats ∷ commands.CollStats ∷ commands.Authenticate
    ∷ commands.SaslContinue ∷ commands.SaslStart ∷ commands.Hello ∷ []

-- such a name
unfoldable pub is_name_of : ClearCommand → List ℕ → Bool
is_name_of command name = is_among name (clear_names command)

-- the first of some that has this name
abbrev pub command_among : List ClearCommand → List ℕ → Option ClearCommand
command_among [] name = None
command_among (command ∷ commands) name =
    if is_name_of command name then Some command else command_among commands name

-- the clear command of this name
unfoldable pub clear_command : List ℕ → Option ClearCommand
clear_command name = command_among clear_commands name

-- the clear command that a document is, by the name of its first field
abbrev pub command_in : Items → Option ClearCommand
command_in no_items = None
command_in (item name t is) = clear_command name

-- a document is a clear command
abbrev pub is_clear : Items → Bool
is_clear c = is_some (command_in c)
