-- `demo DB N`: what is known of a command before it's sealed, so that no state refuses it.
use Rattle.std.specs.Prelude.{◌≡◌, ◌≤◌, ℕ, Bool, true, false, List, [], None, Some, if◌then◌else◌}
use Rattle.bson_codec.specs.Borrowed.{At}
use Rattle.command_marker.specs.Commands.{collection_in, passes}
use Rattle.context_machine.specs.Ready.{sealed_size}
use Rattle.context_machine.specs.Rings.{AreOpened, by_ids, first_keyless, needs_of}
use Rattle.context_machine.specs.States.{Readied, Waits}
use Rattle.context_machine.specs.declared.opened_keys.KeysStop.{KeysStop}
use Rattle.context_machine.specs.declared.opened_keys.KeysStop.TheVariants as stops
use Rattle.doc_rewrite.specs.Opened.{Keyring}
use Rattle.encrypt_schema.specs.Commands.Targets.{rows_in}
use Rattle.encrypt_schema.specs.Commands.Visits.{content_verdict, target_verdict}
use Rattle.encrypt_schema.specs.Language.Collection.{Collection}
use Rattle.encrypt_schema.specs.Language.Names.{named}

-- a marked command of this database into this collection, of which nothing is refused
pub record IsAccepted (db : List ℕ) (info : Collection) (command : At) : Type 0 where
  pub target : target_verdict db command.start command.tree ≡ None
  pub unpassed : passes command.tree ≡ false
  pub into : named info.name (collection_in command.tree) ≡ true
  pub viewless : info.view ≡ false
  pub content : content_verdict (rows_in (Some info)) command.start command.tree ≡ None

-- the keys of its values are to be had by their ids, and it won't be too long
pub record IsKeyed (keys : Keyring) (info : Collection) (command : At) : Type 0 where
  pub had : first_keyless (by_ids keys) (needs_of (rows_in (Some info)) command) ≡ None
  pub short : sealed_size (Some info) command ≤ 48000000

-- a command that waits for its keys, and none is kept
abbrev pub waiting : Collection → At → Waits
waiting info command = record { command = command; info = Some info; kept = [] }

-- it is ready, with its keys
pub record IsReadyUnder (keys : Keyring) (info : Collection) (command : At) (r : Readied) : Type 0 where
  pub command_is : r.command ≡ command
  pub info_is : r.info ≡ Some info
  pub opened : AreOpened (by_ids keys) (needs_of (rows_in (Some info)) command) r.table

-- only memory was wanting
abbrev pub IsWant : KeysStop → Type 0
IsWant stops.Memory = Unit {0}
IsWant stop = ⊥

-- a test as a number
abbrev pub bit : Bool → ℕ
bit same = if same then 1 else 0
