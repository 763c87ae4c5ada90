-- MongoDB Client Side Encryption: a command whose keys are there, and which can be sealed
use Rattle.std.specs.Prelude.{◌≡◌, ◌+◌, ◌<◌, ◌≤◌, ℕ, List, length, Option, Some, None}
use Rattle.bson_codec.specs.Borrowed.{At}
use Rattle.bson_tree.specs.Spelling.{doc_bytes}
use Rattle.encrypt_schema.specs.Commands.Targets.{rows_in}
use Rattle.encrypt_schema.specs.Commands.Visits.{roles}
use Rattle.encrypt_schema.specs.Language.Collection.{Collection}
use Rattle.doc_rewrite.specs.Keys.{Table, key_in}
use Rattle.doc_rewrite.specs.Plans.{Planned, StandsFor}
use Rattle.doc_rewrite.specs.Sealing.{HasKeys}
use Rattle.doc_rewrite.specs.Sites.{Site, grown, sites_of}
use Rattle.fle_outside.specs.Limits.{output_limit}
use Rattle.context_machine.specs.Rings.{Finder, first_keyless, needs_of}
use Rattle.context_machine.specs.States.{Finished, Readied, Waits}
use Rattle.context_machine.specs.declared.opened_keys.KeysStop.{KeysStop}
use Rattle.context_machine.specs.declared.opened_keys.KeysStop.TheVariants as stops

-- the values of a command that are to be sealed, under the rules of its info
abbrev pub values_of : Option Collection → At → List Site
values_of info command = sites_of (rows_in info) command (roles (rows_in info) command.start command.tree)

-- how many bytes the sealed command has
abbrev pub sealed_size : Option Collection → At → ℕ
sealed_size info command = length (doc_bytes command.tree) + grown (values_of info command)

-- a plan of a command: it stands for it, and has its values
pub record IsPlanOf (info : Option Collection) (command : At) (plan : Planned) : Type 0 where
  pub sites : plan.sites ≡ values_of info command
  pub size : plan.size ≡ sealed_size info command
  pub stands : StandsFor plan command
  pub most : plan.size ≤ output_limit

-- what holds of a command that is ready: the table has the key of each of its values, and so many bytes are there as it
-- is sealed to
pub record IsReady (w : Waits) (table : Table) (out : List ℕ) : Type 0 where
  pub keyed : HasKeys (key_in table) (values_of w.info w.command)
  pub room : length out ≡ sealed_size w.info w.command
  pub most : sealed_size w.info w.command ≤ output_limit

-- the first value whose key isn't to be had; or each has its key, and the sealed command would be too long; want of
-- memory may come at any time
abbrev pub StopsWaiting : Finder → Waits → KeysStop → Type 0
StopsWaiting keys w (stops.Refused reason at) =
    first_keyless keys (needs_of (rows_in w.info) w.command) ≡ Some (record { reason = reason; at = at })
StopsWaiting keys w stops.TooLong =
    (first_keyless keys (needs_of (rows_in w.info) w.command) ≡ None) × (output_limit < sealed_size w.info w.command)
StopsWaiting keys w stops.Memory = Unit {0}

-- the sealed command would be too long; want of memory may come at any time
abbrev pub IsTooLong : ℕ → KeysStop → Type 0
IsTooLong size (stops.Refused reason at) = ⊥
IsTooLong size stops.TooLong = output_limit < size
IsTooLong size stops.Memory = Unit {0}

-- the command that waited, once it is ready: the same with this table of data keys
abbrev pub readied : Waits → Table → Readied
readied w table = record { command = w.command; info = w.info; kept = w.kept; table = table }

-- the command that was ready, once it is sealed: the same with these bytes
abbrev pub finished : Readied → List ℕ → Finished
finished r bytes = record { command = r.command; info = r.info; kept = r.kept; table = r.table; bytes = bytes }
