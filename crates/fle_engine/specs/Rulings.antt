-- What a command or a document comes to: an output, a refusal, or an output above the limit.
use Rattle.std.specs.Prelude.{◌≡◌, ℕ, nat_lt, Option, Some, None, List, length, bytes_eq, if◌then◌else◌}
pub use Rattle.doc_rewrite.specs.Sites.{at_front}
use Rattle.bson_tree.specs.Tree.{Items}
use Rattle.context_machine.specs.Beginning.{first_value}
use Rattle.context_machine.specs.declared.opened_keys.KeysStop.{KeysStop}
use Rattle.context_machine.specs.declared.opened_keys.KeysStop.TheVariants as stops
use Rattle.encrypt_schema.specs.Language.Collection.{Collection}
use Rattle.encrypt_schema.specs.Language.Row.{Row}
use Rattle.encrypt_schema.specs.Commands.Offences.{is_view}
use Rattle.encrypt_schema.specs.Commands.Targets.{rows_in, rows_of, verdict}
use Rattle.encrypt_schema.specs.Commands.Visits.{Refusal, content_verdict}
use Rattle.encrypt_schema.specs.declared.command.marks.MarkFault.{MarkFault}
use Rattle.encrypt_schema.specs.declared.command.marks.MarkFault.TheVariants as faults
use Rattle.encrypt_schema.specs.declared.command.reason.Reason.TheVariants as reasons
use Rattle.fle_outside.specs.Blocks.{Block}
use Rattle.fle_outside.specs.Limits.{output_limit}
use Rattle.fle_stream.specs.Plan.{Plan}

-- what one document comes to: an output, whose bytes are a function of the random blocks that it draws; a refusal, with
-- its reason and its offset; or an output above the limit
pub data Ruling : Type 0 where
  makes : Plan → Ruling
  refused : Refusal → Ruling
  too_long : Ruling

-- an output that draws no blocks
abbrev pub plain_plan : List ℕ → Plan
plain_plan bytes = record { draws = 0; size = length bytes; bytes = λ (_ : List Block). bytes }

-- an output of at most 48,000,000 bytes is made
abbrev pub sized_plan : Plan → Ruling
sized_plan plan = if nat_lt output_limit plan.size then too_long else makes plan

-- a refusal, or what comes else
abbrev pub by_refusal : Option Refusal → Ruling → Ruling
by_refusal (Some r) v = refused r
by_refusal None v = v

-- what a command of this database comes to under these infos, by what becomes of one that isn't refused under its
-- rules
abbrev pub ruling_with : (List Row → Items → Ruling) → List Collection → List ℕ → Items → Ruling
ruling_with accepted infos db c = by_refusal (verdict db infos 0 c) (accepted (rows_of infos c) c)

-- the same by its contents under these rules, where its fields aren't refused
abbrev pub contents_with : (List Row → Items → Ruling) → List Row → Items → Ruling
contents_with accepted rows c = by_refusal (content_verdict rows 0 c) (accepted rows c)

-- the same for a marked command of this collection, where its fields aren't refused: a view is refused at the first
abbrev pub into_with : (List Row → Items → Ruling) → Option Collection → Items → Ruling
into_with accepted info c =
    if is_view info then refused (record { reason = reasons.View; at = first_value 0 c })
    else contents_with accepted (rows_in info) c

-- a command that is sent to another database than an engine's own is refused
abbrev pub wrong_db : List ℕ → List ℕ → Option Refusal
wrong_db own db = if bytes_eq db own then None else Some (record { reason = reasons.WrongDb; at = 0 })

-- what a command comes to that is sent to this database, under an engine of its own one
abbrev pub sent_ruling : List ℕ → List ℕ → Ruling → Ruling
sent_ruling own db v = by_refusal (wrong_db own db) v

-- a fault of marking says that a command comes to this; want of memory may come at any time
abbrev pub Tells : MarkFault → Ruling → Type 0
Tells (faults.Refused reason at) v = v ≡ refused (record { reason = reason; at = at })
Tells faults.Memory v = Unit {0}

-- keys that don't do say that a document comes to this; want of memory may come at any time
abbrev pub StopsAs : KeysStop → Ruling → Type 0
StopsAs (stops.Refused reason at) v = v ≡ refused (record { reason = reason; at = at })
StopsAs stops.TooLong v = v ≡ too_long
StopsAs stops.Memory v = Unit {0}
