-- Marking a command: the reply of a marking service.
use Rattle.std.specs.Prelude.{◌≡◌, ℕ, List}
use Rattle.bson_tree.specs.Tree.{Items}
use Rattle.command_marker.specs.Reply.{reply_to}
use Rattle.encrypt_schema.specs.Language.Collection.{Collection}
use Rattle.encrypt_schema.specs.Language.Row.{Row}
use Rattle.context_machine.specs.declared.replying.ReplyStop.{ReplyStop}
use Rattle.context_machine.specs.declared.replying.ReplyStop.TheVariants as stops
use Rattle.fle_engine.specs.Rulings.{Ruling, plain_plan, refused, ruling_with, sized_plan, too_long}

-- a reply of at most 48,000,000 bytes is made
abbrev pub sized : List ℕ → Ruling
sized bytes = sized_plan (plain_plan bytes)

-- what becomes of a command under these rules that isn't refused
abbrev pub replies : List Row → Items → Ruling
replies rows c = sized (reply_to rows c)

-- what a command of this database comes to under these infos
unfoldable pub mark_ruling : List Collection → List ℕ → Items → Ruling
mark_ruling infos db c = ruling_with replies infos db c

-- no reply says that a command comes to this; want of memory may come at any time
abbrev pub StopsReplyAs : ReplyStop → Ruling → Type 0
StopsReplyAs (stops.Refused reason at) v = v ≡ refused (record { reason = reason; at = at })
StopsReplyAs stops.TooLong v = v ≡ too_long
StopsReplyAs stops.Memory v = Unit {0}
