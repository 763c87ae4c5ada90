-- MongoDB Client Side Encryption: the reply of a marking service to a command
use Rattle.std.specs.Prelude.{◌≡◌, ◌<◌, ◌≤◌, ℕ, length, None, Some, Result, Ok, Err, Vec}
use Rattle.std.specs.Global.{Global}
use Rattle.command_marker.specs.Reply.{reply_limit, reply_to}
use Rattle.encrypt_schema.specs.Commands.More.{contents_verdict}
use Rattle.encrypt_schema.specs.Commands.Targets.{rows_in}
use Rattle.encrypt_schema.specs.Commands.Visits.{content_verdict}
use Rattle.context_machine.specs.States.{Asks}
use Rattle.context_machine.specs.declared.replying.ReplyStop.{ReplyStop}
use Rattle.context_machine.specs.declared.replying.ReplyStop.TheVariants as stops

-- nothing of the command's contents is refused, and these are the bytes of the reply, or it has too many; or its
-- contents are refused; want of memory may come at any time
abbrev pub RepliesTo : Asks → Result (Vec ℕ Global) ReplyStop → Type 0
RepliesTo a (Ok reply) =
    (content_verdict (rows_in a.info) a.command.start a.command.tree ≡ None)
    × (reply.items ≡ reply_to (rows_in a.info) a.command.tree)
    × (length (reply_to (rows_in a.info) a.command.tree) ≤ reply_limit)
RepliesTo a (Err (stops.Refused reason at)) =
    content_verdict (rows_in a.info) a.command.start a.command.tree ≡ Some (record { reason = reason; at = at })
RepliesTo a (Err stops.TooLong) =
    (content_verdict (rows_in a.info) a.command.start a.command.tree ≡ None)
    × (reply_limit < length (reply_to (rows_in a.info) a.command.tree))
RepliesTo a (Err stops.Memory) = Unit {0}

-- the same to a command of which a library refuses nothing beyond its contents either
abbrev pub RepliesMore : Asks → Result (Vec ℕ Global) ReplyStop → Type 0
RepliesMore a (Ok reply) =
    (contents_verdict (rows_in a.info) a.command.start a.command.tree ≡ None)
    × (reply.items ≡ reply_to (rows_in a.info) a.command.tree)
    × (length (reply_to (rows_in a.info) a.command.tree) ≤ reply_limit)
RepliesMore a (Err (stops.Refused reason at)) =
    contents_verdict (rows_in a.info) a.command.start a.command.tree ≡ Some (record { reason = reason; at = at })
RepliesMore a (Err stops.TooLong) =
    (contents_verdict (rows_in a.info) a.command.start a.command.tree ≡ None)
    × (reply_limit < length (reply_to (rows_in a.info) a.command.tree))
RepliesMore a (Err stops.Memory) = Unit {0}
