-- A command that is marked is replied to, or its contents are refused.
use Rattle.std.proofs.Common.{◌≡◌, ◌∙◌, ℕ, Bool, false, cond, List, [], Option, Some, None, Result, Err, Vec, Global}
use Rattle.std.proofs.Common.{ap, subst, sym}
use Rattle.bson_codec.specs.Borrowed.{At}
use Rattle.command_marker.specs.Commands.{Command, MarksAs, MarksMore}
use Rattle.command_marker.specs.Reply.{RepliesAs, reply_to}
use Rattle.command_marker.specs.declared.stop.ReplyFault.{ReplyFault}
use Rattle.encrypt_schema.specs.Commands.Targets.{rows_in}
use Rattle.encrypt_schema.specs.Commands.More.{beyond_verdict, contents_verdict}
use Rattle.encrypt_schema.specs.Commands.Visits.{Refusal, content_verdict, or_else}
use Rattle.encrypt_schema.specs.Language.Collection.{Collection}
use Rattle.encrypt_schema.specs.Language.Row.{Row}
use Rattle.encrypt_schema.specs.declared.command.marks.MarkFault.{MarkFault}
use Rattle.encrypt_schema.specs.declared.command.marks.MarkFault.TheVariants as faults
use Rattle.context_machine.specs.Waiting.{IsRefusal}

-- the rules of a collection that is no view
rules_of : (info : Collection) → info.view ≡ false → rows_in (Some info) ≡ info.rows
rules_of info real = ap (λ (view : Bool). cond view [] info.rows) real

-- what marking it answers, under the rules of its collection
pub marks_under : (info : Collection) (rows : List Row) (command again : At) (result : Result Command MarkFault)
    → info.view ≡ false → rows ≡ info.rows → again ≡ command → MarksAs rows again result
    → MarksAs (rows_in (Some info)) command result
marks_under info rows command again result real is same marks =
    subst (λ (rs : List Row). MarksAs rs command result) (is ∙ sym (rules_of info real))
    (subst (λ (d : At). MarksAs rows d result) same marks)

-- a command that is marked is replied to under these rules
pub marked_reply : (rows : List Row) (command : At) (marked : Command) (reply : Result (Vec ℕ Global) ReplyFault)
    → marked ≡ record { rows = rows; command = command }
    → RepliesAs (reply_to marked.rows marked.command.tree) reply → RepliesAs (reply_to rows command.tree) reply
marked_reply rows command marked reply is replies =
    subst (λ (m : Command). RepliesAs (reply_to m.rows m.command.tree) reply) is replies

-- a fault of marking is a refusal of its contents
pub fault_refuses : (rows : List Row) (command : At) (fault : MarkFault) → MarksAs rows command (Err fault)
    → IsRefusal (content_verdict rows command.start command.tree) fault
fault_refuses rows command (faults.Refused reason at) told = told
fault_refuses rows command faults.Memory told = tt

-- the same of what a library asks of a command
pub more_under : (info : Collection) (rows : List Row) (command again : At) (result : Result Command MarkFault)
    → info.view ≡ false → rows ≡ info.rows → again ≡ command → MarksMore rows again result
    → MarksMore (rows_in (Some info)) command result
more_under info rows command again result real is same marks =
    subst (λ (rs : List Row). MarksMore rs command result) (is ∙ sym (rules_of info real))
    (subst (λ (d : At). MarksMore rows d result) same marks)

pub more_refuses : (rows : List Row) (command : At) (fault : MarkFault) → MarksMore rows command (Err fault)
    → IsRefusal (contents_verdict rows command.start command.tree) fault
more_refuses rows command (faults.Refused reason at) told = told
more_refuses rows command faults.Memory told = tt

-- where neither the contents are refused nor anything beyond them
pub accepted_more : (rows : List Row) (command : At) → content_verdict rows command.start command.tree ≡ None
    → beyond_verdict rows command.start command.tree ≡ None
    → contents_verdict rows command.start command.tree ≡ None
accepted_more rows command contents beyond =
    ap (λ (r : Option Refusal). or_else r (beyond_verdict rows command.start command.tree)) contents ∙ beyond
