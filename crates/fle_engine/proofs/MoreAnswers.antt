-- What a library's command is answered, by its contents and by what it starts as.
use Rattle.std.proofs.Common.{◌≡◌, ◌∙◌, ℕ, true, List, Option, Some, None, Ok, Err, Vec, Global}
use Rattle.std.proofs.Common.{ap, sym, subst}
use Rattle.bson_codec.specs.Borrowed.{At}
use Rattle.bson_tree.specs.Tree.{Items}
use Rattle.command_marker.specs.Commands.{passes}
use Rattle.command_marker.specs.Reply.{reply_clear_to, reply_to}
use Rattle.command_marker.proofs.Unmarked.{passing_reply}
use Rattle.context_machine.specs.Replying.{RepliesMore}
use Rattle.context_machine.specs.Rings.{Finder}
use Rattle.context_machine.specs.States.{Asks}
use Rattle.context_machine.specs.Waiting.{IsRefusal}
use Rattle.context_machine.specs.declared.replying.ReplyStop.{ReplyStop}
use Rattle.context_machine.specs.declared.replying.ReplyStop.TheVariants as stops
use Rattle.encrypt_schema.specs.Commands.More.{beyond_verdict, contents_verdict}
use Rattle.encrypt_schema.specs.Commands.Targets.{rows_in, rows_of}
use Rattle.encrypt_schema.specs.Commands.Visits.{Refusal, content_verdict, or_else}
use Rattle.encrypt_schema.specs.Language.Collection.{Collection}
use Rattle.encrypt_schema.specs.Language.Row.{Row}
use Rattle.encrypt_schema.specs.declared.command.marks.MarkFault.{MarkFault}
use Rattle.encrypt_schema.specs.declared.command.marks.MarkFault.TheVariants as faults
use Rattle.fle_outside.specs.Seen.{EntropySeen}
use Rattle.fle_engine.specs.Answers.{AnswerIs}
use Rattle.fle_engine.specs.Replies.{StopsReplyAs, replies, sized}
use Rattle.fle_engine.specs.Rulings.{Ruling, Tells, by_refusal, refused}
use Rattle.fle_engine.specs.Sealing.{seal_under}
use Rattle.fle_engine.specs.More.{StartsMore, more_contents, more_marking, more_ruling, more_with}
use Rattle.fle_engine.specs.declared.answer.Answer.{Answer}
use Rattle.fle_engine.specs.declared.answer.Answer.TheVariants as answers
use Rattle.fle_engine.specs.declared.starting.Started.TheVariants as starts
use Rattle.fle_engine.proofs.Replied.{over, reply_made}
use Rattle.fle_engine.proofs.MoreRulings.{passed_with}

-- ---- by the contents of a command

-- what it comes to by its contents, whose offsets are from 0
by_contents : (accepted : List Row → Items → Ruling) (a : Asks) (r : Option Refusal) → a.command.start ≡ 0
    → contents_verdict (rows_in a.info) a.command.start a.command.tree ≡ r
    → more_contents accepted (rows_in a.info) a.command.tree
    ≡ by_refusal r (accepted (rows_in a.info) a.command.tree)
by_contents accepted a r whole told =
    ap (λ (o : Option Refusal). by_refusal o (accepted (rows_in a.info) a.command.tree))
    (ap (λ (n : ℕ). contents_verdict (rows_in a.info) n a.command.tree) (sym whole) ∙ told)

-- a library refuses nothing of it
pub contents_accepted : (accepted : List Row → Items → Ruling) (a : Asks) → a.command.start ≡ 0
    → content_verdict (rows_in a.info) a.command.start a.command.tree ≡ None
    → beyond_verdict (rows_in a.info) a.command.start a.command.tree ≡ None
    → more_contents accepted (rows_in a.info) a.command.tree ≡ accepted (rows_in a.info) a.command.tree
contents_accepted accepted a whole contents beyond =
    by_contents accepted a None whole
    (ap (λ (r : Option Refusal). or_else r (beyond_verdict (rows_in a.info) a.command.start a.command.tree)) contents
    ∙ beyond)

-- it is refused
pub contents_refused : (accepted : List Row → Items → Ruling) (a : Asks) (fault : MarkFault) → a.command.start ≡ 0
    → IsRefusal (contents_verdict (rows_in a.info) a.command.start a.command.tree) fault
    → Tells fault (more_contents accepted (rows_in a.info) a.command.tree)
contents_refused accepted a (faults.Refused reason at) whole told =
    by_contents accepted a (Some (record { reason = reason; at = at })) whole told
contents_refused accepted a faults.Memory whole told = tt

pub contents_replied : (a : Asks) (output : Vec ℕ Global) (e : EntropySeen) → a.command.start ≡ 0
    → RepliesMore a (Ok output)
    → AnswerIs (more_contents replies (rows_in a.info) a.command.tree) a.command.tree e e (answers.Made output)
contents_replied a output e whole told =
    subst (λ (v : Ruling). AnswerIs v a.command.tree e e (answers.Made output))
    (sym (by_contents replies a None whole told.0))
    (reply_made (reply_to (rows_in a.info) a.command.tree) a.command.tree output e told.1 told.2)

pub contents_told : (a : Asks) (stop : ReplyStop) → a.command.start ≡ 0 → RepliesMore a (Err stop)
    → StopsReplyAs stop (more_contents replies (rows_in a.info) a.command.tree)
contents_told a (stops.Refused reason at) whole told =
    by_contents replies a (Some (record { reason = reason; at = at })) whole told
contents_told a stops.TooLong whole told =
    by_contents replies a None whole told.0 ∙ over (reply_to (rows_in a.info) a.command.tree) told.1
contents_told a stops.Memory whole told = tt

-- ---- by what it starts as

pub passing_sealed : (keys : Finder) (infos : List Collection) (db : List ℕ) (c : Items) (a : Answer) (e : EntropySeen)
    → passes c ≡ true → AnswerIs (seal_under keys (rows_of infos c) c) c e e a
    → AnswerIs (more_ruling keys infos db c) c e e a
unfolding more_ruling
passing_sealed keys infos db c a e passing answered =
    subst (λ (v : Ruling). AnswerIs v c e e a) (sym (passed_with (seal_under keys) db infos c passing)) answered

pub passing_replied : (infos : List Collection) (db : List ℕ) (c : Items) (a : Answer) (e : EntropySeen)
    → passes c ≡ true → AnswerIs (sized (reply_clear_to c)) c e e a → AnswerIs (more_marking infos db c) c e e a
unfolding more_marking
passing_replied infos db c a e passing answered =
    subst (λ (v : Ruling). AnswerIs v c e e a)
    (sym (passed_with replies db infos c passing ∙ ap sized (passing_reply (rows_of infos c) c passing))) answered

-- whatever becomes of it, where it is to be marked under the rules of its collection
pub starts_with : (accepted : List Row → Items → Ruling) (infos : List Collection) (db : List ℕ) (command : At)
    (state : Asks) (a : Answer)
    (before after : EntropySeen) → StartsMore infos db command (Ok (starts.Marking state))
    → AnswerIs (more_contents accepted (rows_in state.info) state.command.tree) state.command.tree before after a
    → AnswerIs (more_with accepted infos db command.tree) command.tree before after a
starts_with accepted infos db command state a before after start answered =
    subst (λ (v : Ruling). AnswerIs v command.tree before after a) (sym (start.1 accepted))
    (subst (λ (d : At). AnswerIs (more_contents accepted (rows_in state.info) d.tree) d.tree before after a) start.0
    answered)

pub marking_sealed : (keys : Finder) (infos : List Collection) (db : List ℕ) (command : At) (state : Asks) (a : Answer)
    (before after : EntropySeen) → StartsMore infos db command (Ok (starts.Marking state))
    → AnswerIs (more_contents (seal_under keys) (rows_in state.info) state.command.tree) state.command.tree before after
    a
    → AnswerIs (more_ruling keys infos db command.tree) command.tree before after a
unfolding more_ruling
marking_sealed keys infos db command state a before after start answered =
    starts_with (seal_under keys) infos db command state a before after start answered

pub marking_replied : (infos : List Collection) (db : List ℕ) (command : At) (state : Asks) (a : Answer)
    (e : EntropySeen) → StartsMore infos db command (Ok (starts.Marking state))
    → AnswerIs (more_contents replies (rows_in state.info) state.command.tree) state.command.tree e e a
    → AnswerIs (more_marking infos db command.tree) command.tree e e a
unfolding more_marking
marking_replied infos db command state a e start answered =
    starts_with replies infos db command state a e e start answered

pub refused_sealed : (keys : Finder) (infos : List Collection) (db : List ℕ) (command : At) (fault : MarkFault)
    → StartsMore infos db command (Err fault) → Tells fault (more_ruling keys infos db command.tree)
unfolding more_ruling
refused_sealed keys infos db command fault start = start (seal_under keys)

pub refused_replied : (infos : List Collection) (db : List ℕ) (command : At) (fault : MarkFault)
    → StartsMore infos db command (Err fault) → Tells fault (more_marking infos db command.tree)
unfolding more_marking
refused_replied infos db command fault start = start replies
