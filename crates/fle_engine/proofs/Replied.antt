-- What a command comes to that is replied to.
use Rattle.std.proofs.Common.{◌≡◌, ◌<◌, ◌≤◌, ℕ, Bool, true, false, nat_lt, cond, Option, Some, None, List, [], length}
use Rattle.std.proofs.Common.{Ok, Err, Vec, Global, refl, sym, ap, subst, ◌∙◌, arith}
use Rattle.std.proofs.lemmas.Bool.Decides.{nat_tests}
use Rattle.bson_codec.specs.Borrowed.{At}
use Rattle.bson_tree.specs.Tree.{Items}
use Rattle.command_marker.specs.Commands.{passes}
use Rattle.command_marker.specs.Reply.{reply_clear_to, reply_limit, reply_to}
use Rattle.context_machine.specs.Replying.{RepliesTo}
use Rattle.context_machine.specs.States.{Asks}
use Rattle.context_machine.specs.declared.replying.ReplyStop.{ReplyStop}
use Rattle.context_machine.specs.declared.replying.ReplyStop.TheVariants as stops
use Rattle.encrypt_schema.specs.Commands.Targets.{rows_in}
use Rattle.encrypt_schema.specs.Commands.Visits.{Refusal, content_verdict}
use Rattle.encrypt_schema.specs.Language.Collection.{Collection}
use Rattle.encrypt_schema.specs.declared.command.marks.MarkFault.{MarkFault}
use Rattle.fle_outside.specs.Seen.{EntropySeen}
use Rattle.fle_outside.proofs.Drawings.{draws_none}
use Rattle.fle_engine.specs.Answers.{AnswerIs}
use Rattle.fle_engine.specs.Replies.{StopsReplyAs, mark_ruling, replies, sized}
use Rattle.fle_engine.specs.Rulings.{Ruling, Tells, by_refusal, contents_with, makes, plain_plan, refused, too_long}
use Rattle.fle_engine.specs.Starting.{StartsAs}
use Rattle.fle_engine.specs.declared.answer.Answer.{Answer}
use Rattle.fle_engine.specs.declared.answer.Answer.TheVariants as answers
use Rattle.fle_engine.specs.declared.starting.Started.TheVariants as starts
use Rattle.fle_engine.proofs.Rulings.{passed_told}

-- there was no memory, whatever the document comes to
pub answered_memory : (v : Ruling) (c : Items) (e : EntropySeen) → AnswerIs v c e e answers.Memory
answered_memory (makes plan) c e = draws_none e
answered_memory (refused r) c e = draws_none e
answered_memory too_long c e = draws_none e

-- ---- the reply is made, or above its limit

pub over : (bytes : List ℕ) → reply_limit < length bytes → sized bytes ≡ too_long
over bytes above =
    let is : nat_lt reply_limit (length bytes) ≡ true = grind (arith, nat_tests) in
    ap (λ (b : Bool). cond b too_long (makes (plain_plan bytes))) is

within : (bytes : List ℕ) → length bytes ≤ reply_limit → sized bytes ≡ makes (plain_plan bytes)
within bytes fits =
    let is : nat_lt reply_limit (length bytes) ≡ false = grind (arith, nat_tests) in
    ap (λ (b : Bool). cond b too_long (makes (plain_plan bytes))) is

pub reply_made : (bytes : List ℕ) (c : Items) (output : Vec ℕ Global) (e : EntropySeen) → output.items ≡ bytes
    → length bytes ≤ reply_limit → AnswerIs (sized bytes) c e e (answers.Made output)
reply_made bytes c output e same fits =
    subst (λ (v : Ruling). AnswerIs v c e e (answers.Made output)) (sym (within bytes fits))
    ([], refl, draws_none e, same, refl)

-- ---- by the contents of a command

-- what a command comes to by its contents, whose offsets are from 0
by_contents : (a : Asks) (r : Option Refusal) → a.command.start ≡ 0
    → content_verdict (rows_in a.info) a.command.start a.command.tree ≡ r
    → contents_with replies (rows_in a.info) a.command.tree
    ≡ by_refusal r (sized (reply_to (rows_in a.info) a.command.tree))
by_contents a r whole told =
    ap (λ (o : Option Refusal). by_refusal o (sized (reply_to (rows_in a.info) a.command.tree)))
    (ap (λ (n : ℕ). content_verdict (rows_in a.info) n a.command.tree) (sym whole) ∙ told)

pub contents_replied : (a : Asks) (output : Vec ℕ Global) (e : EntropySeen) → a.command.start ≡ 0
    → RepliesTo a (Ok output)
    → AnswerIs (contents_with replies (rows_in a.info) a.command.tree) a.command.tree e e (answers.Made output)
contents_replied a output e whole told =
    subst (λ (v : Ruling). AnswerIs v a.command.tree e e (answers.Made output)) (sym (by_contents a None whole told.0))
    (reply_made (reply_to (rows_in a.info) a.command.tree) a.command.tree output e told.1 told.2)

pub contents_told : (a : Asks) (stop : ReplyStop) → a.command.start ≡ 0 → RepliesTo a (Err stop)
    → StopsReplyAs stop (contents_with replies (rows_in a.info) a.command.tree)
contents_told a (stops.Refused reason at) whole told =
    by_contents a (Some (record { reason = reason; at = at })) whole told
contents_told a stops.TooLong whole told =
    by_contents a None whole told.0 ∙ over (reply_to (rows_in a.info) a.command.tree) told.1
contents_told a stops.Memory whole told = tt

-- ---- by its fields and its collection

pub passing_replied : (infos : List Collection) (db : List ℕ) (c : Items) (a : Answer) (e : EntropySeen)
    → passes c ≡ true → AnswerIs (sized (reply_clear_to c)) c e e a → AnswerIs (mark_ruling infos db c) c e e a
passing_replied infos db c a e passing answered =
    subst (λ (v : Ruling). AnswerIs v c e e a) (sym (passed_told db infos c passing)) answered

pub marking_replied : (infos : List Collection) (db : List ℕ) (command : At) (state : Asks) (a : Answer)
    (e : EntropySeen) → StartsAs infos db command (Ok (starts.Marking state))
    → AnswerIs (contents_with replies (rows_in state.info) state.command.tree) state.command.tree e e a
    → AnswerIs (mark_ruling infos db command.tree) command.tree e e a
unfolding mark_ruling
marking_replied infos db command state a e start answered =
    subst (λ (v : Ruling). AnswerIs v command.tree e e a) (sym (start.1 replies))
    (subst (λ (d : At). AnswerIs (contents_with replies (rows_in state.info) d.tree) d.tree e e a) start.0 answered)

pub refused_replied : (infos : List Collection) (db : List ℕ) (command : At) (fault : MarkFault)
    → StartsAs infos db command (Err fault) → Tells fault (mark_ruling infos db command.tree)
unfolding mark_ruling
refused_replied infos db command fault start = start replies
