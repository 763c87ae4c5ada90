-- What a clear command comes to, and any other, by what its judge answers.
use Rattle.std.proofs.Common.{◌≡◌, ◌∙◌, ◌<◌, ◌≤◌, ℕ, Bool, true, false, cond, List, [], Option, Some, None, Vec, Global}
use Rattle.std.proofs.Common.{length, refl, sym, ap, subst}
use Rattle.bson_codec.specs.Borrowed.{At}
use Rattle.bson_tree.specs.Spelling.{doc_bytes}
use Rattle.bson_tree.specs.Tree.{Items}
use Rattle.clear_commands.specs.ClearNames.{is_clear}
use Rattle.clear_commands.specs.ClearVerdicts.{JudgesClear, clear_verdict}
use Rattle.clear_commands.specs.declared.verdict.ClearVerdict.TheVariants as verdicts
use Rattle.command_marker.specs.Reply.{reply_limit}
use Rattle.encrypt_schema.specs.Commands.Targets.{rows_of}
use Rattle.encrypt_schema.specs.Commands.Visits.{Refusal}
use Rattle.encrypt_schema.specs.Language.Collection.{Collection}
use Rattle.encrypt_schema.specs.declared.command.reason.Reason.{Reason}
use Rattle.fle_outside.specs.Seen.{EntropySeen}
use Rattle.fle_outside.proofs.Drawings.{draws_none}
use Rattle.fle_engine.specs.Answers.{AnswerIs}
use Rattle.fle_engine.specs.Asked.{TellsDraws, command_draws}
use Rattle.fle_engine.specs.Replies.{sized}
use Rattle.fle_engine.specs.Rulings.{Ruling, by_refusal, makes, plain_plan, refused}
use Rattle.fle_engine.specs.Wide.{cleared, wide_draws}
use Rattle.fle_engine.specs.declared.answer.Answer.{Answer}
use Rattle.fle_engine.specs.declared.answer.Answer.TheVariants as answers
use Rattle.fle_engine.proofs.Replied.{over}

-- by whether it is clear
cleared_by : (passing judged : Ruling) (c : Items) (b : Bool) → is_clear c ≡ b
    → cleared passing c judged ≡ cond b (by_refusal (clear_verdict 0 c) passing) judged
cleared_by passing judged c b is = ap (λ (x : Bool). cond x (by_refusal (clear_verdict 0 c) passing) judged) is

-- it is clear, and this is its verdict
cleared_to : (passing judged : Ruling) (d : At) (r : Option Refusal) → d.start ≡ 0 → is_clear d.tree ≡ true
    → clear_verdict d.start d.tree ≡ r → cleared passing d.tree judged ≡ by_refusal r passing
cleared_to passing judged d r whole clear is =
    cleared_by passing judged d.tree true clear
    ∙ ap (λ (o : Option Refusal). by_refusal o passing) (ap (λ (n : ℕ). clear_verdict n d.tree) (sym whole) ∙ is)

-- one that isn't clear
pub judged_answer : (passing judged : Ruling) (d : At) (a : Answer) (before after : EntropySeen)
    → JudgesClear d verdicts.NotClear → AnswerIs judged d.tree before after a
    → AnswerIs (cleared passing d.tree judged) d.tree before after a
judged_answer passing judged d a before after told answered =
    let is = cleared_by passing judged d.tree false told in
    subst (λ (v : Ruling). AnswerIs v d.tree before after a) (sym is) answered

-- a clear one of which nothing is refused
pub clear_answer : (passing judged : Ruling) (d : At) (a : Answer) (e : EntropySeen) → d.start ≡ 0
    → JudgesClear d verdicts.Clear → AnswerIs passing d.tree e e a
    → AnswerIs (cleared passing d.tree judged) d.tree e e a
clear_answer passing judged d a e whole told answered =
    let is = cleared_to passing judged d None whole told.0 told.1 in
    subst (λ (v : Ruling). AnswerIs v d.tree e e a) (sym is) answered

-- a clear one that is refused
pub refused_answer : (passing judged : Ruling) (d : At) (reason : Reason) (at : ℕ) (a : Answer) (e : EntropySeen)
    → d.start ≡ 0 → JudgesClear d (verdicts.Refused reason at)
    → AnswerIs (refused (record { reason = reason; at = at })) d.tree e e a
    → AnswerIs (cleared passing d.tree judged) d.tree e e a
refused_answer passing judged d reason at a e whole told answered =
    let r : Option Refusal = Some (record { reason = reason; at = at }) in
    subst (λ (v : Ruling). AnswerIs v d.tree e e a) (sym (cleared_to passing judged d r whole told.0 told.1)) answered

-- it has more bytes than are written
pub copied_over : (bytes : List ℕ) (c : Items) (e : EntropySeen) → reply_limit < length bytes
    → AnswerIs (sized bytes) c e e answers.TooLong
copied_over bytes c e above =
    subst (λ (v : Ruling). AnswerIs v c e e answers.TooLong) (sym (over bytes above)) (draws_none e)

-- no byte is made
pub none_made : (c : Items) (output : Vec ℕ Global) (e : EntropySeen) → output.items ≡ []
    → AnswerIs (makes (plain_plan [])) c e e (answers.Made output)
none_made c output e none = ([], refl, draws_none e, none, refl)

-- ---- the blocks that are told of

draws_by : (infos : List Collection) (c : Items) (b : Bool) → is_clear c ≡ b
    → wide_draws infos c ≡ cond b 0 (command_draws (rows_of infos c) c)
draws_by infos c b is = ap (λ (x : Bool). cond x 0 (command_draws (rows_of infos c) c)) is

pub judged_draws : (infos : List Collection) (d : At) (a : Answer) (told : ℕ) → JudgesClear d verdicts.NotClear
    → TellsDraws (command_draws (rows_of infos d.tree) d.tree) a told → TellsDraws (wide_draws infos d.tree) a told
judged_draws infos d a told judged tells =
    subst (λ (n : ℕ). TellsDraws n a told) (sym (draws_by infos d.tree false judged)) tells

pub clear_draws : (infos : List Collection) (d : At) → JudgesClear d verdicts.Clear → 0 ≡ wide_draws infos d.tree
clear_draws infos d told = sym (draws_by infos d.tree true told.0)
