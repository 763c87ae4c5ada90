-- A command that is sent to a database, by whether it is the engine's own.
use Rattle.std.proofs.Common.{◌≡◌, ◌∙◌, ℕ, Bool, true, false, cond, List, Some, None, sym, ap, subst}
use Rattle.std.specs.Prelude.{bytes_eq}
use Rattle.bson_tree.specs.Tree.{Items}
use Rattle.encrypt_schema.specs.Commands.Visits.{Refusal}
use Rattle.encrypt_schema.specs.declared.command.reason.Reason.TheVariants as reasons
use Rattle.fle_outside.specs.Seen.{EntropySeen}
use Rattle.fle_engine.specs.Answers.{AnswerIs}
use Rattle.fle_engine.specs.Rulings.{Ruling, by_refusal, refused, sent_ruling}
use Rattle.fle_engine.specs.declared.answer.Answer.{Answer}

-- the refusal of one of another database
abbrev away : Refusal
away = record { reason = reasons.WrongDb; at = 0 }

sent_by : (own db : List ℕ) (v : Ruling) (b own_one : Bool) → own_one ≡ bytes_eq db own → own_one ≡ b
    → sent_ruling own db v ≡ by_refusal (cond b None (Some away)) v
sent_by own db v b own_one is told =
    ap (λ (x : Bool). by_refusal (cond x None (Some away)) v) (sym is ∙ told)

pub sent_away : (own db : List ℕ) (v : Ruling) (c : Items) (e : EntropySeen) (a : Answer) (own_one : Bool)
    → own_one ≡ bytes_eq db own → own_one ≡ false → AnswerIs (refused away) c e e a
    → AnswerIs (sent_ruling own db v) c e e a
sent_away own db v c e a own_one is told answered =
    subst (λ (w : Ruling). AnswerIs w c e e a) (sym (sent_by own db v false own_one is told)) answered

pub sent_home : (own db : List ℕ) (v : Ruling) (c : Items) (e : EntropySeen) (a : Answer) (own_one : Bool)
    → own_one ≡ bytes_eq db own → own_one ≡ true → AnswerIs v c e e a → AnswerIs (sent_ruling own db v) c e e a
sent_home own db v c e a own_one is told answered =
    subst (λ (w : Ruling). AnswerIs w c e e a) (sym (sent_by own db v true own_one is told)) answered
