-- A command that is sent to another database than a client's own is refused.
use Rattle.std.proofs.Common.{◌≡◌, ◌∙◌, ℕ, Bool, true, false, cond, List, Option, Some, None, refl, sym}
use Rattle.std.proofs.Common.{ap, subst}
use Rattle.std.specs.Prelude.{bytes_eq, is_none}
use Rattle.std.proofs.lemmas.Bool.{false≢true}
use Rattle.bson_tree.specs.Tree.{Items}
use Rattle.encrypt_schema.specs.Commands.Visits.{Refusal}
use Rattle.encrypt_schema.specs.Language.Collection.{Collection}
use Rattle.encrypt_schema.specs.declared.command.reason.Reason.TheVariants as reasons
use Rattle.fle_outside.specs.Seen.{EntropySeen}
use Rattle.fle_engine.specs.Answers.{AnswerIs}
use Rattle.fle_engine.specs.Rulings.{Ruling, by_refusal, refused}
use Rattle.fle_engine.specs.declared.answer.Answer.{Answer}
use Rattle.fle_client.specs.Clients.{ruling_by}
use Rattle.fle_client.specs.Known.{foreign, infos_of}
use Rattle.fle_client.specs.declared.rules.Rules.{Rules}
use Rattle.fle_client.specs.declared.rules.Rules.TheVariants as kinds

-- its refusal
abbrev away : Refusal
away = record { reason = reasons.WrongDb; at = 0 }

away_by : (own : Bool) → is_none (cond own None (Some away)) ≡ false → cond own None (Some away) ≡ Some away
away_by true h = absurd (false≢true (sym h))
away_by false h = refl

-- by the test of a database
pub is_foreign : (rules : Rules) (db : List ℕ) (has : Bool) → has ≡ is_none (foreign rules db) → has ≡ false
    → foreign rules db ≡ Some away
is_foreign (kinds.Whole marker) db has is told =
    away_by (bytes_eq db marker.db.items) (sym is ∙ told)
is_foreign (kinds.Told infos) db has is told = absurd (false≢true (sym told ∙ is))

pub foreign_answered : (rules : Rules) (db : List ℕ) (v : List Collection → Ruling) (c : Items)
    (before after : EntropySeen) (a : Answer) → foreign rules db ≡ Some away → AnswerIs (refused away) c before after a
    → AnswerIs (ruling_by rules db v) c before after a
foreign_answered rules db v c before after a is answered =
    subst (λ (w : Ruling). AnswerIs w c before after a)
    (sym (ap (λ (o : Option Refusal). by_refusal o (v (infos_of rules db))) is)) answered
