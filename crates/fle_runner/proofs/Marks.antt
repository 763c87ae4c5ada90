-- No reply to a command draws a block.
use Rattle.std.proofs.Common.{◌≡◌, ℕ, Bool, true, false, nat_lt, cond, Option, Some, None, List, length, refl}
use Rattle.bson_tree.specs.Tree.{Items}
use Rattle.command_marker.specs.Reply.{reply_limit, reply_to}
use Rattle.encrypt_schema.specs.Language.Collection.{Collection}
use Rattle.encrypt_schema.specs.Commands.Targets.{rows_of, verdict}
use Rattle.encrypt_schema.specs.Commands.Visits.{Refusal}
use Rattle.fle_engine.specs.Replies.{mark_ruling, sized}
use Rattle.fle_engine.specs.Rulings.{by_refusal, makes, plain_plan, too_long}
use Rattle.fle_runner.specs.Mark.{mark_verdict}
use Rattle.fle_runner.specs.Verdicts.{as_verdict}
use Rattle.fle_stream.specs.Plan.{DrawsNone, draws_in}

sized_draws : (b : Bool) (c : Items) (bytes : List ℕ)
    → draws_in (as_verdict c (cond b too_long (makes (plain_plan bytes)))) ≡ 0
sized_draws true c bytes = refl
sized_draws false c bytes = refl

verdict_draws : (c : Items) (reply : List ℕ) (r : Option Refusal)
    → draws_in (as_verdict c (by_refusal r (sized reply))) ≡ 0
verdict_draws c reply (Some r) = refl
verdict_draws c reply None = sized_draws (nat_lt reply_limit (length reply)) c reply

pub mark_draws : (infos : List Collection) (db : List ℕ) → DrawsNone (mark_verdict infos db)
unfolding mark_verdict mark_ruling
mark_draws infos db = λ c. verdict_draws c (reply_to (rows_of infos c) c) (verdict db infos 0 c)
