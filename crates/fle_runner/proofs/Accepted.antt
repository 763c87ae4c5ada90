-- The commands of a stream that are accepted are those whose verdicts write an output.
use Rattle.std.proofs.Common.{◌≡◌, ◌∙◌, ℕ, ◌+◌, ◌^◌, Bool, true, false, cond, nat_lt, Option, Some, None, List, [], ◌∷◌}
use Rattle.std.proofs.Common.{length, refl, ap}
use Rattle.std.specs.Prelude.{◌&&◌, not, is_none}
use Rattle.bson_tree.specs.Spelling.{doc_bytes}
use Rattle.bson_tree.specs.Tree.{Items}
use Rattle.context_machine.specs.Rings.{first_keyless, needs_of}
use Rattle.doc_rewrite.specs.Sites.{grown}
use Rattle.encrypt_schema.specs.Commands.Targets.{rows_of, verdict}
use Rattle.encrypt_schema.specs.Commands.Visits.{Refusal}
use Rattle.fle_engine.specs.Rulings.{at_front, by_refusal, makes, too_long}
use Rattle.fle_engine.specs.Sealing.{seal_ruling, sealed_plan}
use Rattle.fle_outside.specs.Limits.{output_limit}
use Rattle.fle_stream.specs.Plan.{Plan, Verdict}
use Rattle.fle_stream.specs.Streams.{Docs, doc, ends}
use Rattle.fle_runner.specs.Encrypt.{encrypt_verdict}
use Rattle.fle_runner.specs.Headline.{Setup, accepted_in, accepts, sites_in, verdict_of}
use Rattle.fle_runner.specs.Verdicts.{as_verdict}
use Rattle.fle_runner.proofs.IfAccepted.{if_accepted}

-- the commands of a stream before the first whose verdict writes no output, and before 2^40 bytes were taken
unfoldable pub accepted : (Items → Verdict) → ℕ → Docs → List Items
accepted v taken (ends rest) = []
accepted v taken (doc n c docs) =
    cond (nat_lt taken (2 ^ 40)) (if_accepted (v c) c (accepted v (taken + n) docs)) []

-- one command, by what is refused of it, its first value without a key, and whether its sealed form is too long
by_parts : (a b : Option Refusal) (over : Bool) (plan : Plan) (c : Items) (cs : List Items)
    → if_accepted (as_verdict c (by_refusal a (by_refusal b (cond over too_long (makes plan))))) c cs
    ≡ cond (is_none a && is_none b && not over) (c ∷ cs) []
by_parts (Some r) b over plan c cs = refl
by_parts None (Some r) over plan c cs = refl
by_parts None None true plan c cs = refl
by_parts None None false plan c cs = refl

pub one : (x : Setup) (c : Items) (cs : List Items)
    → if_accepted (verdict_of x c) c cs ≡ cond (accepts x c) (c ∷ cs) []
unfolding encrypt_verdict seal_ruling
one x c cs =
    by_parts (verdict x.db x.infos 0 c) (first_keyless x.keys (needs_of (rows_of x.infos c) (at_front c)))
    (nat_lt output_limit (length (doc_bytes c) + grown (sites_in x c))) (sealed_plan x.keys (sites_in x c) c) c cs

both : (a b : Bool) (cs : List Items) → cond a (cond b cs []) [] ≡ cond (a && b) cs []
both true b cs = refl
both false b cs = refl

-- the commands of a stream
pub accepted_is : (x : Setup) (taken : ℕ) (docs : Docs) → accepted (verdict_of x) taken docs ≡ accepted_in x taken docs
unfolding accepted accepted_in
accepted_is x taken (ends rest) = refl
accepted_is x taken (doc n c docs) =
    ap (λ (cs : List Items). cond (nat_lt taken (2 ^ 40)) cs [])
    (ap (if_accepted (verdict_of x c) c) (accepted_is x (taken + n) docs) ∙ one x c (accepted_in x (taken + n) docs))
    ∙ both (nat_lt taken (2 ^ 40)) (accepts x c) (c ∷ accepted_in x (taken + n) docs)
