-- What a document of one value comes to, by its element, its value and its key.
use Rattle.std.proofs.Common.{◌≡◌, ◌∙◌, ◌+◌, ◌≤◌, ℕ, Bool, false, cond, nat_lt, length, List, [], Option, Some}
use Rattle.std.proofs.Common.{None, Result, Ok, Err, refl, sym, ap, ap₂, arith, subst, true≢false}
use Rattle.std.proofs.lemmas.Bool.Decides.{nat_tests}
use Rattle.bson_codec.specs.Borrowed.{Elem}
use Rattle.bson_tree.specs.Spelling.{value_bytes}
use Rattle.bson_tree.specs.Tree.{Tree, Items, item, no_items}
use Rattle.context_machine.specs.Rings.{Finder}
use Rattle.doc_rewrite.specs.Ivs.{DrawFails}
use Rattle.doc_rewrite.specs.Keys.{Found}
use Rattle.doc_rewrite.specs.Sites.{sealed_width}
pub use Rattle.encrypt_schema.proofs.Language.Texts.{no_payload, payload_found}
use Rattle.encrypt_schema.specs.Commands.Visits.{refused_at}
use Rattle.encrypt_schema.specs.declared.command.reason.Reason.{Reason}
use Rattle.encrypt_schema.specs.declared.command.reason.Reason.TheVariants as reasons
use Rattle.encrypt_schema.specs.declared.schema.policy.Algorithm.{Algorithm}
use Rattle.fle_outside.specs.Seen.{EntropySeen}
use Rattle.payload6.specs.Needs.{Need}
use Rattle.fle_engine.specs.Answers.{AnswerIs}
use Rattle.fle_engine.specs.Explicit.{IsOnly, is_only, only_ruling, value_plan, value_reason, value_ruling, value_under}
use Rattle.fle_engine.specs.Rulings.{Ruling, by_refusal, makes, refused, sized_plan, too_long}
use Rattle.fle_engine.specs.declared.answer.Answer.{Answer}
use Rattle.fle_engine.specs.declared.answer.Answer.TheVariants as answers
use Rattle.fle_engine.specs.declared.answer.Wanted.{Wanted}

-- so much is wanted
abbrev wants : ℕ → ℕ → Wanted
wants size draws = record { size = size; draws = draws }

bad : (found : Result Found Reason) (algorithm : Algorithm) (d : Items) → is_only d ≡ false
    → only_ruling found algorithm d ≡ refused (record { reason = reasons.BadField; at = 0 })
bad found algorithm no_items other = refl
bad found algorithm (item name t no_items) other = absurd (true≢false other)
bad found algorithm (item name t (item next u is)) other = refl

-- it has not one element
pub other_told : (keys : Finder) (need : Need) (algorithm : Algorithm) (d : Items) (a : Answer)
    (before after : EntropySeen) → is_only d ≡ false
    → AnswerIs (refused (record { reason = reasons.BadField; at = 0 })) d before after a
    → AnswerIs (value_ruling keys need algorithm d) d before after a
unfolding value_ruling
other_told keys need algorithm d a before after other told =
    subst (λ (v : Ruling). AnswerIs v d before after a) (sym (bad (keys need) algorithm d other)) told

-- what it comes to by its element
by_element : (keys : Finder) (need : Need) (algorithm : Algorithm) (d : Items) (e : Elem) (r : Option Reason)
    (found : Result Found Reason) → IsOnly d e → value_reason algorithm e.tree ≡ r → keys need ≡ found
    → value_ruling keys need algorithm d
    ≡ by_refusal (refused_at e.start r) (value_under found algorithm e.name e.tree)
unfolding value_ruling
by_element keys need algorithm d e r found is reason key =
    ap (only_ruling (keys need) algorithm) is.0
    ∙ (ap₂ (λ (o : Option Reason) (n : ℕ). by_refusal (refused_at n o)
    (value_under (keys need) algorithm e.name e.tree)) reason (sym is.1)
    ∙ ap (λ (f : Result Found Reason). by_refusal (refused_at e.start r) (value_under f algorithm e.name e.tree)) key)

-- its value isn't sealed
pub reason_told : (keys : Finder) (need : Need) (algorithm : Algorithm) (d : Items) (e : Elem) (reason : Reason)
    (at : ℕ) (a : Answer) (before after : EntropySeen) → IsOnly d e → value_reason algorithm e.tree ≡ Some reason
    → at ≡ e.start
    → AnswerIs (refused (record { reason = reason; at = at })) d before after a
    → AnswerIs (value_ruling keys need algorithm d) d before after a
reason_told keys need algorithm d e reason at a before after is why same told =
    subst (λ (v : Ruling). AnswerIs v d before after a)
    (sym (by_element keys need algorithm d e (Some reason) (keys need) is why refl))
    (subst (λ (n : ℕ). AnswerIs (refused (record { reason = reason; at = n })) d before after a) same told)

-- its key isn't to be had
pub keyless_value : (keys : Finder) (need : Need) (algorithm : Algorithm) (d : Items) (e : Elem) (reason : Reason)
    (at : ℕ) (a : Answer) (before after : EntropySeen) → IsOnly d e → value_reason algorithm e.tree ≡ None
    → keys need ≡ Err reason
    → at ≡ e.start
    → AnswerIs (refused (record { reason = reason; at = at })) d before after a
    → AnswerIs (value_ruling keys need algorithm d) d before after a
keyless_value keys need algorithm d e reason at a before after is fine key same told =
    subst (λ (v : Ruling). AnswerIs v d before after a)
    (sym (by_element keys need algorithm d e None (Err reason) is fine key
    ∙ ap (λ (n : ℕ). refused (record { reason = reason; at = n })) (sym is.1)))
    (subst (λ (n : ℕ). AnswerIs (refused (record { reason = reason; at = n })) d before after a) same told)

-- it is sealed
pub value_told : (keys : Finder) (need : Need) (algorithm : Algorithm) (d : Items) (e : Elem) (found : Found)
    (a : Answer) (before after : EntropySeen) → IsOnly d e → value_reason algorithm e.tree ≡ None
    → keys need ≡ Ok found
    → AnswerIs (sized_plan (value_plan found algorithm e.name e.tree)) d before after a
    → AnswerIs (value_ruling keys need algorithm d) d before after a
value_told keys need algorithm d e found a before after is fine key told =
    subst (λ (v : Ruling). AnswerIs v d before after a)
    (sym (by_element keys need algorithm d e None (Ok found) is fine key)) told

-- ---- its element

pub none_only : (d : Items) → d ≡ no_items → is_only d ≡ false
none_only d e = ap is_only e

pub more_only : (d rest last : Items) (name other : List ℕ) (t u : Tree) → d ≡ item name t rest
    → rest ≡ item other u last → is_only d ≡ false
more_only d rest last name other t u first second =
    ap is_only (first ∙ ap (λ (is : Items). item name t is) second)

-- ---- its block

fits : (n : ℕ) → n ≤ 48000000 → nat_lt 48000000 n ≡ false
fits n few = grind (arith, nat_tests)

-- its draw failed
pub value_short : (found : Found) (algorithm : Algorithm) (name : List ℕ) (t : Tree) (d : Items)
    (before after : EntropySeen) (size : ℕ) → DrawFails algorithm before after
    → size ≡ 7 + length name + sealed_width (length (value_bytes t)) → size ≤ 48000000
    → AnswerIs (sized_plan (value_plan found algorithm name t)) d before after
    (answers.Undrawn (record { size = size; draws = 1 }))
value_short found algorithm name t d before after size short is few =
    let plan = value_plan found algorithm name t in
    let within : nat_lt 48000000 plan.size ≡ false = fits plan.size (omega (arith, is, few)) in
    subst (λ (b : Bool). AnswerIs (cond b too_long (makes plan)) d before after
    (answers.Undrawn (record { size = size; draws = 1 }))) (sym within) (
      record {
        drawn = [];
        fewer = omega (arith, short.needs);
        draws = short.draws;
        unassured = omega (arith, short.unassured);
        rose = short.rose;
      },
      ap₂ (λ (n : ℕ) (k : ℕ). wants n k) is (sym short.needs),
    )
