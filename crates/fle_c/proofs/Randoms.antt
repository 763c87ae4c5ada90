-- How many random bytes are told with an answer, by what a command comes to.
use Rattle.std.proofs.Common.{◌≡◌, ◌∙◌, ◌+◌, ◌-◌, ◌*◌, ◌/◌, ◌<◌, ◌≤◌, ◌^◌, nat_lt, if◌then◌else◌, ℕ, zero, suc, Bool}
use Rattle.std.proofs.Common.{true, false, List, [], length, drop, Option, Some, None, Result, Ok, Err, Vec, Global}
use Rattle.std.proofs.Common.{refl, ap, subst, arith, length-append}
use Rattle.std.specs.Prelude.{unwrap_or}
use Rattle.bson_tree.specs.Tree.{Tree, Items, item, no_items}
use Rattle.context_machine.specs.Rings.{Finder}
use Rattle.doc_rewrite.specs.Keys.{Found}
use Rattle.encrypt_schema.specs.Commands.Visits.{Refusal, refused_at}
use Rattle.encrypt_schema.specs.declared.command.reason.Reason.{Reason}
use Rattle.encrypt_schema.specs.declared.schema.policy.Algorithm.{Algorithm}
use Rattle.fle_outside.specs.Blocks.{Block}
use Rattle.fle_outside.specs.Seen.{Draws, EntropySeen}
use Rattle.fle_engine.specs.Answers.{AnswerIs}
use Rattle.fle_engine.specs.Explicit.{only_ruling, value_plan, value_reason, value_ruling, value_under}
use Rattle.fle_engine.specs.Rulings.{Ruling, by_refusal, makes, refused, too_long}
use Rattle.fle_engine.specs.declared.answer.Answer.{Answer}
use Rattle.fle_engine.specs.declared.answer.Answer.TheVariants as answers
use Rattle.fle_engine.specs.declared.answer.Wanted.{Wanted}
use Rattle.fle_stream.specs.Plan.{Plan}
use Rattle.payload6.specs.Needs.{Need}
use Rattle.fle_c.specs.Blocks.{blocks_in, first_blocks, handed_seen}
use Rattle.fle_c.specs.Calls.{random_in}
use Rattle.fle_c.specs.Telling.{AreCounted, Shows, random_of}
use Rattle.fle_c.specs.declared.told.Told.{Told}
use Rattle.fle_c.proofs.Wants.{Made, one_draw}

-- ---- how many blocks bytes are

count_first : (n : ℕ) (bytes : List ℕ) → length (first_blocks n bytes) ≡ n
count_first zero bytes = refl
count_first (suc n) bytes = ap (λ (k : ℕ). suc k) (count_first n (drop 16 bytes))

blocks_count : (bytes : List ℕ) → length (blocks_in bytes) ≡ length bytes / 16
unfolding blocks_in
blocks_count bytes = count_first (length bytes / 16) bytes

-- the blocks that were drawn are those that are gone
used : (blocks left : List ℕ) (faults : ℕ) (drawn : List Block)
    → Draws (handed_seen blocks 0) (handed_seen left faults) drawn
    → 16 * (length blocks / 16 - length left / 16) ≡ 16 * length drawn
used blocks left faults drawn draws =
    let first = draws.first (blocks_in blocks) refl in
    let rest : blocks_in left ≡ first.0 = ap (λ (o : Option (List Block)). unwrap_or o []) first.2 in
    omega (
      arith,
      ap length first.1,
      length-append drawn first.0,
      ap length rest,
      blocks_count blocks,
      blocks_count left,
    )

-- ---- what is told of an answer

made_random : (v : Ruling) (c : Items) (blocks left : List ℕ) (faults : ℕ) (output : Vec ℕ Global)
    → AnswerIs v c (handed_seen blocks 0) (handed_seen left faults) (answers.Made output)
    → 16 * (length blocks / 16 - length left / 16) ≡ random_in v
made_random (makes plan) c blocks left faults output is =
    used blocks left faults is.0 is.2 ∙ ap (λ (n : ℕ). 16 * n) is.1
made_random (refused r) c blocks left faults output is = absurd is
made_random too_long c blocks left faults output is = absurd is

undrawn_random : (v : Ruling) (c : Items) (from left : EntropySeen) (wanted : Wanted)
    → AnswerIs v c from left (answers.Undrawn wanted) → 16 * wanted.draws ≡ random_in v
undrawn_random (makes plan) c from left wanted is = ap (λ (w : Wanted). 16 * w.draws) is.1
undrawn_random (refused r) c from left wanted is = absurd is
undrawn_random too_long c from left wanted is = absurd is

pub shown : (v : Ruling) (c : Items) (blocks left : List ℕ) (faults : ℕ) (answer : Answer) (before after : List ℕ)
    (told : Told) → AnswerIs v c (handed_seen blocks 0) (handed_seen left faults) answer
    → Shows (random_of answer (length blocks) (length left)) answer before after told
    → Shows (random_in v) answer before after told
shown v c blocks left faults (answers.Made output) before after told is shows =
    subst (λ (n : ℕ). Shows n (answers.Made output) before after told)
    (made_random v c blocks left faults output is) shows
shown v c blocks left faults (answers.Refused r) before after told is shows =
    record { numbers = shows.numbers; out = shows.out }
shown v c blocks left faults answers.TooLong before after told is shows =
    record { numbers = shows.numbers; out = shows.out }
shown v c blocks left faults (answers.Undrawn wanted) before after told is shows =
    subst (λ (n : ℕ). Shows n (answers.Undrawn wanted) before after told)
    (undrawn_random v c (handed_seen blocks 0) (handed_seen left faults) wanted is) shows
shown v c blocks left faults answers.Memory before after told is shows =
    record { numbers = shows.numbers; out = shows.out }

-- ---- these aren't many

-- what is made draws few blocks
abbrev pub AreFew : Ruling → Type 0
AreFew (makes plan) = plan.draws ≤ 666666
AreFew (refused r) = Unit {0}
AreFew too_long = Unit {0}

pub made_few : (n : ℕ) (v : Ruling) → Made n v → AreFew v
made_few n (makes plan) made = made.few
made_few n (refused r) made = tt
made_few n too_long made = tt

few_undrawn : (v : Ruling) (c : Items) (from left : EntropySeen) (wanted : Wanted) → AreFew v
    → AnswerIs v c from left (answers.Undrawn wanted) → 16 * wanted.draws < 2 ^ 64
few_undrawn (makes plan) c from left wanted few is = omega (arith, few, ap (λ (w : Wanted). w.draws) is.1)
few_undrawn (refused r) c from left wanted few is = absurd is
few_undrawn too_long c from left wanted few is = absurd is

pub counted : (v : Ruling) (c : Items) (from left : EntropySeen) (answer : Answer) → AreFew v
    → AnswerIs v c from left answer → AreCounted answer
counted v c from left (answers.Made output) few is = tt
counted v c from left (answers.Refused r) few is = tt
counted v c from left answers.TooLong few is = tt
counted v c from left (answers.Undrawn wanted) few is = few_undrawn v c from left wanted few is
counted v c from left answers.Memory few is = tt

-- ---- one value

pub few_refusal : (o : Option Refusal) (v : Ruling) → AreFew v → AreFew (by_refusal o v)
few_refusal (Some r) v few = tt
few_refusal None v few = few

few_within : (over : Bool) (plan : Plan) → plan.draws ≤ 1 → AreFew (if over then too_long else makes plan)
few_within true plan few = tt
few_within false plan few = omega (arith, few)

few_under : (found : Result Found Reason) (algorithm : Algorithm) (name : List ℕ) (t : Tree)
    → AreFew (value_under found algorithm name t)
few_under (Ok found) algorithm name t =
    let plan = value_plan found algorithm name t in
    few_within (nat_lt 48000000 plan.size) plan (one_draw algorithm)
few_under (Err reason) algorithm name t = tt

few_only : (found : Result Found Reason) (algorithm : Algorithm) (d : Items) → AreFew (only_ruling found algorithm d)
few_only found algorithm no_items = tt
few_only found algorithm (item name t no_items) =
    few_refusal (refused_at (4 + (2 + length name)) (value_reason algorithm t)) (value_under found algorithm name t)
    (few_under found algorithm name t)
few_only found algorithm (item name t (item other u is)) = tt

pub value_few : (keys : Finder) (need : Need) (algorithm : Algorithm) (d : Items)
    → AreFew (value_ruling keys need algorithm d)
unfolding value_ruling
value_few keys need algorithm d = few_only (keys need) algorithm d
