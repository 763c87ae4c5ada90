-- A key document is told by what it comes to, with the first of the blocks handed in.
use Rattle.std.proofs.Common.{◌≡◌, ◌∙◌, ◌+◌, ◌-◌, ◌*◌, ◌/◌, ◌<◌, ◌≤◌, ◌++◌, nat_lt, ℕ, zero, suc, Bool, true, false}
use Rattle.std.proofs.Common.{List, [], length, take, drop, Option, Result, Ok, Err, Vec, Global, refl, sym, ap, subst}
use Rattle.std.proofs.Common.{arith, inl, inr, length-append}
use Rattle.std.specs.Prelude.{unwrap_or}
use Rattle.std.proofs.Math.Seq.{take-append_seam}
use Rattle.std.proofs.lemmas.Bool.Decides.{nat_tests}
use Rattle.fle_outside.specs.Blocks.{Block}
use Rattle.fle_outside.specs.Seen.{EntropySeen}
use Rattle.fle_engine.specs.KeyRulings.{KeyAnswerIs, KeyRuling, WantsFew, makes_key, stops}
use Rattle.fle_engine.specs.declared.answer.Wanted.{Wanted}
use Rattle.fle_engine.specs.declared.key_stop.KeyStop.{KeyStop}
use Rattle.fle_engine.specs.declared.key_stop.KeyStop.TheVariants as key_stops
use Rattle.fle_stream.specs.Plan.{Plan}
use Rattle.local_kms.specs.Drawn.{Made}
use Rattle.fle_c.specs.Blocks.{blocks_in, first_blocks, handed_seen}
use Rattle.fle_c.specs.Calls.{Tells}
use Rattle.fle_c.specs.Keys.{Drawn, FewBlocks, KeyTold, RulesKey, ShowsKey, Writes, stop_told}
use Rattle.fle_c.specs.Telling.{random_wanted}
use Rattle.fle_c.specs.declared.told.Told.{Told}

-- ---- how many blocks bytes are

count_first : (n : ℕ) (bytes : List ℕ) → length (first_blocks n bytes) ≡ n
count_first zero bytes = refl
count_first (suc n) bytes = ap (λ (k : ℕ). suc k) (count_first n (drop 16 bytes))

blocks_count : (bytes : List ℕ) → length (blocks_in bytes) ≡ length bytes / 16
unfolding blocks_in
blocks_count bytes = count_first (length bytes / 16) bytes

-- ---- a document that was made

drawn_of : (enough : Bool) (plan : Plan) (all : List Block) (before after : List ℕ) (told : Told) → enough ≡ false
    → Writes (16 * plan.draws) (plan.bytes (take plan.draws all)) before after told
    → Drawn enough plan all before after told
drawn_of enough plan all before after told is writes =
    subst (λ (b : Bool). Drawn b plan all before after told) (sym is) writes

made_told_by : (plan : Plan) (blocks left : List ℕ) (faults : ℕ) (output : Vec ℕ Global) (before after : List ℕ)
    (told : Told) → Made (handed_seen blocks 0) (handed_seen left faults) plan.draws plan.bytes output.items
    → Writes (16 * (length blocks / 16 - length left / 16)) output.items before after told
    → RulesKey (makes_key plan) (blocks_in blocks) before after told
made_told_by plan blocks left faults output before after told made writes =
    let first = made.draws.first (blocks_in blocks) refl in
    let rest : blocks_in left ≡ first.0 = ap (λ (o : Option (List Block)). unwrap_or o []) first.2 in
    let number : length made.blocks ≡ plan.draws = made.number in
    let all : length (blocks_in blocks) ≡ length made.blocks + length first.0 =
    ap length first.1 ∙ length-append made.blocks first.0 in
    let used : 16 * (length blocks / 16 - length left / 16) ≡ 16 * plan.draws =
    omega (arith, number, all, ap length rest, blocks_count blocks, blocks_count left) in
    let enough : nat_lt (length (blocks_in blocks)) plan.draws ≡ false =
    (let le : plan.draws ≤ length (blocks_in blocks) = omega (arith, number, all) in grind (arith, nat_tests)) in
    let front : made.blocks ≡ take plan.draws (blocks_in blocks) =
    sym (ap (λ (bs : List Block). take plan.draws bs) first.1
    ∙ ap (λ (n : ℕ). take n (made.blocks ++ first.0)) (sym number) ∙ take-append_seam made.blocks first.0) in
    let bytes : output.items ≡ plan.bytes (take plan.draws (blocks_in blocks)) =
    made.is ∙ ap (λ (bs : List Block). plan.bytes bs) front in
    drawn_of (nat_lt (length (blocks_in blocks)) plan.draws) plan (blocks_in blocks) before after told enough
    (subst (λ (n : ℕ). Writes n (plan.bytes (take plan.draws (blocks_in blocks))) before after told) used
    (subst (λ (bs : List ℕ). Writes (16 * (length blocks / 16 - length left / 16)) bs before after told) bytes writes))

-- ---- why there is none

short_told_by : (plan : Plan) (blocks : List ℕ) (wanted : Wanted) (before after : List ℕ) (told : Told)
    → length (blocks_in blocks) < plan.draws → wanted ≡ record { size = plan.size; draws = plan.draws }
    → Tells (random_wanted wanted.size (16 * wanted.draws)) before after told
    → RulesKey (makes_key plan) (blocks_in blocks) before after told
short_told_by plan blocks wanted before after told short is tells =
    let few : nat_lt (length (blocks_in blocks)) plan.draws ≡ true = grind (arith, nat_tests) in
    subst (λ (b : Bool). Drawn b plan (blocks_in blocks) before after told) (sym few)
    (subst (λ (w : Wanted). Tells (random_wanted w.size (16 * w.draws)) before after told) is tells)

stop_told_by : (why told_why : KeyStop) (blocks : List Block) (before after : List ℕ) (told : Told) → why ≡ told_why
    → Tells (stop_told told_why) before after told → RulesKey (stops why) blocks before after told
stop_told_by why told_why blocks before after told is tells =
    subst (λ (w : KeyStop). Tells (stop_told w) before after told) (sym is) tells

pub key_told : (v : KeyRuling) (blocks left : List ℕ) (faults : ℕ) (answer : Result (Vec ℕ Global) KeyStop)
    (before after : List ℕ) (told : Told) → KeyAnswerIs v (handed_seen blocks 0) (handed_seen left faults) answer
    → ShowsKey answer (length blocks) (length left) before after told → KeyTold v (blocks_in blocks) before after told
key_told (makes_key plan) blocks left faults (Ok output) before after told is shows =
    inl (made_told_by plan blocks left faults output before after told is.0 shows)
key_told (makes_key plan) blocks left faults (Err (key_stops.Undrawn wanted)) before after told is shows =
    inl (short_told_by plan blocks wanted before after told is.0 is.1 shows)
key_told (makes_key plan) blocks left faults (Err key_stops.Memory) before after told is shows = inr shows
key_told (makes_key plan) blocks left faults (Err (key_stops.Faulty fault)) before after told is shows = absurd is
key_told (makes_key plan) blocks left faults (Err key_stops.Damaged) before after told is shows = absurd is
key_told (makes_key plan) blocks left faults (Err key_stops.Names) before after told is shows = absurd is
key_told (stops why) blocks left faults (Ok output) before after told is shows = absurd is
key_told (stops why) blocks left faults (Err (key_stops.Undrawn wanted)) before after told is shows = absurd is
key_told (stops why) blocks left faults (Err key_stops.Memory) before after told is shows = inr shows
key_told (stops why) blocks left faults (Err (key_stops.Faulty fault)) before after told is shows =
    inl (stop_told_by why (key_stops.Faulty fault) (blocks_in blocks) before after told is shows)
key_told (stops why) blocks left faults (Err key_stops.Damaged) before after told is shows =
    inl (stop_told_by why key_stops.Damaged (blocks_in blocks) before after told is shows)
key_told (stops why) blocks left faults (Err key_stops.Names) before after told is shows =
    inl (stop_told_by why key_stops.Names (blocks_in blocks) before after told is shows)

-- what is wanted can be counted
pub few_blocks : (why : KeyStop) → WantsFew (Err why) → FewBlocks why
few_blocks (key_stops.Faulty fault) few = tt
few_blocks key_stops.Damaged few = tt
few_blocks key_stops.Names few = tt
few_blocks (key_stops.Undrawn wanted) few = few
few_blocks key_stops.Memory few = tt
