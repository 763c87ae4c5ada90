-- How much a sealed command may want, by its length.
use Rattle.std.proofs.Common.{◌≡◌, ℕ, suc, min, ◌+◌, ◌-◌, ◌*◌, ◌/◌, ◌≤◌, nat_lt, if◌then◌else◌, Bool, true, false}
use Rattle.std.proofs.Common.{Option, Some, None, List, [], ◌∷◌, length, refl, sym, ap, subst, arith}
use Rattle.std.proofs.lemmas.Bool.Decides.{nat_tests}
use Rattle.bson_tree.specs.Spelling.{doc_bytes}
use Rattle.bson_tree.specs.Tree.{Items}
use Rattle.context_machine.specs.Rings.{Finder, first_keyless, needs_of}
use Rattle.bson_codec.specs.Borrowed.{At}
use Rattle.doc_rewrite.specs.Sites.{Site, draw, draws_of, grown, sealed_width, sites_of}
use Rattle.encrypt_schema.proofs.Commands.Taken.{few_roles}
use Rattle.clear_commands.specs.ClearNames.{is_clear}
use Rattle.clear_commands.specs.ClearVerdicts.{clear_verdict}
use Rattle.encrypt_schema.specs.Commands.More.{more_verdict}
use Rattle.encrypt_schema.specs.Commands.Targets.{rows_of, verdict}
use Rattle.encrypt_schema.specs.Commands.Visits.{Refusal, roles}
use Rattle.encrypt_schema.specs.Language.Collection.{Collection}
use Rattle.encrypt_schema.specs.Language.Row.{Row}
use Rattle.encrypt_schema.specs.declared.command.marks.Mark.{Mark}
use Rattle.encrypt_schema.specs.declared.schema.policy.Algorithm.{Algorithm}
use Rattle.encrypt_schema.specs.declared.schema.policy.Algorithm.TheVariants.{Deterministic, Random}
use Rattle.fle_client.specs.CommandSets.{draws_by, seal_by}
use Rattle.fle_client.specs.declared.commands.CommandSet.{CommandSet}
use Rattle.fle_client.specs.declared.commands.CommandSet.TheVariants as sets
use Rattle.fle_engine.specs.Asked.{command_draws}
use Rattle.fle_engine.specs.Rulings.{Ruling, at_front, by_refusal, makes, plain_plan, sized_plan, refused, too_long}
use Rattle.fle_engine.specs.Sealing.{seal_ruling, seal_under, sealed_plan}
use Rattle.fle_engine.specs.More.{more_ruling}
use Rattle.fle_engine.specs.Wide.{wide_ruling}
use Rattle.fle_stream.specs.Plan.{Plan}

-- a value draws a block at most
pub one_draw : (a : Algorithm) → draw a ≤ 1
one_draw Deterministic = omega arith
one_draw Random = omega arith

few_draws : (ss : List Site) → draws_of ss ≤ length ss
few_draws [] = omega arith
few_draws (s ∷ ss) = omega (arith, one_draw s.algorithm, few_draws ss)

-- a value grows by at most 87 bytes
grows : (w : ℕ) → sealed_width w - w ≤ 87
grows w = omega arith

small_growth : (ss : List Site) → grown ss ≤ 87 * length ss
small_growth [] = omega arith
small_growth (s ∷ ss) = omega (arith, grows (s.end - s.start), small_growth ss)

as_many : (rows : List Row) (d : At) (ms : List Mark) → length (sites_of rows d ms) ≡ length ms
as_many rows d [] = refl
as_many rows d (m ∷ ms) = ap (λ (n : ℕ). suc n) (as_many rows d ms)

-- each grows by at least 72
each_grows : (w : ℕ) → 72 ≤ sealed_width w - w
each_grows w = omega arith

great_growth : (ss : List Site) → 72 * length ss ≤ grown ss
great_growth [] = omega arith
great_growth (s ∷ ss) = omega (arith, each_grows (s.end - s.start), great_growth ss)

-- how much a plan for a command of at most so many bytes is, whatever its length
record Grows (n : ℕ) (plan : Plan) : Type 0 where
  pub room : plan.size ≤ n + 87 * ((n - 4) / 2)
  pub draws : plan.draws ≤ (n - 4) / 2
  pub each : 72 * plan.draws ≤ plan.size

-- what a plan may want for a command of at most so many bytes
pub record Wants (n : ℕ) (plan : Plan) : Type 0 where
  pub room : plan.size ≤ n + 87 * ((n - 4) / 2)
  pub most : plan.size ≤ 48000000
  pub draws : plan.draws ≤ (n - 4) / 2
  pub few : plan.draws ≤ 666666

half : (n m marks : ℕ) → m ≤ n → 4 + 2 * marks ≤ m → marks ≤ (n - 4) / 2
half n m marks le few = omega (arith, le, few)

grows_at : (keys : Finder) (rows : List Row) (c : Items) (n : ℕ) → length (doc_bytes c) ≤ n
    → Grows n (sealed_plan keys (sites_of rows (at_front c) (roles rows 0 c)) c)
grows_at keys rows c n le =
    let ss = sites_of rows (at_front c) (roles rows 0 c) in
    let count : length ss ≤ (n - 4) / 2 =
    subst (λ (k : ℕ). k ≤ (n - 4) / 2) (sym (as_many rows (at_front c) (roles rows 0 c)))
    (half n (length (doc_bytes c)) (length (roles rows 0 c)) le (few_roles rows 0 c)) in
    record {
      room = omega (arith, le, count, small_growth ss);
      draws = omega (arith, count, few_draws ss);
      each = omega (arith, few_draws ss, great_growth ss);
    }

-- a command draws no more blocks than it has values, of two bytes each at least beside their own
few_values : (rows : List Row) (c : Items) → 2 * command_draws rows c ≤ length (doc_bytes c)
few_values rows c =
    let ss = sites_of rows (at_front c) (roles rows 0 c) in
    omega (arith, few_draws ss, as_many rows (at_front c) (roles rows 0 c), few_roles rows 0 c)

-- a clear one draws none
few_cleared : (clear : Bool) (n length : ℕ) → 2 * n ≤ length → 2 * (if clear then 0 else n) ≤ length
few_cleared true n length few = omega arith
few_cleared false n length few = few

pub few_by_set : (set : CommandSet) (infos : List Collection) (c : Items)
    → 2 * draws_by set infos c ≤ length (doc_bytes c)
few_by_set sets.Four infos c = few_values (rows_of infos c) c
few_by_set sets.More infos c =
    few_cleared (is_clear c) (command_draws (rows_of infos c) c) (length (doc_bytes c)) (few_values (rows_of infos c) c)

-- where a plan is made of one, it is that one
abbrev pub Made : ℕ → Ruling → Type 0
Made n (makes plan) = Wants n plan
Made n (refused r) = Unit {0}
Made n too_long = Unit {0}

made_refusal : (n : ℕ) (o : Option Refusal) (v : Ruling) → Made n v → Made n (by_refusal o v)
made_refusal n (Some r) v made = tt
made_refusal n None v made = made

at_most : (n : ℕ) → nat_lt 48000000 n ≡ false → n ≤ 48000000
at_most n within = grind (arith, nat_tests)

made_within : (n : ℕ) (over : Bool) (plan : Plan) → nat_lt 48000000 plan.size ≡ over → Grows n plan
    → Made n (if over then too_long else makes plan)
made_within n true plan is grows = tt
made_within n false plan is grows =
    let most = at_most plan.size is in
    record { room = grows.room; most = most; draws = grows.draws; few = omega (arith, most, grows.each) }

-- whatever refuses it
made_behind : (refusal : Option Refusal) (keys : Finder) (rows : List Row) (c : Items) (n : ℕ)
    → length (doc_bytes c) ≤ n → Made n (by_refusal refusal (seal_under keys rows c))
made_behind refusal keys rows c n le =
    let plan = sealed_plan keys (sites_of rows (at_front c) (roles rows 0 c)) c in
    made_refusal n refusal (seal_under keys rows c)
    (made_refusal n (first_keyless keys (needs_of rows (at_front c))) (sized_plan plan)
    (made_within n (nat_lt 48000000 plan.size) plan refl (grows_at keys rows c n le)))

-- a command that stays as it is
plain_grows : (bytes : List ℕ) (n : ℕ) → length bytes ≤ n → Grows n (plain_plan bytes)
plain_grows bytes n le = record { room = omega (arith, le); draws = omega arith; each = omega arith }

-- a clear one stays so; any other is judged
made_cleared : (clear : Bool) (refusal : Option Refusal) (judged : Ruling) (c : Items) (n : ℕ)
    → length (doc_bytes c) ≤ n → Made n judged
    → Made n (if clear then by_refusal refusal (sized_plan (plain_plan (doc_bytes c))) else judged)
made_cleared true refusal judged c n le made =
    let plan = plain_plan (doc_bytes c) in
    made_refusal n refusal (sized_plan plan)
    (made_within n (nat_lt 48000000 plan.size) plan refl (plain_grows (doc_bytes c) n le))
made_cleared false refusal judged c n le made = made

made_under : (set : CommandSet) (keys : Finder) (infos : List Collection) (db : List ℕ) (c : Items) (n : ℕ)
    → length (doc_bytes c) ≤ n → Made n (seal_by set keys infos db c)
unfolding seal_ruling more_ruling wide_ruling
made_under sets.Four keys infos db c n le = made_behind (verdict db infos 0 c) keys (rows_of infos c) c n le
made_under sets.More keys infos db c n le =
    made_cleared (is_clear c) (clear_verdict 0 c) (more_ruling keys infos db c) c n le
    (made_behind (more_verdict db infos 0 c) keys (rows_of infos c) c n le)

-- what the command of these bytes wants, if it is sealed
pub made_by : (set : CommandSet) (keys : Finder) (infos : List Collection) (db : List ℕ) (c : Items) (bytes : List ℕ)
    → bytes ≡ doc_bytes c → Made (length bytes) (seal_by set keys infos db c)
made_by set keys infos db c bytes spelled =
    made_under set keys infos db c (length bytes) (omega (arith, ap length spelled))

-- what a command of at most so many bytes wants, if it is sealed
pub wants_of : (n : ℕ) (set : CommandSet) (keys : Finder) (infos : List Collection) (db : List ℕ) (c : Items)
    (plan : Plan) → length (doc_bytes c) ≤ n → seal_by set keys infos db c ≡ makes plan → Wants n plan
wants_of n set keys infos db c plan le is =
    subst (λ (v : Ruling). Made n v) is (made_under set keys infos db c n le)

-- what is at most two numbers is at most the least of both
pub below_both : (m size n : ℕ) → n ≡ min size 16777216 → m ≤ size → m ≤ 16777216 → m ≤ n
below_both m size n least below under = omega (arith, least, below, under)

-- the same wants by the number that is left of the length, and by the limits
pub wants_by : (n left room drawn : ℕ) (plan : Plan) → left ≡ n - 4 → room ≡ min (n + 87 * (left / 2)) 48000000
    → drawn ≡ min (left / 2) 666666 → Wants n plan → (plan.size ≤ room) × (16 * plan.draws ≤ 16 * drawn)
wants_by n left room drawn plan is most few wants = (
  omega (arith, is, most, wants.room, wants.most),
  omega (arith, is, few, wants.draws, wants.few),
)

-- they are close to the length
pub close_by : (size n left room drawn : ℕ) → n ≡ min size 16777216 → left ≡ n - 4
    → room ≡ min (n + 87 * (left / 2)) 48000000 → drawn ≡ min (left / 2) 666666
    → (room ≤ 48000000) × (16 * drawn ≤ 16 * 666666) × (room ≤ 45 * size) × (16 * drawn ≤ 8 * size)
close_by size n left room drawn least is most few = (
  omega (arith, most),
  omega (arith, few),
  omega (arith, least, is, most),
  omega (arith, least, is, few),
)
