-- What a command comes to that is to be sealed, by what its states answer.
use Rattle.std.proofs.Common.{◌≡◌, ℕ, ◌+◌, ◌<◌, ◌≤◌, Bool, true, false, cond, nat_lt, List, [], length, map}
use Rattle.std.proofs.Common.{Option, Ok, Err, None, Vec, Global, refl, sym, ap, subst, ◌∙◌, arith}
use Rattle.std.proofs.lemmas.Bool.Decides.{nat_tests}
use Rattle.bson_tree.specs.Spelling.{doc_bytes, items_bytes}
use Rattle.bson_tree.specs.Tree.{Items}
use Rattle.bson_codec.specs.Borrowed.{At}
use Rattle.bson_splice.specs.Splices.{put_at}
use Rattle.bson_splice.proofs.Splices.{same}
use Rattle.command_marker.specs.Commands.{passes}
use Rattle.command_marker.proofs.Unmarked.{passing_roles}
use Rattle.context_machine.specs.Ready.{StopsWaiting, readied, sealed_size, values_of}
use Rattle.context_machine.specs.Rings.{AreOpened, Finder, first_keyless, found_in, need_at, needs_of}
use Rattle.context_machine.specs.States.{Asks, Readied, Waits}
use Rattle.context_machine.specs.declared.opened_keys.KeysStop.{KeysStop}
use Rattle.context_machine.specs.declared.opened_keys.KeysStop.TheVariants as stops
use Rattle.context_machine.proofs.Keyed.{opened_none}
use Rattle.context_machine.proofs.Alike.{table_seals}
use Rattle.doc_rewrite.specs.Keys.{Table, key_in}
use Rattle.doc_rewrite.specs.Sealed.{sealed}
use Rattle.doc_rewrite.specs.Sealing.{FellShort, IsSealedWhole}
use Rattle.doc_rewrite.specs.Sites.{Site, draws_of, grown, sites_of}
use Rattle.encrypt_schema.specs.Commands.Targets.{rows_in, rows_of}
use Rattle.encrypt_schema.specs.Commands.Visits.{Refusal, roles}
use Rattle.encrypt_schema.specs.Language.Collection.{Collection}
use Rattle.encrypt_schema.specs.Language.Row.{Row}
use Rattle.encrypt_schema.specs.declared.command.marks.Mark.{Mark}
use Rattle.encrypt_schema.specs.declared.command.marks.MarkFault.{MarkFault}
use Rattle.fle_outside.specs.Blocks.{Block}
use Rattle.fle_outside.specs.Seen.{EntropySeen}
use Rattle.fle_outside.proofs.Drawings.{draws_none}
use Rattle.fle_stream.specs.Plan.{Plan}
use Rattle.fle_engine.specs.Answers.{AnswerIs}
use Rattle.fle_engine.specs.Rulings.{Ruling, StopsAs, Tells, at_front, by_refusal, makes, sized_plan}
use Rattle.fle_engine.specs.Rulings.{too_long}
use Rattle.fle_engine.specs.Sealing.{seal_contents, seal_ruling, seal_under, sealed_plan, wanted_by}
use Rattle.fle_engine.specs.Starting.{StartsAs}
use Rattle.fle_engine.specs.declared.answer.Answer.{Answer}
use Rattle.fle_engine.specs.declared.answer.Answer.TheVariants as answers
use Rattle.fle_engine.specs.declared.answer.Wanted.{Wanted}
use Rattle.fle_engine.specs.declared.starting.Started.TheVariants as starts
use Rattle.fle_engine.proofs.Rulings.{passed_with}

-- a document of the stream stands at its front
pub front_is : (d : At) → d.start ≡ 0 → d ≡ at_front d.tree
front_is d whole = ap (λ (n : ℕ). record { start = n; tree = d.tree }) whole

-- ---- a command that passes

-- values put in nowhere change nothing
sealed_nowhere : (keys : Finder) (c : Items) → sealed (found_in keys) [] [] (at_front c) ≡ c
unfolding sealed
sealed_nowhere keys c = same (put_at []) (4 + length (items_bytes c)) (λ q u most. refl) 4 c (omega arith)

within : (n : ℕ) → n ≤ 48000000 → nat_lt 48000000 n ≡ false
within n few = grind (arith, nat_tests)

sized_is : (plan : Plan) → plan.size ≤ 48000000 → sized_plan plan ≡ makes plan
sized_is plan few = ap (λ (b : Bool). cond b too_long (makes plan)) (within plan.size few)

sized_over : (plan : Plan) → 48000000 < plan.size → sized_plan plan ≡ too_long
sized_over plan many =
    let over : nat_lt 48000000 plan.size ≡ true = grind (arith, nat_tests) in
    ap (λ (b : Bool). cond b too_long (makes plan)) over

-- what a command comes to that isn't refused, by its marks
abbrev by_marks : Finder → List Row → Items → List Mark → Ruling
by_marks keys rows c ms =
    by_refusal (first_keyless keys (map need_at (sites_of rows (at_front c) ms))) (sized_plan
    (sealed_plan keys (sites_of rows (at_front c) ms) c))

passed_is : (keys : Finder) (rows : List Row) (c : Items) → passes c ≡ true → length (doc_bytes c) ≤ 48000000
    → seal_under keys rows c ≡ makes (sealed_plan keys [] c)
passed_is keys rows c passing few =
    ap (by_marks keys rows c) (passing_roles rows 0 c passing)
    ∙ sized_is (sealed_plan keys [] c) (omega (arith, few))

pub passed_made : (keys : Finder) (rows : List Row) (c : Items) (output : Vec ℕ Global) (e : EntropySeen)
    → passes c ≡ true → length (doc_bytes c) ≤ 48000000 → output.items ≡ doc_bytes c
    → AnswerIs (seal_under keys rows c) c e e (answers.Made output)
passed_made keys rows c output e passing few is =
    let whole = ap doc_bytes (sealed_nowhere keys c) in
    subst (λ (v : Ruling). AnswerIs v c e e (answers.Made output)) (sym (passed_is keys rows c passing few))
    ([], refl, draws_none e, is ∙ sym whole, ap length whole ∙ omega arith)

pub passed_over : (keys : Finder) (rows : List Row) (c : Items) (e : EntropySeen)
    → passes c ≡ true → 48000000 < length (doc_bytes c) → AnswerIs (seal_under keys rows c) c e e answers.TooLong
passed_over keys rows c e passing many =
    let is : seal_under keys rows c ≡ too_long =
    ap (by_marks keys rows c) (passing_roles rows 0 c passing)
    ∙ sized_over (sealed_plan keys [] c) (omega (arith, many)) in
    subst (λ (v : Ruling). AnswerIs v c e e answers.TooLong) (sym is) (draws_none e)

-- ---- its contents

-- ---- its keys

-- the values of a command whose offsets are from 0
abbrev front_sites : Option Collection → Items → List Site
front_sites info c = sites_of (rows_in info) (at_front c) (roles (rows_in info) 0 c)

sites_at : (info : Option Collection) (command : At) → command.start ≡ 0
    → values_of info command ≡ front_sites info command.tree
sites_at info command whole =
    ap (λ (d : At). sites_of (rows_in info) d (roles (rows_in info) d.start d.tree)) (front_is command whole)

needs_at : (rows : List Row) (command : At) → command.start ≡ 0
    → needs_of rows (at_front command.tree) ≡ needs_of rows command
needs_at rows command whole = ap (needs_of rows) (sym (front_is command whole))

abbrev sealing_of : Finder → Option Collection → Items → Plan
sealing_of keys info c = sealed_plan keys (front_sites info c) c

-- each value has its key, and the sealed command isn't too long
keys_had : (keys : Finder) (info : Option Collection) (command : At) (table : Table) → command.start ≡ 0
    → AreOpened keys (needs_of (rows_in info) command) table → sealed_size info command ≤ 48000000
    → seal_under keys (rows_in info) command.tree ≡ makes (sealing_of keys info command.tree)
keys_had keys info command table whole opened few =
    let c = command.tree in
    let none : first_keyless keys (needs_of (rows_in info) (at_front c)) ≡ None =
    ap (first_keyless keys) (needs_at (rows_in info) command whole)
    ∙ opened_none keys table (needs_of (rows_in info) command) opened in
    let size : length (doc_bytes c) + grown (front_sites info c) ≤ 48000000 =
    subst (λ (ss : List Site). length (doc_bytes c) + grown ss ≤ 48000000) (sites_at info command whole) few in
    ap (λ (r : Option Refusal). by_refusal r (sized_plan (sealing_of keys info c))) none
    ∙ sized_is (sealing_of keys info c) size

-- a value's key isn't to be had, or the sealed command is too long
pub keys_stop : (keys : Finder) (w : Waits) (stop : KeysStop) → w.command.start ≡ 0 → StopsWaiting keys w stop
    → StopsAs stop (seal_under keys (rows_in w.info) w.command.tree)
keys_stop keys w (stops.Refused reason at) whole stop =
    ap (λ (r : Option Refusal). by_refusal r (sized_plan (sealing_of keys w.info w.command.tree)))
    (ap (first_keyless keys) (needs_at (rows_in w.info) w.command whole) ∙ stop)
keys_stop keys w stops.TooLong whole stop =
    let c = w.command.tree in
    let plan = sealing_of keys w.info c in
    let size : 48000000 < length (doc_bytes c) + grown (front_sites w.info c) =
    subst (λ (ss : List Site). 48000000 < length (doc_bytes c) + grown ss) (sites_at w.info w.command whole) stop.1 in
    ap (λ (r : Option Refusal). by_refusal r (sized_plan plan))
    (ap (first_keyless keys) (needs_at (rows_in w.info) w.command whole) ∙ stop.0)
    ∙ sized_over plan size
keys_stop keys w stops.Memory whole stop = tt

-- ---- its bytes

-- what `finalize` sealed is what the command comes to
pub sealed_made : (keys : Finder) (info : Option Collection) (command : At) (table : Table)
    (before after : EntropySeen) (bytes : List ℕ) (output : Vec ℕ Global) → command.start ≡ 0
    → AreOpened keys (needs_of (rows_in info) command) table
    → IsSealedWhole (key_in table) (values_of info command) command before after bytes
    → length bytes ≡ sealed_size info command → output.items ≡ bytes
    → AnswerIs (makes (sealing_of keys info command.tree)) command.tree before after (answers.Made output)
sealed_made keys info command table before after bytes output whole opened done long is =
    let ss = values_of info command in
    let c = command.tree in
    let made : output.items ≡ doc_bytes (sealed (found_in keys) ss done.drawn command) =
    is ∙ (done.written ∙ ap doc_bytes (table_seals keys table ss done.drawn command opened)) in
    let fits : AnswerIs (makes (record {
      draws = draws_of ss;
      size = length (doc_bytes c) + grown ss;
      bytes = λ (blocks : List Block). doc_bytes (sealed (found_in keys) ss blocks command);
    })) c before after (answers.Made output) =
    (done.drawn, done.count, done.draws, made, ap length (sym made ∙ is) ∙ long) in
    subst (λ (xs : List Site). AnswerIs (makes (sealed_plan keys xs c)) c before after (answers.Made output))
    (sites_at info command whole)
    (subst (λ (d : At). AnswerIs (makes (record {
      draws = draws_of ss;
      size = length (doc_bytes c) + grown ss;
      bytes = λ (blocks : List Block). doc_bytes (sealed (found_in keys) ss blocks d);
    })) c before after (answers.Made output)) (front_is command whole) fits)

pub sealed_short : (keys : Finder) (info : Option Collection) (command : At) (before after : EntropySeen)
    (wanted : Wanted) → command.start ≡ 0 → FellShort before after (draws_of (values_of info command))
    → wanted ≡ wanted_by info command
    → AnswerIs (makes (sealing_of keys info command.tree)) command.tree before after (answers.Undrawn wanted)
sealed_short keys info command before after wanted whole short is =
    subst (λ (ss : List Site). FellShort before after (draws_of ss)
    × (wanted ≡ record { size = length (doc_bytes command.tree) + grown ss; draws = draws_of ss }))
    (sites_at info command whole) (short, is)

-- ---- the state that is ready

pub keys_sealed : (keys : Finder) (s : Waits) (r : Readied) (before after : EntropySeen) (a : Answer)
    → s.command.start ≡ 0 → r ≡ readied s r.table
    → AreOpened keys (needs_of (rows_in s.info) s.command) r.table → sealed_size s.info s.command ≤ 48000000
    → ((own : Finder) → AreOpened own (needs_of (rows_in r.info) r.command) r.table
    → AnswerIs (makes (sealing_of own r.info r.command.tree)) r.command.tree before after a)
    → AnswerIs (seal_under keys (rows_in s.info) s.command.tree) s.command.tree before after a
keys_sealed keys s r before after a whole ready opened few answered =
    let info : r.info ≡ s.info = ap (λ (x : Readied). x.info) ready in
    let command : r.command ≡ s.command = ap (λ (x : Readied). x.command) ready in
    subst (λ (v : Ruling). AnswerIs v s.command.tree before after a)
    (sym (keys_had keys s.info s.command r.table whole opened few))
    (subst (λ (d : At). AreOpened keys (needs_of (rows_in s.info) d) r.table
    → AnswerIs (makes (sealing_of keys s.info d.tree)) d.tree before after a) command
    (subst (λ (o : Option Collection). AreOpened keys (needs_of (rows_in o) r.command) r.table
    → AnswerIs (makes (sealing_of keys o r.command.tree)) r.command.tree before after a) info (answered keys)) opened)

-- ---- the fields of a command, and its collection

pub passing_sealed : (keys : Finder) (infos : List Collection) (db : List ℕ) (c : Items) (a : Answer) (e : EntropySeen)
    → passes c ≡ true → AnswerIs (seal_under keys (rows_of infos c) c) c e e a
    → AnswerIs (seal_ruling keys infos db c) c e e a
unfolding seal_ruling
passing_sealed keys infos db c a e passing answered =
    subst (λ (v : Ruling). AnswerIs v c e e a) (sym (passed_with (seal_under keys) db infos c passing)) answered

pub marking_sealed : (keys : Finder) (infos : List Collection) (db : List ℕ) (command : At) (state : Asks) (a : Answer)
    (before after : EntropySeen) → StartsAs infos db command (Ok (starts.Marking state))
    → AnswerIs (seal_contents keys (rows_in state.info) state.command.tree) state.command.tree before after a
    → AnswerIs (seal_ruling keys infos db command.tree) command.tree before after a
unfolding seal_ruling
marking_sealed keys infos db command state a before after start answered =
    subst (λ (v : Ruling). AnswerIs v command.tree before after a) (sym (start.1 (seal_under keys)))
    (subst (λ (d : At). AnswerIs (seal_contents keys (rows_in state.info) d.tree) d.tree before after a) start.0
    answered)

pub refused_sealed : (keys : Finder) (infos : List Collection) (db : List ℕ) (command : At) (fault : MarkFault)
    → StartsAs infos db command (Err fault) → Tells fault (seal_ruling keys infos db command.tree)
unfolding seal_ruling
refused_sealed keys infos db command fault start = start (seal_under keys)
