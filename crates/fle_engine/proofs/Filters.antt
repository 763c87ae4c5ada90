-- What a command, or a document, comes to whose keys are asked for, by what its states answer.
use Rattle.std.proofs.Common.{◌≡◌, ◌∙◌, ℕ, true, List, [], map, Option, None, Ok, Err, Vec, Global}
use Rattle.std.proofs.Common.{refl, sym, ap, subst}
use Rattle.bson_codec.specs.Borrowed.{At}
use Rattle.bson_tree.specs.Tree.{Items}
use Rattle.command_marker.specs.Commands.{passes}
use Rattle.command_marker.proofs.Unmarked.{passing_roles}
use Rattle.context_machine.specs.Asks.{filter_of}
use Rattle.context_machine.specs.Decrypting.{IsMisshapen}
use Rattle.context_machine.specs.Kept.{unmet}
use Rattle.context_machine.specs.Needs.{NeedAt, first_needs}
use Rattle.context_machine.specs.Ready.{values_of}
use Rattle.context_machine.specs.Rings.{need_at, needs_in, needs_of}
use Rattle.context_machine.specs.States.{Asks, Opens, Waits}
use Rattle.context_machine.specs.Waiting.{IsRefusal, wanted_of}
use Rattle.data_key.specs.declared.key_doc.KeyDoc.{KeyDoc}
use Rattle.doc_rewrite.specs.Founds.{payloads_of}
use Rattle.doc_rewrite.specs.Opened.{first_wrong, misshapen}
use Rattle.doc_rewrite.specs.Sites.{draws_of, sites_of}
use Rattle.encrypt_schema.specs.Commands.Targets.{rows_in, rows_of}
use Rattle.encrypt_schema.specs.Commands.Visits.{Refusal, content_verdict, roles}
use Rattle.encrypt_schema.specs.Language.Collection.{Collection}
use Rattle.encrypt_schema.specs.Language.Row.{Row}
use Rattle.encrypt_schema.specs.declared.command.marks.Mark.{Mark}
use Rattle.encrypt_schema.specs.declared.command.marks.MarkFault.{MarkFault}
use Rattle.encrypt_schema.specs.declared.command.marks.MarkFault.TheVariants as faults
use Rattle.fle_outside.specs.Seen.{EntropySeen}
use Rattle.fle_outside.proofs.Drawings.{draws_none}
use Rattle.fle_engine.specs.Answers.{AnswerIs}
use Rattle.fle_engine.specs.Asked.{TellsDraws, asks, command_draws, filter_ruling, keys_ruling, payloads_ruling}
use Rattle.fle_engine.specs.Rulings.{Ruling, Tells, at_front, by_refusal, contents_with}
use Rattle.fle_engine.specs.Starting.{StartsAs}
use Rattle.fle_engine.specs.declared.answer.Answer.{Answer}
use Rattle.fle_engine.specs.declared.answer.Answer.TheVariants as answers
use Rattle.fle_engine.specs.declared.starting.Started.TheVariants as starts
use Rattle.fle_engine.proofs.Rulings.{passed_with}
use Rattle.fle_engine.proofs.Seals.{front_is}

-- the filter is made
pub filter_made : (keys : List KeyDoc) (ns : List NeedAt) (c : Items) (output : Vec ℕ Global) (e : EntropySeen)
    → output.items ≡ filter_of (unmet keys ns) → AnswerIs (filter_ruling keys ns) c e e (answers.Made output)
filter_made keys ns c output e is = ([], refl, draws_none e, is, refl)

-- ---- a command

-- one that passes needs no key
pub passing_asked : (keys : List KeyDoc) (infos : List Collection) (db : List ℕ) (c : Items) (output : Vec ℕ Global)
    (e : EntropySeen) → passes c ≡ true → output.items ≡ []
    → AnswerIs (keys_ruling keys infos db c) c e e (answers.Made output)
unfolding keys_ruling
passing_asked keys infos db c output e passing none =
    let rows = rows_of infos c in
    let is = passed_with (asks keys) db infos c passing
    ∙ ap (λ (ms : List Mark). filter_ruling keys (first_needs (map need_at (sites_of rows (at_front c) ms))))
    (passing_roles rows 0 c passing) in
    subst (λ (v : Ruling). AnswerIs v c e e (answers.Made output)) (sym is) ([], refl, draws_none e, none, refl)

-- one whose contents aren't refused needs the keys of its values
pub contents_asked : (keys : List KeyDoc) (a : Asks) (w : Waits) (answer : Answer) (e : EntropySeen)
    → a.command.start ≡ 0 → w ≡ record { command = a.command; info = a.info; kept = [] }
    → content_verdict (rows_in a.info) a.command.start a.command.tree ≡ None
    → AnswerIs (filter_ruling keys (wanted_of w.info w.command)) a.command.tree e e answer
    → AnswerIs (contents_with (asks keys) (rows_in a.info) a.command.tree) a.command.tree e e answer
contents_asked keys a w answer e whole waits accepted answered =
    let rows = rows_in a.info in
    let c = a.command.tree in
    let is : contents_with (asks keys) rows c ≡ filter_ruling keys (wanted_of w.info w.command) =
    ap (λ (r : Option Refusal). by_refusal r (asks keys rows c))
    (ap (λ (n : ℕ). content_verdict rows n c) (sym whole) ∙ accepted)
    ∙ (ap (λ (d : At). filter_ruling keys (first_needs (needs_of rows d))) (sym (front_is a.command whole))
    ∙ sym (ap (λ (x : Waits). filter_ruling keys (wanted_of x.info x.command)) waits)) in
    subst (λ (v : Ruling). AnswerIs v c e e answer) (sym is) answered

-- it is to be marked under the rules of its collection
pub marking_asked : (keys : List KeyDoc) (infos : List Collection) (db : List ℕ) (command : At) (state : Asks)
    (a : Answer) (e : EntropySeen) → StartsAs infos db command (Ok (starts.Marking state))
    → AnswerIs (contents_with (asks keys) (rows_in state.info) state.command.tree) state.command.tree e e a
    → AnswerIs (keys_ruling keys infos db command.tree) command.tree e e a
unfolding keys_ruling
marking_asked keys infos db command state a e start answered =
    subst (λ (v : Ruling). AnswerIs v command.tree e e a) (sym (start.1 (asks keys)))
    (subst (λ (d : At). AnswerIs (contents_with (asks keys) (rows_in state.info) d.tree) d.tree e e a) start.0
    answered)

-- its fields or its collection are refused
pub refused_asked : (keys : List KeyDoc) (infos : List Collection) (db : List ℕ) (command : At) (fault : MarkFault)
    → StartsAs infos db command (Err fault) → Tells fault (keys_ruling keys infos db command.tree)
unfolding keys_ruling
refused_asked keys infos db command fault start = start (asks keys)

-- its contents are refused
pub contents_unasked : (keys : List KeyDoc) (rows : List Row) (command : At) (fault : MarkFault) → command.start ≡ 0
    → IsRefusal (content_verdict rows command.start command.tree) fault
    → Tells fault (contents_with (asks keys) rows command.tree)
contents_unasked keys rows command (faults.Refused reason at) whole is =
    ap (λ (r : Option Refusal). by_refusal r (asks keys rows command.tree))
    (ap (λ (n : ℕ). content_verdict rows n command.tree) (sym whole) ∙ is)
contents_unasked keys rows command faults.Memory whole is = tt

-- ---- its blocks

-- the blocks of a command's values, wherever it stands
abbrev drawn_at : List Row → At → ℕ
drawn_at rows d = draws_of (sites_of rows d (roles rows d.start d.tree))

-- one that passes draws none
pub passing_draws : (rows : List Row) (c : Items) → passes c ≡ true → 0 ≡ command_draws rows c
passing_draws rows c passing =
    sym (ap (λ (ms : List Mark). draws_of (sites_of rows (at_front c) ms)) (passing_roles rows 0 c passing))

-- one that is marked under these rules draws them for its values
pub draws_told : (infos : List Collection) (command : At) (state : Asks) (a : Answer) (told : ℕ)
    → command.start ≡ 0 → state.command ≡ command → rows_of infos command.tree ≡ rows_in state.info
    → TellsDraws (draws_of (values_of state.info state.command)) a told
    → TellsDraws (command_draws (rows_of infos command.tree) command.tree) a told
draws_told infos command state a told whole here rules tells =
    let is : draws_of (values_of state.info state.command) ≡ command_draws (rows_of infos command.tree) command.tree =
    ap (λ (rows : List Row). drawn_at rows state.command) (sym rules)
    ∙ (ap (drawn_at (rows_of infos command.tree)) here
    ∙ ap (drawn_at (rows_of infos command.tree)) (front_is command whole)) in
    subst (λ (n : ℕ). TellsDraws n a told) is tells

-- one that is marked draws them for the values of its collection's rules
pub marking_draws : (infos : List Collection) (db : List ℕ) (command : At) (state : Asks) (a : Answer) (told : ℕ)
    → command.start ≡ 0 → StartsAs infos db command (Ok (starts.Marking state))
    → TellsDraws (draws_of (values_of state.info state.command)) a told
    → TellsDraws (command_draws (rows_of infos command.tree) command.tree) a told
marking_draws infos db command state a told whole start tells =
    draws_told infos command state a told whole start.0 start.2 tells

-- ---- a document

-- one whose payloads have the lengths of payloads needs their keys
pub payloads_asked : (keys : List KeyDoc) (d : At) (w : Opens) (answer : Answer) (e : EntropySeen) → d.start ≡ 0
    → w ≡ record { document = d; kept = [] } → first_wrong misshapen (payloads_of d) ≡ None
    → AnswerIs (filter_ruling keys (first_needs (needs_in w.document))) d.tree e e answer
    → AnswerIs (payloads_ruling keys d.tree) d.tree e e answer
unfolding payloads_ruling
payloads_asked keys d w answer e whole is shaped answered =
    let front = sym (front_is d whole) in
    let same : payloads_ruling keys d.tree ≡ filter_ruling keys (first_needs (needs_in w.document)) =
    ap (λ (x : At). by_refusal (first_wrong misshapen (payloads_of x)) (filter_ruling keys (first_needs (needs_in x))))
    front
    ∙ (ap (λ (r : Option Refusal). by_refusal r (filter_ruling keys (first_needs (needs_in d)))) shaped
    ∙ ap (λ (x : Opens). filter_ruling keys (first_needs (needs_in x.document))) (sym is)) in
    subst (λ (v : Ruling). AnswerIs v d.tree e e answer) (sym same) answered

-- a payload has a length that none has
pub misshapen_asked : (keys : List KeyDoc) (d : At) (fault : MarkFault) → d.start ≡ 0 → IsMisshapen d fault
    → Tells fault (payloads_ruling keys d.tree)
unfolding payloads_ruling
misshapen_asked keys d (faults.Refused reason at) whole is =
    ap (λ (x : At). by_refusal (first_wrong misshapen (payloads_of x)) (filter_ruling keys (first_needs (needs_in x))))
    (sym (front_is d whole))
    ∙ ap (λ (r : Option Refusal). by_refusal r (filter_ruling keys (first_needs (needs_in d)))) is
misshapen_asked keys d faults.Memory whole is = tt
