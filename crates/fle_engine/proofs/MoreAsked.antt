-- What a library's command comes to whose info, and whose keys, are asked for.
use Rattle.std.proofs.Common.{◌≡◌, ◌∙◌, ℕ, Bool, true, false, cond, List, [], map, Option, None, Some, Ok, Err, Vec}
use Rattle.std.proofs.Common.{Global, refl, sym, ap, subst}
use Rattle.bson_codec.specs.Borrowed.{At}
use Rattle.bson_tree.specs.Spelling.{doc_bytes}
use Rattle.bson_tree.specs.Tree.{Items}
use Rattle.command_marker.specs.Commands.{collection_in, passes}
use Rattle.command_marker.proofs.Checked.{wide_read}
use Rattle.command_marker.proofs.Unmarked.{passing_roles}
use Rattle.context_machine.specs.Asks.{collection_filter}
use Rattle.context_machine.specs.Beginning.{BeginsMore}
use Rattle.context_machine.specs.Needs.{first_needs}
use Rattle.context_machine.specs.Ready.{values_of}
use Rattle.context_machine.specs.Rings.{need_at, needs_of}
use Rattle.context_machine.specs.States.{Asks, Waits}
use Rattle.context_machine.specs.Waiting.{wanted_of}
use Rattle.context_machine.specs.declared.begun.Begun.TheVariants as begins
use Rattle.data_key.specs.declared.key_doc.KeyDoc.{KeyDoc}
use Rattle.doc_rewrite.specs.Sites.{draws_of, sites_of}
use Rattle.encrypt_schema.specs.Commands.More.{beyond_verdict, target_more_verdict}
use Rattle.encrypt_schema.specs.Commands.Targets.{rows_in, rows_of}
use Rattle.encrypt_schema.specs.Commands.Visits.{Refusal, content_verdict}
use Rattle.encrypt_schema.specs.Language.Collection.{Collection}
use Rattle.encrypt_schema.specs.declared.command.marks.Mark.{Mark}
use Rattle.encrypt_schema.specs.declared.command.marks.MarkFault.{MarkFault}
use Rattle.encrypt_schema.specs.declared.command.marks.MarkFault.TheVariants as faults
use Rattle.fle_outside.specs.Seen.{EntropySeen}
use Rattle.fle_outside.proofs.Drawings.{draws_none}
use Rattle.fle_engine.specs.Answers.{AnswerIs}
use Rattle.fle_engine.specs.Asked.{TellsDraws, asks, command_draws, filter_ruling, info_filter}
use Rattle.fle_engine.specs.Rulings.{Ruling, Tells, at_front, by_refusal, makes, plain_plan}
use Rattle.fle_engine.specs.More.{StartsMore, more_contents, more_info_ruling, more_keys_ruling}
use Rattle.fle_engine.specs.declared.answer.Answer.{Answer}
use Rattle.fle_engine.specs.declared.answer.Answer.TheVariants as answers
use Rattle.fle_engine.specs.declared.starting.Started.TheVariants as starts
use Rattle.fle_engine.proofs.Filters.{draws_told}
use Rattle.fle_engine.proofs.Seals.{front_is}
use Rattle.fle_engine.proofs.MoreAnswers.{contents_accepted, starts_with}
use Rattle.fle_engine.proofs.MoreRulings.{passed_with}

-- ---- its info

-- the filter of a collection's infos is made
abbrev named : Items → Ruling
named c = makes (plain_plan (doc_bytes (collection_filter (collection_in c))))

-- by the verdict on its fields, wherever it stands, and by whether it passes
fields_by : (db : List ℕ) (d : At) (r : Option Refusal) → d.start ≡ 0 → target_more_verdict db d.start d.tree ≡ r
    → more_info_ruling db d.tree ≡ by_refusal r (makes (plain_plan (info_filter d.tree)))
unfolding more_info_ruling
fields_by db d r whole is =
    ap (λ (o : Option Refusal). by_refusal o (makes (plain_plan (info_filter d.tree))))
    (ap (λ (n : ℕ). target_more_verdict db n d.tree) (sym whole) ∙ is)

filter_by : (c : Items) (b : Bool) → passes c ≡ b
    → makes (plain_plan (info_filter c))
    ≡ makes (plain_plan (cond b [] (doc_bytes (collection_filter (collection_in c)))))
filter_by c b is =
    ap (λ (x : Bool). makes (plain_plan (cond x [] (doc_bytes (collection_filter (collection_in c)))))) is

-- one that passes needs none
pub passing_info : (db : List ℕ) (d kept : At) (output : Vec ℕ Global) (e : EntropySeen) → d.start ≡ 0
    → BeginsMore (record { db = db; command = d }) (Ok (begins.Pass kept)) → output.items ≡ []
    → AnswerIs (more_info_ruling db d.tree) d.tree e e (answers.Made output)
passing_info db d kept output e whole begun none =
    subst (λ (v : Ruling). AnswerIs v d.tree e e (answers.Made output))
    (sym (fields_by db d None whole begun.1 ∙ filter_by d.tree true begun.2)) ([], refl, draws_none e, none, refl)

-- one whose fields aren't refused needs that of its collection
pub asking_info : (db : List ℕ) (d : At) (asks : Asks) (output : Vec ℕ Global) (e : EntropySeen) → d.start ≡ 0
    → BeginsMore (record { db = db; command = d }) (Ok (begins.Ask asks))
    → output.items ≡ doc_bytes (collection_filter (collection_in asks.command.tree))
    → AnswerIs (more_info_ruling db d.tree) d.tree e e (answers.Made output)
asking_info db d asks output e whole begun filter =
    subst (λ (v : Ruling). AnswerIs v d.tree e e (answers.Made output))
    (ap (λ (x : Asks). named x.command.tree) begun.0
    ∙ sym (fields_by db d None whole begun.1 ∙ filter_by d.tree false (wide_read d.tree begun.2)))
    ([], refl, draws_none e, filter, refl)

-- its fields are refused
pub refused_info : (db : List ℕ) (d : At) (fault : MarkFault) → d.start ≡ 0
    → BeginsMore (record { db = db; command = d }) (Err fault) → Tells fault (more_info_ruling db d.tree)
refused_info db d (faults.Refused reason at) whole begun =
    fields_by db d (Some (record { reason = reason; at = at })) whole begun
refused_info db d faults.Memory whole begun = absurd begun

-- ---- its keys

-- one that passes needs no key
pub passing_asked : (keys : List KeyDoc) (infos : List Collection) (db : List ℕ) (c : Items) (output : Vec ℕ Global)
    (e : EntropySeen) → passes c ≡ true → output.items ≡ []
    → AnswerIs (more_keys_ruling keys infos db c) c e e (answers.Made output)
unfolding more_keys_ruling
passing_asked keys infos db c output e passing none =
    let rows = rows_of infos c in
    let is = passed_with (asks keys) db infos c passing
    ∙ ap (λ (ms : List Mark). filter_ruling keys (first_needs (map need_at (sites_of rows (at_front c) ms))))
    (passing_roles rows 0 c passing) in
    subst (λ (v : Ruling). AnswerIs v c e e (answers.Made output)) (sym is) ([], refl, draws_none e, none, refl)

-- one of which nothing is refused needs the keys of its values
pub contents_asked : (keys : List KeyDoc) (a : Asks) (w : Waits) (answer : Answer) (e : EntropySeen)
    → a.command.start ≡ 0 → w ≡ record { command = a.command; info = a.info; kept = [] }
    → content_verdict (rows_in a.info) a.command.start a.command.tree ≡ None
    → beyond_verdict (rows_in a.info) a.command.start a.command.tree ≡ None
    → AnswerIs (filter_ruling keys (wanted_of w.info w.command)) a.command.tree e e answer
    → AnswerIs (more_contents (asks keys) (rows_in a.info) a.command.tree) a.command.tree e e answer
contents_asked keys a w answer e whole waits contents beyond answered =
    let rows = rows_in a.info in
    let is : more_contents (asks keys) rows a.command.tree ≡ filter_ruling keys (wanted_of w.info w.command) =
    contents_accepted (asks keys) a whole contents beyond
    ∙ (ap (λ (d : At). filter_ruling keys (first_needs (needs_of rows d))) (sym (front_is a.command whole))
    ∙ sym (ap (λ (x : Waits). filter_ruling keys (wanted_of x.info x.command)) waits)) in
    subst (λ (v : Ruling). AnswerIs v a.command.tree e e answer) (sym is) answered

-- it is to be marked under the rules of its collection
pub marking_asked : (keys : List KeyDoc) (infos : List Collection) (db : List ℕ) (command : At) (state : Asks)
    (a : Answer) (e : EntropySeen) → StartsMore infos db command (Ok (starts.Marking state))
    → AnswerIs (more_contents (asks keys) (rows_in state.info) state.command.tree) state.command.tree e e a
    → AnswerIs (more_keys_ruling keys infos db command.tree) command.tree e e a
unfolding more_keys_ruling
marking_asked keys infos db command state a e start answered =
    starts_with (asks keys) infos db command state a e e start answered

-- its fields or its collection are refused
pub refused_asked : (keys : List KeyDoc) (infos : List Collection) (db : List ℕ) (command : At) (fault : MarkFault)
    → StartsMore infos db command (Err fault) → Tells fault (more_keys_ruling keys infos db command.tree)
unfolding more_keys_ruling
refused_asked keys infos db command fault start = start (asks keys)

-- ---- its blocks

-- one that is marked draws them for the values of its collection's rules
pub marking_draws : (infos : List Collection) (db : List ℕ) (command : At) (state : Asks) (a : Answer) (told : ℕ)
    → command.start ≡ 0 → StartsMore infos db command (Ok (starts.Marking state))
    → TellsDraws (draws_of (values_of state.info state.command)) a told
    → TellsDraws (command_draws (rows_of infos command.tree) command.tree) a told
marking_draws infos db command state a told whole start tells =
    draws_told infos command state a told whole start.0 start.2 tells
