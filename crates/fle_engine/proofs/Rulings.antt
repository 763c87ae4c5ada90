-- What a command comes to, by what is answered about its fields and its collection.
use Rattle.std.proofs.Common.{◌≡◌, ℕ, ◌+◌, Bool, true, false, cond, ◌&&◌, List, length, Option}
use Rattle.std.proofs.Common.{Some, None, Err, refl, sym, ap, ap₂, ◌∙◌}
use Rattle.std.proofs.lemmas.Bool.{false≢true}
use Rattle.bson_tree.specs.Tree.{Items, no_items, item}
use Rattle.bson_codec.specs.Borrowed.{At}
use Rattle.encrypt_schema.specs.declared.command.marks.MarkFault.{MarkFault}
use Rattle.encrypt_schema.specs.declared.command.marks.MarkFault.TheVariants as faults
use Rattle.encrypt_schema.specs.declared.command.reason.Reason.{Reason}
use Rattle.encrypt_schema.specs.declared.command.reason.Reason.TheVariants.{View}
use Rattle.encrypt_schema.specs.Language.Collection.{Collection, collection_of}
use Rattle.encrypt_schema.specs.Commands.Offences.{when, least, is_view}
use Rattle.encrypt_schema.specs.Commands.Targets.{info_of, rows_in, rows_of, verdict}
use Rattle.encrypt_schema.specs.Commands.Visits.{view_of, command_visits, Refusal, refused_at, or_else}
use Rattle.encrypt_schema.specs.Commands.Visits.{first_refusal, target_verdict, content_verdict}
use Rattle.encrypt_schema.proofs.Commands.Fields.{target_anyhow, view_alone}
use Rattle.command_marker.specs.Commands.{collection_in, is_marked_command, passes}
use Rattle.command_marker.specs.Reply.{reply_clear_to}
use Rattle.command_marker.proofs.Unmarked.{passing_verdict, passing_reply}
use Rattle.encrypt_schema.specs.Language.Row.{Row}
use Rattle.context_machine.specs.Beginning.{AsksMarkings, BeginsAs, first_value}
use Rattle.context_machine.specs.States.{Asks}
use Rattle.context_machine.proofs.Infos.{found_info}
use Rattle.fle_engine.specs.Replies.{mark_ruling, replies, sized}
use Rattle.fle_engine.specs.Rulings.{Ruling, Tells, by_refusal, contents_with, into_with, refused, ruling_with}

-- a command that passes isn't refused
pub passed_with : (accepted : List Row → Items → Ruling) (db : List ℕ) (infos : List Collection) (c : Items)
    → passes c ≡ true → ruling_with accepted infos db c ≡ accepted (rows_of infos c) c
passed_with accepted db infos c h =
    ap (λ (r : Option Refusal). by_refusal r (accepted (rows_of infos c) c)) (passing_verdict db infos 0 c h)

-- it comes to its reply with both flags false
pub passed_told : (db : List ℕ) (infos : List Collection) (c : Items) → passes c ≡ true
    → mark_ruling infos db c ≡ sized (reply_clear_to c)
unfolding mark_ruling
passed_told db infos c h = passed_with replies db infos c h ∙ ap sized (passing_reply (rows_of infos c) c h)

-- the fields of a command

-- without a refusal of the target pass the verdict is that of the view or of the contents
abbrev verdict_after : List Collection → Items → Option Refusal → Option Refusal
verdict_after infos c r =
    or_else r (or_else (first_refusal (view_of (info_of infos c)) (command_visits (rows_of infos c) 0 c))
    (content_verdict (rows_of infos c) 0 c))

verdict_is : (db : List ℕ) (infos : List Collection) (c : Items)
    → verdict db infos 0 c ≡ verdict_after infos c (target_verdict db 0 c)
verdict_is db infos c = ap (verdict_after infos c) (target_anyhow db (rows_of infos c) 0 c)

-- where a command of the stream begins
begun_at : (db : List ℕ) (command : At) → command.start ≡ 0
    → target_verdict db 0 command.tree ≡ target_verdict db command.start command.tree
begun_at db command whole = ap (λ (n : ℕ). target_verdict db n command.tree) (sym whole)

-- a refusal of the target pass stays whatever the infos are
pub refused_with : (accepted : List Row → Items → Ruling) (db : List ℕ) (infos : List Collection) (command : At)
    (r : Refusal) → command.start ≡ 0 → target_verdict db command.start command.tree ≡ Some r
    → ruling_with accepted infos db command.tree ≡ refused r
refused_with accepted db infos command r whole h =
    ap (λ (o : Option Refusal). by_refusal o (accepted (rows_of infos command.tree) command.tree))
    (verdict_is db infos command.tree ∙ ap (verdict_after infos command.tree) (begun_at db command whole ∙ h))

pub begun_told : (accepted : List Row → Items → Ruling) (db : List ℕ) (infos : List Collection) (command : At)
    (fault : MarkFault) → command.start ≡ 0 → BeginsAs (record { db = db; command = command }) (Err fault)
    → Tells fault (ruling_with accepted infos db command.tree)
begun_told accepted db infos command (faults.Refused reason at) whole begun =
    refused_with accepted db infos command (record { reason = reason; at = at }) whole begun
begun_told accepted db infos command faults.Memory whole begun = absurd begun

-- by whether the collection is a view
into : (accepted : List Row → Items → Ruling) (info : Option Collection) (c : Items)
    → by_refusal
    (or_else (refused_at (first_value 0 c) (least (when (is_view info) View))) (content_verdict (rows_in info) 0 c))
    (accepted (rows_in info) c)
    ≡ into_with accepted info c
into accepted info c =
    elim (is_view info)
    as (λ b. by_refusal
    (or_else (refused_at (first_value 0 c) (least (when b View))) (content_verdict (rows_in info) 0 c))
    (accepted (rows_in info) c)
    ≡ cond b (refused (record { reason = View; at = first_value 0 c })) (contents_with accepted (rows_in info) c))
    [ true ↦ refl | false ↦ refl ]

-- a marked command whose fields aren't refused goes into its collection
goes_into : (accepted : List Row → Items → Ruling) (db : List ℕ) (infos : List Collection) (c : Items)
    → target_verdict db 0 c ≡ None → is_marked_command c ≡ true
    → ruling_with accepted infos db c ≡ into_with accepted (info_of infos c) c
goes_into accepted db infos no_items free marked = absurd (false≢true marked)
goes_into accepted db infos (item name t is) free marked =
    let c : Items = item name t is in
    let info = info_of infos c in
    let start = 4 + (2 + length name) in
    let viewed : first_refusal (view_of info) (command_visits (rows_in info) 0 c)
    ≡ refused_at start (least (when (is_view info) View))
    = view_alone info (rows_in info) 0 name t is ∙ ap
    (λ (b : Bool). refused_at start (least (when (b && true && is_view info) View))) marked in
    ap (λ (o : Option Refusal). by_refusal o (accepted (rows_in info) c))
    (verdict_is db infos c ∙ (ap (verdict_after infos c) free
    ∙ ap (λ (o : Option Refusal). or_else o (content_verdict (rows_in info) 0 c)) viewed))
    ∙ into accepted info c

pub into_with_info : (accepted : List Row → Items → Ruling) (db : List ℕ) (infos : List Collection) (command : At)
    → command.start ≡ 0
    → target_verdict db command.start command.tree ≡ None → is_marked_command command.tree ≡ true
    → ruling_with accepted infos db command.tree ≡ into_with accepted (info_of infos command.tree) command.tree
into_with_info accepted db infos command whole free marked =
    goes_into accepted db infos command.tree (begun_at db command whole ∙ free) marked

-- a marked command whose fields aren't refused comes to what it comes to in the collection of its name
pub asks_told : (accepted : List Row → Items → Ruling) (db : List ℕ) (infos : List Collection) (command : At)
    → command.start ≡ 0
    → target_verdict db command.start command.tree ≡ None → is_marked_command command.tree ≡ true
    → ruling_with accepted infos db command.tree
    ≡ into_with accepted (collection_of infos (collection_in command.tree)) command.tree
asks_told accepted db infos command whole free marked =
    into_with_info accepted db infos command whole free marked
    ∙ ap (λ (o : Option Collection). into_with accepted o command.tree) (sym (found_info db infos command free marked))

-- ---- its collection

first_at : (d : At) → d.start ≡ 0 → first_value d.start d.tree ≡ first_value 0 d.tree
first_at d whole = ap (λ (n : ℕ). first_value n d.tree) whole

-- no view goes on to its contents
pub into_contents : (accepted : List Row → Items → Ruling) (info : Option Collection) (c : Items)
    → is_view info ≡ false → into_with accepted info c ≡ contents_with accepted (rows_in info) c
into_contents accepted info c real =
    ap (λ (b : Bool). cond b (refused (record { reason = View; at = first_value 0 c }))
    (contents_with accepted (rows_in info) c)) real

pub view_told : (accepted : List Row → Items → Ruling) (asks : Asks) (fault : MarkFault) → asks.command.start ≡ 0
    → AsksMarkings asks (Err fault) → Tells fault (into_with accepted asks.info asks.command.tree)
view_told accepted asks (faults.Refused reason at) whole told =
    let c = asks.command.tree in
    ap (λ (b : Bool). cond b (refused (record { reason = View; at = first_value 0 c }))
    (contents_with accepted (rows_in asks.info) c)) told.0
    ∙ ap₂ (λ (r : Reason) (n : ℕ). refused (record { reason = r; at = n })) (sym told.1)
    (sym (told.2 ∙ first_at asks.command whole))
view_told accepted asks faults.Memory whole told = absurd told
