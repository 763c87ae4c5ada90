-- What a command comes to that a library sends, by what is answered about its fields and its collection.
use Rattle.std.proofs.Common.{◌≡◌, ℕ, ◌+◌, Bool, true, false, cond, ◌&&◌, ◌||◌, List, Option, Some, None, Ok, Err}
use Rattle.std.proofs.Common.{refl, sym, ap, ap₂, subst, ◌∙◌}
use Rattle.std.proofs.lemmas.Bool.{false≢true}
use Rattle.bson_tree.specs.Tree.{Items, no_items, item}
use Rattle.bson_codec.specs.Borrowed.{At}
use Rattle.encrypt_schema.specs.declared.command.marks.MarkFault.{MarkFault}
use Rattle.encrypt_schema.specs.declared.command.marks.MarkFault.TheVariants as faults
use Rattle.encrypt_schema.specs.declared.command.reason.Reason.{Reason}
use Rattle.encrypt_schema.specs.declared.command.reason.Reason.TheVariants.{View}
use Rattle.encrypt_schema.specs.Language.Collection.{Collection, collection_of}
use Rattle.encrypt_schema.specs.Language.Row.{Row}
use Rattle.encrypt_schema.specs.Commands.More.{contents_verdict, more_verdict, target_more_verdict, view_more}
use Rattle.encrypt_schema.specs.Commands.Offences.{when, least, is_view}
use Rattle.encrypt_schema.specs.Commands.Targets.{info_of, rows_in, rows_of}
use Rattle.encrypt_schema.specs.Commands.Visits.{Refusal, command_visits, first_refusal, or_else, refused_at}
use Rattle.encrypt_schema.proofs.Commands.MoreFields.{target_more_anyhow, view_more_alone}
use Rattle.command_marker.specs.Commands.{collection_in, is_wide_command, passes}
use Rattle.command_marker.proofs.TargetsMore.{passing_more}
use Rattle.context_machine.specs.Beginning.{AsksMarkings, BeginsMore, first_value}
use Rattle.context_machine.specs.States.{Asks}
use Rattle.context_machine.specs.declared.begun.Begun.TheVariants as begins
use Rattle.context_machine.proofs.Infos.{found_more}
use Rattle.fle_engine.specs.Rulings.{Ruling, Tells, by_refusal, refused}
use Rattle.fle_engine.specs.More.{StartsMore, more_contents, more_with}
use Rattle.fle_engine.specs.declared.starting.Started.TheVariants as starts

-- a command that passes isn't refused
pub passed_with : (accepted : List Row → Items → Ruling) (db : List ℕ) (infos : List Collection) (c : Items)
    → passes c ≡ true → more_with accepted infos db c ≡ accepted (rows_of infos c) c
passed_with accepted db infos c h =
    ap (λ (r : Option Refusal). by_refusal r (accepted (rows_of infos c) c)) (passing_more db infos 0 c h)

-- ---- the fields of a command

-- without a refusal of the target pass the verdict is that of the view or of the contents
abbrev verdict_after : List Collection → Items → Option Refusal → Option Refusal
verdict_after infos c r =
    or_else r (or_else (first_refusal (view_more (info_of infos c)) (command_visits (rows_of infos c) 0 c))
    (contents_verdict (rows_of infos c) 0 c))

verdict_is : (db : List ℕ) (infos : List Collection) (c : Items)
    → more_verdict db infos 0 c ≡ verdict_after infos c (target_more_verdict db 0 c)
unfolding more_verdict
verdict_is db infos c = ap (verdict_after infos c) (target_more_anyhow db (rows_of infos c) 0 c)

-- where a command of the stream begins
begun_at : (db : List ℕ) (command : At) → command.start ≡ 0
    → target_more_verdict db 0 command.tree ≡ target_more_verdict db command.start command.tree
begun_at db command whole = ap (λ (n : ℕ). target_more_verdict db n command.tree) (sym whole)

-- a refusal of the target pass stays whatever the infos are
refused_with : (accepted : List Row → Items → Ruling) (db : List ℕ) (infos : List Collection) (command : At)
    (r : Refusal) → command.start ≡ 0 → target_more_verdict db command.start command.tree ≡ Some r
    → more_with accepted infos db command.tree ≡ refused r
refused_with accepted db infos command r whole h =
    ap (λ (o : Option Refusal). by_refusal o (accepted (rows_of infos command.tree) command.tree))
    (verdict_is db infos command.tree ∙ ap (verdict_after infos command.tree) (begun_at db command whole ∙ h))

begun_told : (accepted : List Row → Items → Ruling) (db : List ℕ) (infos : List Collection) (command : At)
    (fault : MarkFault) → command.start ≡ 0 → BeginsMore (record { db = db; command = command }) (Err fault)
    → Tells fault (more_with accepted infos db command.tree)
begun_told accepted db infos command (faults.Refused reason at) whole begun =
    refused_with accepted db infos command (record { reason = reason; at = at }) whole begun
begun_told accepted db infos command faults.Memory whole begun = absurd begun

-- a command of this collection, where its fields aren't refused: a view is refused at the first
abbrev into_with : (List Row → Items → Ruling) → Option Collection → Items → Ruling
into_with accepted info c =
    cond (is_view info) (refused (record { reason = View; at = first_value 0 c }))
    (more_contents accepted (rows_in info) c)

-- by whether the collection is a view
into : (accepted : List Row → Items → Ruling) (info : Option Collection) (c : Items)
    → by_refusal
    (or_else (refused_at (first_value 0 c) (least (when (is_view info) View))) (contents_verdict (rows_in info) 0 c))
    (accepted (rows_in info) c)
    ≡ into_with accepted info c
into accepted info c =
    elim (is_view info)
    as (λ b. by_refusal
    (or_else (refused_at (first_value 0 c) (least (when b View))) (contents_verdict (rows_in info) 0 c))
    (accepted (rows_in info) c)
    ≡ cond b (refused (record { reason = View; at = first_value 0 c })) (more_contents accepted (rows_in info) c))
    [ true ↦ refl | false ↦ refl ]

-- a command whose fields aren't refused goes into its collection
goes_into : (accepted : List Row → Items → Ruling) (db : List ℕ) (infos : List Collection) (c : Items)
    → target_more_verdict db 0 c ≡ None → is_wide_command c ≡ true
    → more_with accepted infos db c ≡ into_with accepted (info_of infos c) c
goes_into accepted db infos no_items free wide = absurd (false≢true wide)
goes_into accepted db infos (item name t is) free wide =
    let c : Items = item name t is in
    let info = info_of infos c in
    let start = first_value 0 c in
    let viewed : first_refusal (view_more info) (command_visits (rows_in info) 0 c)
    ≡ refused_at start (least (when (is_view info) View))
    = view_more_alone info (rows_in info) 0 name t is ∙ ap
    (λ (b : Bool). refused_at start (least (when (b && is_view info) View))) wide in
    ap (λ (o : Option Refusal). by_refusal o (accepted (rows_in info) c))
    (verdict_is db infos c ∙ (ap (verdict_after infos c) free
    ∙ ap (λ (o : Option Refusal). or_else o (contents_verdict (rows_in info) 0 c)) viewed))
    ∙ into accepted info c

-- such a command comes to what it comes to in the collection of its name
asks_told : (accepted : List Row → Items → Ruling) (db : List ℕ) (infos : List Collection) (command : At)
    → command.start ≡ 0
    → target_more_verdict db command.start command.tree ≡ None → is_wide_command command.tree ≡ true
    → more_with accepted infos db command.tree
    ≡ into_with accepted (collection_of infos (collection_in command.tree)) command.tree
asks_told accepted db infos command whole free wide =
    goes_into accepted db infos command.tree (begun_at db command whole ∙ free) wide
    ∙ ap (λ (o : Option Collection). into_with accepted o command.tree) (sym (found_more db infos command free wide))

-- ---- its collection

first_at : (d : At) → d.start ≡ 0 → first_value d.start d.tree ≡ first_value 0 d.tree
first_at d whole = ap (λ (n : ℕ). first_value n d.tree) whole

-- no view goes on to its contents
into_contents : (accepted : List Row → Items → Ruling) (info : Option Collection) (c : Items)
    → is_view info ≡ false → into_with accepted info c ≡ more_contents accepted (rows_in info) c
into_contents accepted info c real =
    ap (λ (b : Bool). cond b (refused (record { reason = View; at = first_value 0 c }))
    (more_contents accepted (rows_in info) c)) real

view_told : (accepted : List Row → Items → Ruling) (asks : Asks) (fault : MarkFault) → asks.command.start ≡ 0
    → AsksMarkings asks (Err fault) → Tells fault (into_with accepted asks.info asks.command.tree)
view_told accepted asks (faults.Refused reason at) whole told =
    let c = asks.command.tree in
    ap (λ (b : Bool). cond b (refused (record { reason = View; at = first_value 0 c }))
    (more_contents accepted (rows_in asks.info) c)) told.0
    ∙ ap₂ (λ (r : Reason) (n : ℕ). refused (record { reason = r; at = n })) (sym told.1)
    (sym (told.2 ∙ first_at asks.command whole))
view_told accepted asks faults.Memory whole told = absurd told

-- ---- what it starts as

-- the command of a state that was asked of, with the info that was found
abbrev asked : List Collection → At → Asks
asked infos command = record { command = command; info = collection_of infos (collection_in command.tree) }

asked_is : (infos : List Collection) (command : At) (first second : Asks) → first.command ≡ command
    → second ≡ asked infos first.command → second ≡ asked infos command
asked_is infos command first second here found = found ∙ ap (asked infos) here

-- its fields aren't refused, and no view: it is to be marked
pub marking_starts : (db : List ℕ) (infos : List Collection) (command : At) (first second next : Asks)
    → command.start ≡ 0 → BeginsMore (record { db = db; command = command }) (Ok (begins.Ask first))
    → second ≡ asked infos first.command → AsksMarkings second (Ok next)
    → StartsMore infos db command (Ok (starts.Marking next))
marking_starts db infos command first second next whole begun found marks =
    let is = asked_is infos command first second (ap (λ (a : Asks). a.command) begun.0) found in
    let goes : next ≡ asked infos command = marks.0 ∙ is in
    let info = collection_of infos (collection_in command.tree) in
    let real : is_view info ≡ false = ap (λ (a : Asks). is_view a.info) (sym is) ∙ marks.1 in (
      ap (λ (a : Asks). a.command) goes,
      λ accepted. asks_told accepted db infos command whole begun.1 begun.2
          ∙ (into_contents accepted info command.tree real
          ∙ ap (λ (a : Asks). more_contents accepted (rows_in a.info) command.tree) (sym goes)),
      sym (ap rows_in (ap (λ (a : Asks). a.info) goes ∙ found_more db infos command begun.1 begun.2)),
    )

-- its fields aren't refused, but its collection is a view
pub view_starts : (db : List ℕ) (infos : List Collection) (command : At) (first second : Asks) (fault : MarkFault)
    → command.start ≡ 0 → BeginsMore (record { db = db; command = command }) (Ok (begins.Ask first))
    → second ≡ asked infos first.command → AsksMarkings second (Err fault)
    → StartsMore infos db command (Err fault)
view_starts db infos command first second fault whole begun found marks = λ accepted.
    let is = asked_is infos command first second (ap (λ (a : Asks). a.command) begun.0) found in
    subst (Tells fault) (sym (asks_told accepted db infos command whole begun.1 begun.2))
    (subst (λ (a : Asks). Tells fault (into_with accepted a.info a.command.tree)) is
    (view_told accepted second fault (ap (λ (a : Asks). a.command.start) is ∙ whole) marks))

-- its fields are refused
pub refused_starts : (db : List ℕ) (infos : List Collection) (command : At) (fault : MarkFault) → command.start ≡ 0
    → BeginsMore (record { db = db; command = command }) (Err fault) → StartsMore infos db command (Err fault)
refused_starts db infos command fault whole begun = λ accepted. begun_told accepted db infos command fault whole begun
