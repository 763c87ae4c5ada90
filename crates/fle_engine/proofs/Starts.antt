-- What a command starts as, by what its fields and its collection are answered.
use Rattle.std.proofs.Common.{◌≡◌, ℕ, false, List, Option, Ok, Err, Some, None}
use Rattle.std.proofs.Common.{sym, ap, subst, ◌∙◌}
use Rattle.bson_codec.specs.Borrowed.{At}
use Rattle.command_marker.specs.Commands.{collection_in}
use Rattle.context_machine.specs.Beginning.{AsksMarkings, BeginsAs, fed_found, fed_info}
use Rattle.context_machine.specs.States.{Asks}
use Rattle.context_machine.specs.declared.begun.Begun.TheVariants as begins
use Rattle.context_machine.proofs.Infos.{found_info, found_kept}
use Rattle.encrypt_schema.specs.Commands.Offences.{is_view}
use Rattle.encrypt_schema.specs.Commands.Targets.{rows_in}
use Rattle.encrypt_schema.specs.Language.Collection.{Collection, collection_of}
use Rattle.encrypt_schema.specs.declared.command.marks.MarkFault.{MarkFault}
use Rattle.fle_engine.specs.Rulings.{Tells, contents_with, into_with}
use Rattle.fle_engine.specs.Starting.{StartsAs}
use Rattle.fle_engine.specs.declared.starting.Started.TheVariants as starts
use Rattle.fle_engine.proofs.Rulings.{asks_told, begun_told, into_contents, view_told}

-- ---- the info that is found

-- the command of a state that was asked of, with the info that was found
abbrev asked : List Collection → At → Asks
asked infos command = record { command = command; info = collection_of infos (collection_in command.tree) }

-- the info of the collection is handed in
pub with_found : (infos : List Collection) (a : Asks) (info : Collection) (name : List ℕ) → a.info ≡ None
    → name ≡ collection_in a.command.tree → Some info ≡ collection_of infos name
    → fed_info a info ≡ asked infos a.command
with_found infos a info name none same_name found =
    let nothing : Asks = record { command = a.command; info = None } in
    let there : collection_of infos (collection_in a.command.tree) ≡ Some info =
    ap (λ (n : List ℕ). collection_of infos n) (sym same_name) ∙ sym found in
    ap (λ (o : Option Collection). fed_info (record { command = a.command; info = o }) info) none
    ∙ (sym (ap (fed_found nothing) there) ∙ found_kept infos a.command)

-- ---- what it starts as

asked_is : (infos : List Collection) (command : At) (first second : Asks) → first.command ≡ command
    → second ≡ asked infos first.command → second ≡ asked infos command
asked_is infos command first second here found = found ∙ ap (asked infos) here

-- its fields aren't refused, and no view: it is to be marked
pub marking_starts : (db : List ℕ) (infos : List Collection) (command : At) (first second next : Asks)
    → command.start ≡ 0 → BeginsAs (record { db = db; command = command }) (Ok (begins.Ask first))
    → second ≡ asked infos first.command → AsksMarkings second (Ok next)
    → StartsAs infos db command (Ok (starts.Marking next))
marking_starts db infos command first second next whole begun found marks =
    let is = asked_is infos command first second (ap (λ (a : Asks). a.command) begun.0) found in
    let goes : next ≡ asked infos command = marks.0 ∙ is in
    let info = collection_of infos (collection_in command.tree) in
    let real : is_view info ≡ false = ap (λ (a : Asks). is_view a.info) (sym is) ∙ marks.1 in (
      ap (λ (a : Asks). a.command) goes,
      λ accepted. asks_told accepted db infos command whole begun.1 begun.2
          ∙ (into_contents accepted info command.tree real
          ∙ ap (λ (a : Asks). contents_with accepted (rows_in a.info) command.tree) (sym goes)),
      sym (ap rows_in (ap (λ (a : Asks). a.info) goes ∙ found_info db infos command begun.1 begun.2)),
    )

-- its fields aren't refused, but its collection is a view
pub view_starts : (db : List ℕ) (infos : List Collection) (command : At) (first second : Asks) (fault : MarkFault)
    → command.start ≡ 0 → BeginsAs (record { db = db; command = command }) (Ok (begins.Ask first))
    → second ≡ asked infos first.command → AsksMarkings second (Err fault)
    → StartsAs infos db command (Err fault)
view_starts db infos command first second fault whole begun found marks = λ accepted.
    let is = asked_is infos command first second (ap (λ (a : Asks). a.command) begun.0) found in
    subst (Tells fault) (sym (asks_told accepted db infos command whole begun.1 begun.2))
    (subst (λ (a : Asks). Tells fault (into_with accepted a.info a.command.tree)) is
    (view_told accepted second fault (ap (λ (a : Asks). a.command.start) is ∙ whole) marks))

-- its fields are refused
pub refused_starts : (db : List ℕ) (infos : List Collection) (command : At) (fault : MarkFault) → command.start ≡ 0
    → BeginsAs (record { db = db; command = command }) (Err fault) → StartsAs infos db command (Err fault)
refused_starts db infos command fault whole begun = λ accepted. begun_told accepted db infos command fault whole begun
