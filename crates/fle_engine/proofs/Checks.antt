-- What a command starts as says whether it is accepted, and what is wrong with a reply to it.
use Rattle.std.proofs.Common.{◌≡◌, ◌∙◌, ℕ, true, List, [], Option, Some, None, Result, Ok, Err, refl, sym, ap, subst}
use Rattle.bson_codec.specs.Borrowed.{At}
use Rattle.bson_tree.specs.Tree.{Items}
use Rattle.command_marker.specs.Commands.{Command, passes}
use Rattle.command_marker.proofs.Unmarked.{passing_verdict}
use Rattle.context_machine.specs.States.{Asks}
use Rattle.context_machine.specs.Waiting.{IsMarked, IsRefusal}
use Rattle.encrypt_schema.specs.Commands.Targets.{rows_in, rows_of, verdict}
use Rattle.encrypt_schema.specs.Commands.Visits.{Refusal, content_verdict}
use Rattle.encrypt_schema.specs.Language.Collection.{Collection}
use Rattle.encrypt_schema.specs.Language.Row.{Row}
use Rattle.encrypt_schema.specs.declared.command.marks.MarkFault.{MarkFault}
use Rattle.encrypt_schema.specs.declared.command.marks.MarkFault.TheVariants as faults
use Rattle.encrypt_schema.specs.declared.command.reason.Reason.{Reason}
use Rattle.fle_engine.specs.Checking.{AcceptsAs, wrong_to}
use Rattle.fle_engine.specs.declared.checking.Declined.{Declined}
use Rattle.fle_engine.specs.Rulings.{Ruling, at_front, by_refusal, makes, refused, too_long}
use Rattle.fle_engine.specs.Starting.{StartsAs}
use Rattle.fle_engine.specs.declared.starting.Started.TheVariants as starts
use Rattle.reply_check.specs.Wrong.{Tells, wrong_clear, wrong_reply}
use Rattle.reply_check.specs.declared.wrong.WrongReply.{WrongReply}
use Rattle.reply_check.proofs.Clear.{passed_clear, unruled_clear}

-- ---- what refuses a command, read from what it comes to

abbrev refusal_in : Ruling → Option Refusal
refusal_in (makes plan) = None
refusal_in (refused r) = Some r
refusal_in too_long = None

told_back : (r : Option Refusal) → refusal_in (by_refusal r too_long) ≡ r
told_back None = refl
told_back (Some r) = refl

-- its fields or its collection are refused
pub starts_refused : (infos : List Collection) (db : List ℕ) (command : At) (fault : MarkFault)
    → StartsAs infos db command (Err fault) → IsRefusal (verdict db infos 0 command.tree) fault
starts_refused infos db command (faults.Refused reason at) start =
    sym (told_back (verdict db infos 0 command.tree))
    ∙ ap refusal_in (start (λ (rows : List Row) (c : Items). too_long))
starts_refused infos db command faults.Memory start = tt

-- else it is what its contents say
pub starts_by : (infos : List Collection) (db : List ℕ) (command : At) (state : Asks) → command.start ≡ 0
    → StartsAs infos db command (Ok (starts.Marking state))
    → verdict db infos 0 command.tree
    ≡ content_verdict (rows_in state.info) state.command.start state.command.tree
starts_by infos db command state whole start =
    sym (told_back (verdict db infos 0 command.tree))
    ∙ ap refusal_in (start.1 (λ (rows : List Row) (c : Items). too_long))
    ∙ told_back (content_verdict (rows_in state.info) 0 command.tree)
    ∙ ap (λ (n : ℕ). content_verdict (rows_in state.info) n command.tree) (sym whole)
    ∙ ap (λ (d : At). content_verdict (rows_in state.info) d.start d.tree) (sym start.0)

pub accepts_by : (infos : List Collection) (db : List ℕ) (command : At) (state : Asks)
    (result : Result (Unit {0}) Declined) → command.start ≡ 0 → StartsAs infos db command (Ok (starts.Marking state))
    → AcceptsAs (content_verdict (rows_in state.info) state.command.start state.command.tree) state.command.tree result
    → AcceptsAs (verdict db infos 0 command.tree) command.tree result
accepts_by infos db command state result whole start told =
    let contents = content_verdict (rows_in state.info) state.command.start state.command.tree in
    subst (λ (r : Option Refusal). AcceptsAs r command.tree result) (sym (starts_by infos db command state whole start))
    (subst (λ (d : At). AcceptsAs contents d.tree result) start.0 told)

-- an accepted command isn't refused
abbrev IsNone : Option Refusal → Type 0
IsNone None = Unit {0}
IsNone (Some r) = ⊥

pub unrefused : (r : Option Refusal) (reason : Reason) (at : ℕ) → r ≡ None → IsRefusal r (faults.Refused reason at) → ⊥
unrefused r reason at none told = subst IsNone (sym none ∙ told) tt

-- one that is to be marked isn't refused by its contents
pub contents_unrefused : (infos : List Collection) (db : List ℕ) (command : At) (state : Asks) (reason : Reason)
    (at : ℕ) → command.start ≡ 0 → verdict db infos 0 command.tree ≡ None
    → StartsAs infos db command (Ok (starts.Marking state))
    → IsRefusal (content_verdict (rows_in state.info) state.command.start state.command.tree) (faults.Refused reason at)
    → ⊥
contents_unrefused infos db command state reason at whole accepted start told =
    unrefused (content_verdict (rows_in state.info) state.command.start state.command.tree) reason at
    (sym (starts_by infos db command state whole start) ∙ accepted) told

-- ---- a reply that begins at 0

abbrev at_as : Items → ℕ → At
at_as tree n = record { tree = tree; start = n }

front_is : (r : At) → r.start ≡ 0 → r ≡ at_front r.tree
front_is r front = ap (λ (n : ℕ). at_as r.tree n) front

-- to a command that passes
pub told_passing : (infos : List Collection) (c : Items) (r : At) (answer : Result (Unit {0}) WrongReply)
    → r.start ≡ 0 → passes c ≡ true → Tells (wrong_clear c r) answer → Tells (wrong_to infos c r.tree) answer
told_passing infos c r answer front passing told =
    subst (λ (w : Option WrongReply). Tells w answer)
    (passed_clear (rows_of infos c) c r passing
    ∙ ap (λ (x : At). wrong_reply (rows_of infos c) c x) (front_is r front)) told

-- to one without rules
pub told_unruled : (infos : List Collection) (db : List ℕ) (command : At) (state : Asks) (r : At)
    (answer : Result (Unit {0}) WrongReply) → r.start ≡ 0 → StartsAs infos db command (Ok (starts.Marking state))
    → IsMarked state.info state.command None → Tells (wrong_clear command.tree r) answer
    → Tells (wrong_to infos command.tree r.tree) answer
told_unruled infos db command state r answer front start none told =
    subst (λ (w : Option WrongReply). Tells w answer)
    (unruled_clear command.tree r
    ∙ ap (λ (rows : List Row). wrong_reply rows command.tree r) (sym (start.2 ∙ ap rows_in none))
    ∙ ap (λ (x : At). wrong_reply (rows_of infos command.tree) command.tree x) (front_is r front)) told

-- to one that is marked
pub told_marked : (infos : List Collection) (db : List ℕ) (command : At) (state : Asks) (marked : Command) (r : At)
    (answer : Result (Unit {0}) WrongReply) → r.start ≡ 0 → StartsAs infos db command (Ok (starts.Marking state))
    → IsMarked state.info state.command (Some marked)
    → Tells (wrong_reply marked.rows marked.command.tree r) answer
    → Tells (wrong_to infos command.tree r.tree) answer
told_marked infos db command state marked r answer front start is told =
    subst (λ (w : Option WrongReply). Tells w answer)
    (ap (λ (m : Command). wrong_reply m.rows m.command.tree r) is
    ∙ ap (λ (rows : List Row). wrong_reply rows state.command.tree r) (sym start.2)
    ∙ ap (λ (d : At). wrong_reply (rows_of infos command.tree) d.tree r) start.0
    ∙ ap (λ (x : At). wrong_reply (rows_of infos command.tree) command.tree x) (front_is r front)) told
