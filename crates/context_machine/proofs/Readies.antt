-- A command that waits for its keys: what is known of it once they are opened.
use Rattle.std.proofs.Common.{◌≡◌, ◌∙◌, ◌≤◌, ℕ, List, [], ◌∷◌, length, map, Option, None, Result, Ok, Err}
use Rattle.std.proofs.Common.{IfErr, IfOk, ap, arith, subst, sym}
use Rattle.std.specs.Prelude.{is_some}
use Rattle.bson_codec.specs.Borrowed.{At}
use Rattle.bson_tree.specs.Spelling.{doc_bytes}
use Rattle.command_marker.specs.Commands.{Command}
use Rattle.encrypt_schema.specs.declared.command.marks.Mark.{Mark}
use Rattle.doc_rewrite.specs.Plans.{Planned, StandsFor}
use Rattle.doc_rewrite.specs.Sites.{Site, draws_of, grown, sites_of}
use Rattle.encrypt_schema.specs.Commands.Targets.{rows_in}
use Rattle.encrypt_schema.specs.Commands.Visits.{roles}
use Rattle.encrypt_schema.specs.Language.Row.{Row}
use Rattle.encrypt_schema.specs.Language.Collection.{Collection}
use Rattle.doc_rewrite.specs.Keys.{Table, key_in}
use Rattle.doc_rewrite.specs.Sealing.{HasKeys}
use Rattle.context_machine.specs.Kept.{Wants}
use Rattle.context_machine.specs.Ready.{IsPlanOf, IsTooLong, StopsWaiting, readied, sealed_size, values_of}
use Rattle.context_machine.specs.Rings.{AreOpened, Finder, finder, need_at, needs_of}
use Rattle.context_machine.specs.States.{Readied, Waits}
use Rattle.context_machine.specs.Tables.{KeysFail, OpensKeys, TellsTable, table_of}
use Rattle.context_machine.specs.Waiting.{IsWaiting, wanted_of}
use Rattle.context_machine.specs.Needs.{NeedAt}
use Rattle.context_machine.specs.declared.opened_keys.KeysStop.{KeysStop}
use Rattle.context_machine.specs.declared.opened_keys.KeysStop.TheVariants as stops
use Rattle.context_machine.proofs.Keyed.{FindsOwn, finder_own, opened_none, opens_keys}
use Rattle.context_machine.proofs.Waits.{no_roles}

-- the table has the key of each value that is to be sealed
pub has_keys : (keys : Finder) (ss : List Site) (table : Table) → AreOpened keys (map need_at ss) table
    → HasKeys (key_in table) ss
has_keys keys [] table are = tt
has_keys keys (s ∷ ss) table are = (ap is_some are.0.2, has_keys keys ss table are.1)

-- what is answered of the keys that are wanted is answered of the keys of all values
pub opens_wanted : (keys : Finder) → FindsOwn keys → (info : Option Collection) (command : At) (needs : List NeedAt)
    (r : Result Table KeysStop)
    → needs ≡ wanted_of info command → TellsTable (table_of keys needs) r
    → OpensKeys keys (needs_of (rows_in info) command) r
opens_wanted keys own info command needs r is tells =
    opens_keys keys own (needs_of (rows_in info) command) r
    (subst (λ (ns : List NeedAt). TellsTable (table_of keys ns) r) is tells)

-- the same of a command that waits
pub waits_told : (master : List ℕ) (info : Option Collection) (command : At) (marked : Option Command) (wanted : Wants)
    (w : Waits) (r : Result Table KeysStop)
    → record { command = command; info = info; kept = wanted.kept } ≡ w → IsWaiting info command marked wanted
    → TellsTable (table_of (finder wanted.kept master) wanted.needs) r
    → OpensKeys (finder w.kept master) (needs_of (rows_in w.info) w.command) r
waits_told master info command marked wanted w r is waiting tells =
    subst (λ (x : Waits). OpensKeys (finder x.kept master) (needs_of (rows_in x.info) x.command) r) is
    (opens_wanted (finder wanted.kept master) (finder_own wanted.kept master) info command wanted.needs r
    waiting.needs tells)

-- the same of the keys of a vault, where the needs are shown as the code holds them
pub waits_found : (keys : Finder) → FindsOwn keys → (info : Option Collection) (command : At) (marked : Option Command)
    (wanted : Wants) (w : Waits) (needs : List NeedAt) (r : Result Table KeysStop)
    → record { command = command; info = info; kept = wanted.kept } ≡ w → IsWaiting info command marked wanted
    → needs ≡ wanted.needs → TellsTable (table_of keys needs) r
    → OpensKeys keys (needs_of (rows_in w.info) w.command) r
waits_found keys own info command marked wanted w needs r is waiting same tells =
    subst (λ (x : Waits). OpensKeys keys (needs_of (rows_in x.info) x.command) r) is
    (opens_wanted keys own info command needs r (same ∙ waiting.needs) tells)

-- a value's key isn't to be had
pub keyless_stops : (keys : Finder) (w : Waits) (stop : KeysStop)
    → KeysFail keys (needs_of (rows_in w.info) w.command) stop → StopsWaiting keys w stop
keyless_stops keys w (stops.Refused reason at) fail = fail
keyless_stops keys w stops.TooLong fail = absurd fail
keyless_stops keys w stops.Memory fail = tt

-- each value has its key, and the sealed command would be too long
pub long_stops : (keys : Finder) (w : Waits) (table : Table) (stop : KeysStop)
    → AreOpened keys (needs_of (rows_in w.info) w.command) table → IsTooLong (sealed_size w.info w.command) stop
    → StopsWaiting keys w stop
long_stops keys w table (stops.Refused reason at) are long = absurd long
long_stops keys w table stops.TooLong are long =
    (opened_none keys table (needs_of (rows_in w.info) w.command) are, long)
long_stops keys w table stops.Memory are long = tt

-- what is known of the command that is ready, or isn't, with this table
pub opened_ready : (keys : Finder) (w : Waits) (table : Table) (result : Result Readied (Waits × KeysStop))
    → AreOpened keys (needs_of (rows_in w.info) w.command) table → IfOk result (λ r. r ≡ readied w table)
    → IfOk result (λ r. AreOpened keys (needs_of (rows_in w.info) w.command) r.table)
opened_ready keys w table (Ok r) are is =
    subst (λ (x : Readied). AreOpened keys (needs_of (rows_in w.info) w.command) x.table) (sym is) are
opened_ready keys w table (Err e) are is = is

pub stops_ready : (keys : Finder) (w : Waits) (table : Table) (result : Result Readied (Waits × KeysStop))
    → AreOpened keys (needs_of (rows_in w.info) w.command) table
    → IfErr result (λ e. IsTooLong (sealed_size w.info w.command) e.1)
    → IfErr result (λ e. StopsWaiting keys w e.1)
stops_ready keys w table (Ok r) are is = is
stops_ready keys w table (Err e) are is = long_stops keys w table e.1 are is

no_values : (command : At) → [] ≡ values_of None command
no_values command = ap (λ (ms : List Mark). sites_of [] command ms) (no_roles command)

-- without an info nothing is sealed
pub clear_size : (info : Option Collection) (command : At) → info ≡ None
    → sealed_size info command ≡ length (doc_bytes command.tree)
clear_size info command none =
    let bare : grown (values_of None command) ≡ 0 = ap grown (sym (no_values command)) in
    ap (λ (o : Option Collection). sealed_size o command) none ∙ omega (arith, bare)

pub clear_plan : (info : Option Collection) (command : At) (plan : Planned) → info ≡ None → plan.sites ≡ []
    → plan.size ≡ length (doc_bytes command.tree) → StandsFor plan command → plan.size ≤ 48000000
    → IsPlanOf info command plan
clear_plan info command plan none sites size stands most = record {
  sites = sites ∙ no_values command ∙ ap (λ (o : Option Collection). values_of o command) (sym none);
  size = size ∙ sym (clear_size info command none);
  stands = stands;
  most = most;
}

-- the values of its marks are those of a marked command
pub marked_values : (info : Option Collection) (command : At) (marked : Command) (rows : List Row) (ms : List Mark)
    → marked ≡ record { rows = rows_in info; command = command } → rows ≡ marked.rows
    → ms ≡ roles marked.rows marked.command.start marked.command.tree
    → sites_of rows command ms ≡ values_of info command
marked_values info command marked rows ms is ruled marks =
    ap (λ (rs : List Row). sites_of rs command ms) ruled
    ∙ (ap (sites_of marked.rows command) marks
    ∙ ap (λ (m : Command). sites_of m.rows command (roles m.rows m.command.start m.command.tree)) is)

-- without an info no block is drawn
pub clear_draws : (info : Option Collection) (command : At) → info ≡ None → 0 ≡ draws_of (values_of info command)
clear_draws info command none =
    ap draws_of (no_values command ∙ ap (λ (o : Option Collection). values_of o command) (sym none))
