-- The second walk: what it tells of elements, one after the other, and of the command.
use Rattle.std.proofs.Common.{◌≡◌, ◌∙◌, ◌+◌, ◌<◌, ◌++◌, Bool, true, false, ◌||◌, ℕ, List, [], ◌∷◌, length, Option}
use Rattle.std.proofs.Common.{Some, None, Result, Ok, Err, refl, sym, ap, subst, arith}
use Rattle.std.proofs.lemmas.Bool.{false≢true}
use Rattle.bson_tree.specs.Tree.{Tree, leaf, node, Items, no_items}
use Rattle.bson_codec.specs.Borrowed.{At, Elem}
use Rattle.bson_codec.specs.Elements.{TakesElement}
use Rattle.encrypt_schema.specs.declared.command.marks.Mark.{Mark}
use Rattle.encrypt_schema.specs.declared.command.marks.MarkFault.{MarkFault}
use Rattle.encrypt_schema.specs.declared.command.marks.MarkFault.TheVariants as faults
use Rattle.encrypt_schema.specs.declared.command.reason.Reason.{Reason}
use Rattle.encrypt_schema.specs.declared.command.walking.Next.{Next}
use Rattle.encrypt_schema.specs.declared.command.walking.Next.TheVariants as nexts
use Rattle.encrypt_schema.specs.Language.Row.{Row}
use Rattle.encrypt_schema.specs.Commands.More.{beyond_of, beyond_verdict, more_of, of_more}
use Rattle.encrypt_schema.specs.Commands.Offences.{first_reason, least, ruled_offence}
use Rattle.encrypt_schema.specs.Commands.Pointers.{Targets}
use Rattle.encrypt_schema.specs.Commands.Stations.{Entry, Station, command_of, is_silent, station}
use Rattle.encrypt_schema.specs.Commands.Visits.{Refusal, Visit, command_visit, command_visits, content_verdict, entry}
use Rattle.encrypt_schema.specs.Commands.Visits.{first_refusal, names_of, or_else, part_visits, refused_at, roles}
use Rattle.encrypt_schema.specs.Commands.Visits.{ruled_of, visits, visits_in}
use Rattle.encrypt_schema.specs.Views.Walking.{StandsNext, element_visit, element_visits, station_next}
use Rattle.encrypt_schema.proofs.Commands.Elements.{pass_parted}
use Rattle.encrypt_schema.proofs.Commands.MoreWorlds.{beyond_quiet}
use Rattle.encrypt_schema.proofs.Commands.Parts.{with_rows}
use Rattle.encrypt_schema.proofs.Commands.Silence.{silent_inside}
use Rattle.command_marker.specs.declared.places.CommandPlace.{CommandPlace}
use Rattle.command_marker.specs.Checked.{ChecksPlaces, LeadsTo, inner_of}
use Rattle.command_marker.specs.Commands.{Refuses, TellsMarks, TellsMore, is_library_command, is_marked_command}
use Rattle.command_marker.specs.Commands.{is_wide_command, passes}
use Rattle.command_marker.specs.Places.{CommandStands, command_station}
use Rattle.command_marker.proofs.Targets.{library_read, marked_read}

-- where neither of two is a refusal
neither : (o later : Option Refusal) → or_else o later ≡ None → (o ≡ None) × (later ≡ None)
neither None later e = (refl, e)
neither (Some r) later e = absurd cc

no_reason : (n : ℕ) (r : Option Reason) → refused_at n r ≡ None → r ≡ None
no_reason n None e = refl
no_reason n (Some r) e = absurd cc

no_first : (r later : Option Reason) → first_reason r later ≡ None → r ≡ None
no_first None later e = refl
no_first (Some r) later e = e

-- what is looked into, by what the judge answers
pub led : (rows : List Row) (s : Station) (elder : List (List ℕ)) (e : Entry) (next : Next CommandPlace)
    → station_next command_station rows next ≡ station rows s e → StandsNext CommandStands rows next
    → LeadsTo rows s elder e (inner_of next)
led rows s elder e (nexts.Inside place) is stands = (is, stands)
led rows s elder e (nexts.Store i) is stands = λ free. ap is_silent (sym is)
led rows s elder e (nexts.Compare i) is stands = λ free. ap is_silent (sym is)
led rows s elder e nexts.Bare is stands = λ free. ap is_silent (sym is)
led rows s elder e nexts.Passed is stands = λ free. ap is_silent (sym is)

some_none : (r : Reason) (o : Option Reason) → Some r ≡ o → o ≡ None → ⊥
some_none r o p q = absurd cc

-- an element that the rules refuse leads nowhere
pub led_nowhere : (rows : List Row) (s : Station) (elder : List (List ℕ)) (e : Entry) (r : Reason)
    → Some r ≡ ruled_offence rows s elder e → LeadsTo rows s elder e None
led_nowhere rows s elder e r p = λ free. absurd (some_none r (ruled_offence rows s elder e) p free)

-- an element that isn't refused itself: what is in it
pub own_goes_on : (rows : List Row) (s : Station) (ts : Targets) (elder : List (List ℕ)) (e : Elem)
    (result : Result (Unit {0}) MarkFault)
    → refused_at e.start (least (of_more s elder (entry e.name e.tree))) ≡ None
    → (ruled_offence rows s elder (entry e.name e.tree) ≡ None
    → ChecksPlaces rows (visits_in rows (station rows s (entry e.name e.tree)) ts e.start e.tree) result)
    → ChecksPlaces rows (element_visits rows s ts elder e) result
own_goes_on rows s ts elder e result own told = λ p.
    let v : Visit = element_visit s ts elder e in
    let inside = visits_in rows (station rows s (entry e.name e.tree)) ts e.start e.tree in
    let parts = neither (refused_at e.start (ruled_of rows v)) (first_refusal (ruled_of rows) inside) p in
    let free = no_first (ruled_offence rows s elder (entry e.name e.tree)) _
    (no_reason e.start (ruled_of rows v) parts.0) in
    subst (λ (r : Option Refusal). Refuses r result)
    (sym (ap (λ (q : Option Refusal). or_else q (first_refusal beyond_of inside)) own))
    (told free parts.1)

-- an element that is refused itself
pub own_ends : (rows : List Row) (s : Station) (ts : Targets) (elder : List (List ℕ)) (e : Elem) (fault : MarkFault)
    → Refuses (refused_at e.start (least (of_more s elder (entry e.name e.tree)))) (Err fault)
    → ChecksPlaces rows (element_visits rows s ts elder e) (Err fault)
own_ends rows s ts elder e (faults.Refused reason at) told = λ p.
    ap (λ (q : Option Refusal). or_else q (first_refusal beyond_of
    (visits_in rows (station rows s (entry e.name e.tree)) ts e.start e.tree))) told
own_ends rows s ts elder e faults.Memory told = λ p. told

-- what is looked into at a place
pub below_inside : (rows : List Row) (s u : Station) (ts : Targets) (at : ℕ) (t : Tree)
    (result : Result (Unit {0}) MarkFault) → u ≡ s
    → ChecksPlaces rows (visits_in rows u ts at t) result → ChecksPlaces rows (visits_in rows s ts at t) result
below_inside rows s u ts at t result is told =
    subst (λ (x : Station). ChecksPlaces rows (visits_in rows x ts at t) result) is told

-- what isn't looked into
pub below_silent : (rows : List Row) (s : Station) (ts : Targets) (at : ℕ) (t : Tree) → is_silent s ≡ true
    → ChecksPlaces rows (visits_in rows s ts at t) (Ok tt)
below_silent rows s ts at t quiet = λ p. (silent_inside beyond_of rows s ts at t beyond_quiet quiet).1

-- a value with elements
pub inside_child : (rows : List Row) (s : Station) (ts : Targets) (at from tag : ℕ) (t : Tree) (is : Items)
    (result : Result (Unit {0}) MarkFault) → t ≡ node tag is → from ≡ at
    → ChecksPlaces rows (visits_in rows s ts from (node 3 is)) result
    → ChecksPlaces rows (visits_in rows s ts at t) result
inside_child rows s ts at from tag t is result whole begun told =
    subst (λ (u : Tree). ChecksPlaces rows (visits_in rows s ts at u) result) (sym whole)
    (subst (λ (n : ℕ). ChecksPlaces rows (visits_in rows s ts n (node tag is)) result) begun told)

-- one without
pub inside_raw : (rows : List Row) (s : Station) (ts : Targets) (at tag : ℕ) (t : Tree) (bytes : List ℕ)
    → t ≡ leaf tag bytes
    → ChecksPlaces rows (visits_in rows s ts at t) (Ok tt)
inside_raw rows s ts at tag t bytes raw =
    subst (λ (u : Tree). ChecksPlaces rows (visits_in rows s ts at u) (Ok tt)) (sym raw) (λ p. refl)

-- where the rules refuse nothing of the whole, they refuse nothing of what is left, and a library refuses of both the
-- same first
abbrev pub StillLeft : List Row → List Visit → List Visit → Type 0
StillLeft rows whole left =
    first_refusal (ruled_of rows) whole ≡ None
    → (first_refusal (ruled_of rows) left ≡ None) × (first_refusal beyond_of left ≡ first_refusal beyond_of whole)

-- behind an element of which nothing is refused
pub still_next : (rows : List Row) (s : Station) (ts : Targets) (elder next : List (List ℕ)) (left rest : At) (e : Elem)
    (whole : List Visit)
    → TakesElement left (Some e) rest → next ≡ elder ++ e.name ∷ []
    → ChecksPlaces rows (element_visits rows s ts elder e) (Ok tt)
    → StillLeft rows whole (visits rows s ts left.start elder left.tree)
    → StillLeft rows whole (visits rows s ts rest.start next rest.tree)
still_next rows s ts elder next left rest e whole taken more told kept = λ p.
    let others : List Visit = visits rows s ts rest.start (elder ++ e.name ∷ []) rest.tree in
    let here : List Visit = element_visits rows s ts elder e in
    let a = kept p in
    let parts = neither (first_refusal (ruled_of rows) here) (first_refusal (ruled_of rows) others)
    (sym (pass_parted (ruled_of rows) rows s ts elder left rest e taken) ∙ a.0) in
    let free : first_refusal beyond_of here ≡ None = told parts.0 in
    subst (λ (ns : List (List ℕ)). (first_refusal (ruled_of rows) (visits rows s ts rest.start ns rest.tree) ≡ None)
    × (first_refusal beyond_of (visits rows s ts rest.start ns rest.tree) ≡ first_refusal beyond_of whole)) (sym more) (
      parts.1,
      sym (pass_parted beyond_of rows s ts elder left rest e taken
          ∙ ap (λ (q : Option Refusal). or_else q (first_refusal beyond_of others)) free)
          ∙ a.1,
    )

-- at an element of which something is refused
pub still_ends : (rows : List Row) (s : Station) (ts : Targets) (elder : List (List ℕ)) (left rest : At) (e : Elem)
    (whole : List Visit) (fault : MarkFault)
    → TakesElement left (Some e) rest
    → ChecksPlaces rows (element_visits rows s ts elder e) (Err fault)
    → StillLeft rows whole (visits rows s ts left.start elder left.tree)
    → ChecksPlaces rows whole (Err fault)
still_ends rows s ts elder left rest e whole (faults.Refused reason at) taken told kept = λ p.
    let others : List Visit = visits rows s ts rest.start (elder ++ e.name ∷ []) rest.tree in
    let here : List Visit = element_visits rows s ts elder e in
    let a = kept p in
    let parts = neither (first_refusal (ruled_of rows) here) (first_refusal (ruled_of rows) others)
    (sym (pass_parted (ruled_of rows) rows s ts elder left rest e taken) ∙ a.0) in
    sym a.1
    ∙ pass_parted beyond_of rows s ts elder left rest e taken
    ∙ ap (λ (q : Option Refusal). or_else q (first_refusal beyond_of others)) (told parts.0)
still_ends rows s ts elder left rest e whole faults.Memory taken told kept = λ p.
    let others : List Visit = visits rows s ts rest.start (elder ++ e.name ∷ []) rest.tree in
    let here : List Visit = element_visits rows s ts elder e in
    let parts = neither (first_refusal (ruled_of rows) here) (first_refusal (ruled_of rows) others)
    (sym (pass_parted (ruled_of rows) rows s ts elder left rest e taken) ∙ (kept p).0) in
    told parts.0

-- where no element is left
pub still_done : (rows : List Row) (s : Station) (ts : Targets) (elder : List (List ℕ)) (left : At) (whole : List Visit)
    → left.tree ≡ no_items
    → StillLeft rows whole (visits rows s ts left.start elder left.tree)
    → ChecksPlaces rows whole (Ok tt)
still_done rows s ts elder left whole none kept = λ p.
    sym (kept p).1 ∙ ap (λ (is : Items). first_refusal beyond_of (visits rows s ts left.start elder is)) none

-- with rules a library's pass is this
same_pass : (row : Row) (rows : List Row) (vs : List Visit)
    → first_refusal (more_of (row ∷ rows)) vs ≡ first_refusal beyond_of vs
same_pass row rows [] = refl
same_pass row rows (v ∷ vs) = ap (or_else (refused_at v.start (beyond_of v))) (same_pass row rows vs)

no_pass : (vs : List Visit) → first_refusal (more_of []) vs ≡ None
no_pass [] = refl
no_pass (v ∷ vs) = no_pass vs

-- without rules a library refuses nothing
pub unruled_beyond : (rows : List Row) (at : ℕ) (c : Items) → length rows ≡ 0 → beyond_verdict rows at c ≡ None
unruled_beyond [] at c e = no_pass (command_visits [] at c)
unruled_beyond (row ∷ rows) at c e = absurd (omega (arith, e))

-- with rules it refuses of a command what it refuses of its elements
pub ruled_beyond : (rows : List Row) (at : ℕ) (c : Items) (s : Station) (result : Result (Unit {0}) MarkFault)
    → 0 < length rows → content_verdict rows at c ≡ None → s ≡ command_of (names_of c)
    → ChecksPlaces rows (visits_in rows s [] at (node 3 c)) result
    → Refuses (beyond_verdict rows at c) result
ruled_beyond [] at c s result some accepted is told = absurd (omega (arith, some))
ruled_beyond (row ∷ others) at c s result some accepted is told =
    let rows : List Row = row ∷ others in
    let inside : List Visit = part_visits rows (command_of (names_of c)) at c in
    let parts = neither (refused_at 0 (ruled_of rows (command_visit c))) (first_refusal (ruled_of rows) inside)
    (sym (with_rows rows at c some) ∙ accepted) in
    subst (λ (r : Option Refusal). Refuses r result) (sym (same_pass row others inside))
    (below_inside rows (command_of (names_of c)) s [] at (node 3 c) result is told parts.1)

-- the marks of a command of which a library refuses nothing
pub more_told : (rows : List Row) (c : At) (marks : List Mark) → TellsMarks rows c (Ok marks)
    → beyond_verdict rows c.start c.tree ≡ None → TellsMore rows c (Ok marks)
more_told rows c marks told none = (told.0, told.1, none)

-- or its refusal
pub more_refused : (rows : List Row) (c : At) (fault : MarkFault) → content_verdict rows c.start c.tree ≡ None
    → Refuses (beyond_verdict rows c.start c.tree) (Err fault) → TellsMore rows c (Err fault)
more_refused rows c (faults.Refused reason at) none told =
    ap (λ (q : Option Refusal). or_else q (beyond_verdict rows c.start c.tree)) none ∙ told
more_refused rows c faults.Memory none told = absurd told

-- that of the contents comes first
pub more_contents : (rows : List Row) (c : At) (fault : MarkFault) → TellsMarks rows c (Err fault)
    → TellsMore rows c (Err fault)
more_contents rows c (faults.Refused reason at) told =
    ap (λ (q : Option Refusal). or_else q (beyond_verdict rows c.start c.tree)) told
more_contents rows c faults.Memory told = tt

either_read : (c : Items) (marked library : Bool) → is_marked_command c ≡ marked → is_library_command c ≡ library
    → (marked || library) ≡ true → passes c ≡ false
either_read c true library m l h = marked_read c m
either_read c false true m l h = library_read c l
either_read c false false m l h = absurd (false≢true h)

-- a command that a library takes doesn't pass unchanged
pub wide_read : (c : Items) → is_wide_command c ≡ true → passes c ≡ false
wide_read c h = either_read c (is_marked_command c) (is_library_command c) refl refl h

other_marked : (marked library : Bool) → (marked || library) ≡ true → library ≡ false → marked ≡ true
other_marked true library h l = refl
other_marked false true h l = absurd (false≢true (sym l))
other_marked false false h l = absurd (false≢true h)

-- a marked one is one that a library takes
pub marked_wide : (c : Items) → is_marked_command c ≡ true → is_wide_command c ≡ true
marked_wide c h = ap (λ (b : Bool). b || is_library_command c) h

-- one that isn't a library's alone is marked
pub wide_marked : (c : Items) → is_wide_command c ≡ true → is_library_command c ≡ false → is_marked_command c ≡ true
wide_marked c h l = other_marked (is_marked_command c) (is_library_command c) h l
