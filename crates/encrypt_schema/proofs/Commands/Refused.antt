-- By places: where a command is refused there is an offence, and where it isn't there is none.
use Rattle.std.proofs.Common.{◌≡◌, ℕ, Bool, true, false, not, ◌&&◌, ◌||◌, List, [], ◌∷◌, map, Option, Some, None}
use Rattle.std.proofs.Common.{option_map, option_and_then, refl, sym, ap, ap₂, ◌∙◌}
use Rattle.std.specs.List.{list_all}
use Rattle.std.specs.Option.{is_none, option_map_or}
use Rattle.std.proofs.lemmas.Bool.{false≢true}
use Rattle.std.proofs.lemmas.List.Folds.{list_all-map}
use Rattle.bson_tree.specs.Tree.{Items, node}
use Rattle.bson_tree.specs.Places.{places}
use Rattle.encrypt_schema.specs.declared.command.reason.Reason.{Reason}
use Rattle.encrypt_schema.specs.Language.Collection.{Collection}
use Rattle.encrypt_schema.specs.Language.Row.{Row}
use Rattle.encrypt_schema.specs.Commands.Stations.{Station, Outside, station, has_role, is_silent}
use Rattle.encrypt_schema.specs.Commands.Offences.{first_reason}
use Rattle.encrypt_schema.specs.Commands.Pointers.{Targets}
use Rattle.encrypt_schema.specs.Commands.Visits.{Visit, command_visits, target_of, view_of, content_of, Refusal}
use Rattle.encrypt_schema.specs.Commands.Visits.{refused_at, or_else, first_refusal, verdict_on}
use Rattle.encrypt_schema.specs.Commands.Skeletons.{skeleton}
use Rattle.encrypt_schema.specs.Commands.Chains.{Chain, last, onward, chain, parent_along, visit_along, visit_at}
use Rattle.encrypt_schema.specs.Commands.Chains.{width_at, start_at, offence_at, refusal_at, first_of, first_refusal_at}
use Rattle.encrypt_schema.specs.Commands.Chains.{targets_at, is_below_role, is_shown}
use Rattle.encrypt_schema.proofs.Commands.Silence.{IsQuiet, child_passed, role_silent, target_quiet, view_quiet}
use Rattle.encrypt_schema.proofs.Commands.Silence.{content_quiet}
use Rattle.encrypt_schema.proofs.Commands.Worlds.{IsVeiled, veil, target_veiled, view_veiled, content_veiled}
use Rattle.encrypt_schema.proofs.Commands.ByPlace.{refusal, offence_by, offence_read, offences_by_place}
use Rattle.encrypt_schema.proofs.Commands.ByPlace.{verdict_by_place}
use Rattle.encrypt_schema.proofs.Commands.EqualOffences.{equal_visits}

-- the first of two is none, and so is the second
pub first_none : (r s : Option Refusal) → or_else r s ≡ None → r ≡ None
first_none None s e = refl
first_none (Some x) s e = absurd cc

pub second_none : (r s : Option Refusal) → or_else r s ≡ None → s ≡ None
second_none None s e = e
second_none (Some x) s e = absurd cc

-- a place at which a pass refuses; a pass that refuses no place doesn't refuse this one
pub record Found (f : List ℕ → Option Refusal) (ps : List (List ℕ)) (r : Refusal) : Type 0 where
  pub place : List ℕ
  pub is : f place ≡ Some r
  pub free : (g : List ℕ → Option Refusal) → first_of (map g ps) ≡ None → g place ≡ None

found_by : (f : List ℕ → Option Refusal) (p : List ℕ) (ps : List (List ℕ)) (r : Refusal) (o : Option Refusal) → f p ≡ o
    → (first_of (map f ps) ≡ Some r → Found f ps r) → or_else o (first_of (map f ps)) ≡ Some r → Found f (p ∷ ps) r
found_by f p ps r None is later e =
    let rest = later e in
    record { place = rest.place; is = rest.is; free = λ g h. rest.free g (second_none (g p) (first_of (map g ps)) h) }
found_by f p ps r (Some x) is later e =
    record { place = p; is = is ∙ e; free = λ g h. first_none (g p) (first_of (map g ps)) h }

-- the first refusal of places is that of one of them
pub found : (f : List ℕ → Option Refusal) (ps : List (List ℕ)) (r : Refusal) → first_of (map f ps) ≡ Some r
    → Found f ps r
found f [] r e = absurd cc
found f (p ∷ ps) r e = found_by f p ps r (f p) refl (found f ps r) e

-- no offence, by no refusal
unrefused : (at : ℕ) (o : Option Reason) → refused_at at o ≡ None → o ≡ None
unrefused at None e = refl
unrefused at (Some r) e = absurd cc

reason_of : (at : ℕ) (o : Option Reason) (r : Refusal) → refused_at at o ≡ Some r → o ≡ Some r.reason
reason_of at None r e = absurd cc
reason_of at (Some x) r e = ap (option_map (λ (y : Refusal). y.reason)) e

-- the offence of a place that the target pass refuses
by_target : (db : List ℕ) (info : Option Collection) (rows : List Row) (o : Option Visit) (r : Refusal)
    → option_and_then (refusal (target_of db)) o ≡ Some r → option_and_then (offence_by db info rows) o ≡ Some r.reason
by_target db info rows None r e = absurd cc
by_target db info rows (Some v) r e =
    ap (λ (x : Option Reason). first_reason x (first_reason (view_of info v) (content_of rows v)))
    (reason_of v.start (target_of db v) r e)

-- that the view refuses
by_view : (db : List ℕ) (info : Option Collection) (rows : List Row) (o : Option Visit) (r : Refusal)
    → option_and_then (refusal (target_of db)) o ≡ None → option_and_then (refusal (view_of info)) o ≡ Some r
    → option_and_then (offence_by db info rows) o ≡ Some r.reason
by_view db info rows None r t e = absurd cc
by_view db info rows (Some v) r t e =
    ap (λ (x : Option Reason). first_reason x (first_reason (view_of info v) (content_of rows v)))
    (unrefused v.start (target_of db v) t)
    ∙ ap (λ (x : Option Reason). first_reason x (content_of rows v)) (reason_of v.start (view_of info v) r e)

-- that the content pass refuses
by_content : (db : List ℕ) (info : Option Collection) (rows : List Row) (o : Option Visit) (r : Refusal)
    → option_and_then (refusal (target_of db)) o ≡ None → option_and_then (refusal (view_of info)) o ≡ None
    → option_and_then (refusal (content_of rows)) o ≡ Some r
    → option_and_then (offence_by db info rows) o ≡ Some r.reason
by_content db info rows None r t w e = absurd cc
by_content db info rows (Some v) r t w e =
    ap (λ (x : Option Reason). first_reason x (first_reason (view_of info v) (content_of rows v)))
    (unrefused v.start (target_of db v) t)
    ∙ ap (λ (x : Option Reason). first_reason x (content_of rows v)) (unrefused v.start (view_of info v) w)
    ∙ reason_of v.start (content_of rows v) r e

-- a refused place: the pass that refuses it, and its offence
pub record Refused (db : List ℕ) (info : Option Collection) (rows : List Row) (c : Items) (r : Refusal) : Type 0 where
  pub pass : Visit → Option Reason
  pub quiet : IsQuiet pass
  pub read : IsVeiled pass rows
  pub place : List ℕ
  pub is : refusal_at pass rows 0 c place ≡ Some r
  pub offence : offence_at db info rows 0 c place ≡ Some r.reason

-- by the first pass that refuses
refused_by : (db : List ℕ) (info : Option Collection) (rows : List Row) (c : Items) (r : Refusal)
    (t w k : Option Refusal)
    → first_refusal_at (target_of db) rows 0 c ≡ t → first_refusal_at (view_of info) rows 0 c ≡ w
    → first_refusal_at (content_of rows) rows 0 c ≡ k
    → or_else t (or_else w k) ≡ Some r → Refused db info rows c r
refused_by db info rows c r (Some x) w k p q s e =
    let at = found (refusal_at (target_of db) rows 0 c) (places c) r (p ∙ e) in
    record {
      pass = target_of db;
      quiet = target_quiet db;
      read = target_veiled db rows;
      place = at.place;
      is = at.is;
      offence = sym (offence_read db info rows 0 c at.place)
          ∙ by_target db info rows (visit_at rows 0 c at.place) r at.is;
    }
refused_by db info rows c r None (Some x) k p q s e =
    let at = found (refusal_at (view_of info) rows 0 c) (places c) r (q ∙ e) in
    record {
      pass = view_of info;
      quiet = view_quiet info;
      read = view_veiled info rows;
      place = at.place;
      is = at.is;
      offence = sym (offence_read db info rows 0 c at.place)
          ∙ by_view db info rows (visit_at rows 0 c at.place) r (at.free (refusal_at (target_of db) rows 0 c) p) at.is;
    }
refused_by db info rows c r None None k p q s e =
    let at = found (refusal_at (content_of rows) rows 0 c) (places c) r (s ∙ e) in
    record {
      pass = content_of rows;
      quiet = content_quiet rows;
      read = content_veiled rows;
      place = at.place;
      is = at.is;
      offence = sym (offence_read db info rows 0 c at.place)
          ∙ by_content db info rows (visit_at rows 0 c at.place) r
          (at.free (refusal_at (target_of db) rows 0 c) p) (at.free (refusal_at (view_of info) rows 0 c) q) at.is;
    }

-- a verdict is the refusal of a place with its offence
pub refused : (db : List ℕ) (info : Option Collection) (rows : List Row) (c : Items) (r : Refusal)
    → verdict_on db info rows (command_visits rows 0 c) ≡ Some r → Refused db info rows c r
refused db info rows c r e =
    refused_by db info rows c r _ _ _ refl refl refl (sym (verdict_by_place db info rows 0 c) ∙ e)

-- nothing is refused below a protected place

silent_parent : (rows : List Row) (s : Station) (links : Chain) → is_silent s ≡ true
    → is_silent (parent_along rows s links) ≡ true
silent_parent rows s (last l) h = h
silent_parent rows s (onward l rest) h =
    silent_parent rows (station rows s l.entry) rest (ap is_silent (child_passed rows s l.entry h))

below_cases : (rows : List Row) (u : Station) (rest : Chain) (b : Bool) → has_role u ≡ b
    → (b || is_below_role rows u rest) ≡ true
    → (is_below_role rows u rest ≡ true → is_silent (parent_along rows u rest) ≡ true)
    → is_silent (parent_along rows u rest) ≡ true
below_cases rows u rest true h e later = silent_parent rows u rest (role_silent u h)
below_cases rows u rest false h e later = later e

below_silent : (rows : List Row) (s : Station) (links : Chain) → is_below_role rows s links ≡ true
    → is_silent (parent_along rows s links) ≡ true
below_silent rows s (last l) h = absurd (false≢true h)
below_silent rows s (onward l rest) h =
    below_cases rows (station rows s l.entry) rest (has_role (station rows s l.entry)) refl h
    (below_silent rows (station rows s l.entry) rest)

shown_by : (pass : Visit → Option Reason) (rows : List Row) (ts : Targets) (start width : ℕ) (links : Chain)
    (r : Refusal) (b : Bool)
    → IsQuiet pass
    → is_below_role rows Outside links ≡ b → refusal pass (visit_along rows Outside ts start width links) ≡ Some r
    → not b ≡ true
shown_by pass rows ts start width links r true quiet h e =
    let none = quiet.clear (visit_along rows Outside ts start width links) (below_silent rows Outside links h) in
    let gone = sym (ap (refused_at start) none) ∙ e in
    absurd cc
shown_by pass rows ts start width links r false quiet h e = refl

shown_in : (pass : Visit → Option Reason) (rows : List Row) (ts : Targets) (start width : ℕ) (o : Option Chain)
    (r : Refusal)
    → IsQuiet pass
    → option_and_then (refusal pass) (option_map (visit_along rows Outside ts start width) o) ≡ Some r
    → option_map_or (λ links. not (is_below_role rows Outside links)) o false ≡ true
shown_in pass rows ts start width None r quiet e = absurd cc
shown_in pass rows ts start width (Some links) r quiet e =
    shown_by pass rows ts start width links r (is_below_role rows Outside links) quiet refl e

-- a place that is refused has no protected ancestor
pub refused_shown : (pass : Visit → Option Reason) (rows : List Row) (c : Items) (place : List ℕ) (r : Refusal)
    → IsQuiet pass
    → refusal_at pass rows 0 c place ≡ Some r → is_shown rows c place ≡ true
refused_shown pass rows c place r quiet e =
    shown_in pass rows (targets_at rows 0 c place) (start_at 0 place c) (width_at place (node 3 c)) (chain place c) r
    quiet e

refusal_veiled : (pass : Visit → Option Reason) (rows : List Row) (o : Option Visit) → IsVeiled pass rows
    → option_and_then (refusal pass) (option_map (veil rows) o) ≡ option_and_then (refusal pass) o
refusal_veiled pass rows None p = refl
refusal_veiled pass rows (Some v) p = ap (refused_at v.start) (p.read v)

-- of two commands with equal skeletons the same is refused at each place with no protected ancestor
pub equal_refusal_at : (pass : Visit → Option Reason) (rows : List Row) (c d : Items) (place : List ℕ)
    → IsVeiled pass rows
    → skeleton rows c ≡ skeleton rows d → is_shown rows c place ≡ true
    → refusal_at pass rows 0 c place ≡ refusal_at pass rows 0 d place
equal_refusal_at pass rows c d place read e h =
    sym (refusal_veiled pass rows (visit_at rows 0 c place) read)
    ∙ (ap (option_and_then (refusal pass)) (equal_visits rows 0 c d e place h)
    ∙ refusal_veiled pass rows (visit_at rows 0 d place) read)

-- where nothing is refused

none_either : (r s : Option Refusal) → is_none (or_else r s) ≡ (is_none r && is_none s)
none_either None s = refl
none_either (Some x) s = refl

none_reason : (r s : Option Reason) → is_none (first_reason r s) ≡ (is_none r && is_none s)
none_reason None s = refl
none_reason (Some x) s = refl

none_refused : (at : ℕ) (o : Option Reason) → is_none (refused_at at o) ≡ is_none o
none_refused at None = refl
none_refused at (Some r) = refl

none_first : (pass : Visit → Option Reason) (vs : List Visit)
    → is_none (first_refusal pass vs) ≡ list_all (λ v. is_none (pass v)) vs
none_first pass [] = refl
none_first pass (v ∷ vs) =
    none_either (refused_at v.start (pass v)) (first_refusal pass vs)
    ∙ ap₂ (λ (a b : Bool). a && b) (none_refused v.start (pass v)) (none_first pass vs)

regrouped : (a b c x y z : Bool) → ((a && x) && ((b && y) && (c && z))) ≡ ((a && (b && c)) && (x && (y && z)))
regrouped false b c x y z = refl
regrouped true false c true y z = refl
regrouped true false c false y z = refl
regrouped true true c true true z = refl
regrouped true true true true false z = refl
regrouped true true false true false z = refl
regrouped true true true false y z = refl
regrouped true true false false y z = refl

all_three : (f g h : Visit → Bool) (vs : List Visit)
    → (list_all f vs && (list_all g vs && list_all h vs)) ≡ list_all (λ v. f v && (g v && h v)) vs
all_three f g h [] = refl
all_three f g h (v ∷ vs) =
    regrouped (f v) (g v) (h v) (list_all f vs) (list_all g vs) (list_all h vs)
    ∙ ap (λ (b : Bool). (f v && (g v && h v)) && b) (all_three f g h vs)

all_same : (f g : Visit → Bool) (vs : List Visit) → ((v : Visit) → f v ≡ g v) → list_all f vs ≡ list_all g vs
all_same f g [] e = refl
all_same f g (v ∷ vs) e = ap₂ (λ (a b : Bool). a && b) (e v) (all_same f g vs e)

none_at : (db : List ℕ) (info : Option Collection) (rows : List Row) (v : Visit)
    → (is_none (target_of db v) && (is_none (view_of info v) && is_none (content_of rows v)))
    ≡ is_none (offence_by db info rows v)
none_at db info rows v =
    sym (none_reason (target_of db v) (first_reason (view_of info v) (content_of rows v))
    ∙ ap (λ (b : Bool). is_none (target_of db v) && b) (none_reason (view_of info v) (content_of rows v)))

-- nothing is refused exactly where no place has an offence
pub accepted : (db : List ℕ) (info : Option Collection) (rows : List Row) (at : ℕ) (c : Items)
    → is_none (verdict_on db info rows (command_visits rows at c))
    ≡ list_all is_none (map (offence_at db info rows at c) (places c))
accepted db info rows at c =
    let vs = command_visits rows at c in
    let t : Visit → Bool = λ v. is_none (target_of db v) in
    let w : Visit → Bool = λ v. is_none (view_of info v) in
    let k : Visit → Bool = λ v. is_none (content_of rows v) in
    none_either (first_refusal (target_of db) vs)
    (or_else (first_refusal (view_of info) vs) (first_refusal (content_of rows) vs))
    ∙ ap (λ (b : Bool). is_none (first_refusal (target_of db) vs) && b)
    (none_either (first_refusal (view_of info) vs) (first_refusal (content_of rows) vs))
    ∙ ap₂ (λ (a b : Bool). a && b) (none_first (target_of db) vs)
    (ap₂ (λ (a b : Bool). a && b) (none_first (view_of info) vs) (none_first (content_of rows) vs))
    ∙ all_three t w k vs
    ∙ all_same (λ v. t v && (w v && k v)) (λ v. is_none (offence_by db info rows v)) vs (none_at db info rows)
    ∙ sym (list_all-map is_none (offence_by db info rows) vs)
    ∙ ap (list_all is_none) (sym (offences_by_place db info rows at c))
