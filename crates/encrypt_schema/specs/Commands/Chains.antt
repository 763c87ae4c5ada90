-- MongoDB commands insert, update, delete and find, by places: what a place is, read from its chain, which is
-- the command, the place's ancestors and itself. A place is a list of child numbers; the empty one is the
-- command itself.
use Rattle.std.specs.Prelude.{ℕ, zero, suc, ◌+◌, Bool, false, not, ◌||◌, List, [], ◌∷◌, ◌++◌, length, Option, Some}
use Rattle.std.specs.Prelude.{None, unwrap_or, map, option_map, option_and_then, flat_map}
use Rattle.std.specs.Option.{option_map_or}
use Rattle.bson_tree.specs.Tree.{Tree, leaf, node, Items, no_items, item}
use Rattle.bson_tree.specs.Places.{tree_at, start_from, places}
use Rattle.bson_tree.specs.Spelling.{value_bytes}
use Rattle.encrypt_schema.specs.declared.command.marks.Mark.{Mark}
use Rattle.encrypt_schema.specs.declared.command.marks.Role.{Role}
use Rattle.encrypt_schema.specs.declared.command.marks.Role.TheVariants as role
use Rattle.encrypt_schema.specs.declared.command.reason.Reason.{Reason}
use Rattle.encrypt_schema.specs.Language.Row.{Row}
use Rattle.encrypt_schema.specs.Commands.Stations.{Entry, Station, Outside, Store, Compare, station, has_role}
use Rattle.encrypt_schema.specs.Commands.Pointers.{Targets, pointed}
use Rattle.encrypt_schema.specs.Commands.Offences.{offence}
use Rattle.encrypt_schema.specs.Language.Collection.{Collection}
use Rattle.encrypt_schema.specs.Commands.Visits.{entry, command_entry, Visit, target_of, view_of, content_of}
use Rattle.encrypt_schema.specs.Commands.Visits.{station_of, mark_at}
use Rattle.encrypt_schema.specs.Commands.Visits.{Refusal, refused_at, or_else}

-- what is looked at of an ancestor or of the place: the names of its elder siblings, and itself
pub record Link : Type 0 where
  pub elder : List (List ℕ)
  pub entry : Entry

-- from the outermost ancestor to the place
pub data Chain : Type 0 where
  last : Link → Chain
  onward : Link → Chain → Chain

-- the link of a value with a name behind these elder siblings
abbrev pub link : List (List ℕ) → List ℕ → Tree → Link
link elder name t = record { elder = elder; entry = entry name t }

abbrev mutual
  -- the chain of the place below a value with a name, and behind elder siblings of these names; none where
  -- there is no such place
  pub chain_in : List (List ℕ) → List ℕ → List ℕ → Tree → Option Chain
  chain_in elder name [] t = Some (last (link elder name t))
  chain_in elder name (i ∷ place) (leaf tag bytes) = None
  chain_in elder name (i ∷ place) (node tag is) =
      option_map (onward (link elder name (node tag is))) (chain_from [] i place is)

  -- the same below child number i of these, which stand behind elder siblings of these names
  pub chain_from : List (List ℕ) → ℕ → List ℕ → Items → Option Chain
  chain_from elder i place no_items = None
  chain_from elder zero place (item name t is) = chain_in elder name place t
  chain_from elder (suc i) place (item name t is) = chain_from (elder ++ name ∷ []) i place is

-- the chain of a place of a command
abbrev pub chain : List ℕ → Items → Option Chain
chain place c = chain_in [] [] place (node 3 c)

-- the station of the parent of the last place of a chain, where the chain begins below a value of this one
abbrev pub parent_along : List Row → Station → Chain → Station
parent_along rows s (last l) = s
parent_along rows s (onward l rest) = parent_along rows (station rows s l.entry) rest

-- the last place of a chain
abbrev pub last_of : Chain → Link
last_of (last l) = l
last_of (onward l rest) = last_of rest

-- the station of the last place of a chain that begins below a value of this station
abbrev pub station_along : List Row → Station → Chain → Station
station_along rows s links = station rows (parent_along rows s links) (last_of links).entry

-- the offence of the last place of a chain that begins below a value of this station
abbrev pub offence_along : List ℕ → Option Collection → List Row → Station → Targets → Chain → Option Reason
offence_along db info rows s ts links =
    offence db info rows ts (parent_along rows s links) (last_of links).elder (last_of links).entry

-- the station of a place of a command; none where there is no such place
abbrev pub station_at : List Row → Items → List ℕ → Option Station
station_at rows c place = option_map (station_along rows Outside) (chain place c)

abbrev mutual
  -- the targets of pointers for the place below a value of this station that begins at `at`, by those around the value
  pub targets_in : List Row → Station → Targets → ℕ → List ℕ → Tree → Targets
  targets_in rows s ts at [] t = ts
  targets_in rows s ts at (i ∷ place) (leaf tag bytes) = ts
  targets_in rows s ts at (i ∷ place) (node tag is) =
      targets_from rows s (pointed rows s ts at is) (at + 4) i place is

  -- the same below elements that begin at `at`
  pub targets_from : List Row → Station → Targets → ℕ → ℕ → List ℕ → Items → Targets
  targets_from rows s ts at i place no_items = ts
  targets_from rows s ts at zero place (item name t is) =
      targets_in rows (station rows s (entry name t)) ts (at + (2 + length name)) place t
  targets_from rows s ts at (suc i) place (item name t is) =
      targets_from rows s ts (at + (2 + length name) + length (value_bytes t)) i place is

-- the targets of pointers for a place of a command that begins at `at`: those in the stored document around it
abbrev pub targets_at : List Row → ℕ → Items → List ℕ → Targets
targets_at rows at c place = targets_in rows (station rows Outside (command_entry c)) [] at place (node 3 c)

-- the offence of a place of a command that begins at `at`, whichever pass it belongs to
abbrev pub offence_at : List ℕ → Option Collection → List Row → ℕ → Items → List ℕ → Option Reason
offence_at db info rows at c place =
    option_and_then (offence_along db info rows Outside (targets_at rows at c place)) (chain place c)

-- the length of the value at a place
abbrev pub width_at : List ℕ → Tree → ℕ
width_at place t = unwrap_or (option_map (λ value. length (value_bytes value)) (tree_at place t)) 0

-- a place with this chain, whose value begins at an offset and has a length
abbrev pub visit_along : List Row → Station → Targets → ℕ → ℕ → Chain → Visit
visit_along rows s ts start width links = record {
  parent = parent_along rows s links;
  targets = ts;
  elder = (last_of links).elder;
  entry = (last_of links).entry;
  start = start;
  width = width;
}

-- where the value at a place of a command that begins at `at` begins; 0 for the command itself
abbrev pub start_at : ℕ → List ℕ → Items → ℕ
start_at at [] c = 0
start_at at (i ∷ place) c = unwrap_or (start_from i place (at + 4) c) 0

-- a place of a command that begins at `at`, read from its chain; none where there is no such place
abbrev pub visit_at : List Row → ℕ → Items → List ℕ → Option Visit
visit_at rows at c place =
    option_map (visit_along rows Outside (targets_at rows at c place) (start_at at place c) (width_at place (node 3 c)))
    (chain place c)

-- the refusal of a place of a command that begins at `at`, in a pass
abbrev pub refusal_at : (Visit → Option Reason) → List Row → ℕ → Items → List ℕ → Option Refusal
refusal_at pass rows at c place = option_and_then (λ v. refused_at v.start (pass v)) (visit_at rows at c place)

-- the chain of a place inside a document; none of the document itself
abbrev pub chain_inside : List ℕ → Items → Option Chain
chain_inside [] is = None
chain_inside (i ∷ place) is = chain_from [] i place is

-- a place inside a part of a command, as it is visited: a document of this station that begins at `at`
abbrev pub part_visit_at : List Row → Station → ℕ → Items → List ℕ → Option Visit
part_visit_at rows s at is place =
    option_map
    (visit_along rows s (targets_in rows s [] at place (node 3 is)) (start_at at place is) (width_at place (node 3 is)))
    (chain_inside place is)

-- the station of a place inside a part of a command
abbrev pub part_station_at : List Row → Station → Items → List ℕ → Option Station
part_station_at rows s is place = option_map (station_along rows s) (chain_inside place is)

-- the offence of a place inside a part of a command that begins at `at`
abbrev pub part_offence_at : List ℕ → Option Collection → List Row → Station → ℕ → Items → List ℕ → Option Reason
part_offence_at db info rows s at is place =
    option_and_then (offence_along db info rows s (targets_in rows s [] at place (node 3 is))) (chain_inside place is)

-- the first refusal of several
abbrev pub first_of : List (Option Refusal) → Option Refusal
first_of [] = None
first_of (refused ∷ others) = or_else refused (first_of others)

-- the refusal of the first of a command's places that a pass refuses
abbrev pub first_refusal_at : (Visit → Option Reason) → List Row → ℕ → Items → Option Refusal
first_refusal_at pass rows at c = first_of (map (refusal_at pass rows at c) (places c))

-- the verdict on a command that begins at `at`, by places: the target pass; else the view; else the content pass
abbrev pub verdict_at : List ℕ → Option Collection → List Row → ℕ → Items → Option Refusal
verdict_at db info rows at c =
    or_else (first_refusal_at (target_of db) rows at c)
    (or_else (first_refusal_at (view_of info) rows at c) (first_refusal_at (content_of rows) rows at c))

-- an ancestor of the last place of a chain is protected
abbrev pub is_below_role : List Row → Station → Chain → Bool
is_below_role rows s (last l) = false
is_below_role rows s (onward l rest) =
    has_role (station rows s l.entry) || is_below_role rows (station rows s l.entry) rest

-- a place of a command with no protected ancestor
abbrev pub is_shown : List Row → Items → List ℕ → Bool
is_shown rows c place = option_map_or (λ links. not (is_below_role rows Outside links)) (chain place c) false

-- a protected place: itself, the number of its rule, what it is there for
pub record Site : Type 0 where
  pub place : List ℕ
  pub policy : ℕ
  pub role : Role

-- the site of a place of this station; none where it isn't protected
abbrev pub site_at : List ℕ → Station → List Site
site_at place (Store i) = record { place = place; policy = i; role = role.Store } ∷ []
site_at place (Compare i) = record { place = place; policy = i; role = role.Compare } ∷ []
site_at place _ = []

-- the site of a place of a command
abbrev pub site_of : List Row → Items → List ℕ → List Site
site_of rows c place = option_map_or (site_at place) (station_at rows c place) []

-- the protected places of a command, in reading order
abbrev pub sites : List Row → Items → List Site
sites rows c = flat_map (site_of rows c) (places c)

-- the mark of a place of a command that begins at `at`; none where it isn't protected
abbrev pub mark_of : List Row → ℕ → Items → List ℕ → List Mark
mark_of rows at c place = option_map_or (λ v. mark_at (station_of rows v) v) (visit_at rows at c place) []

-- the rule and the role of a mark
abbrev pub use_of_mark : Mark → ℕ × Role
use_of_mark m = (m.policy, m.role)

-- the rule and the role of a site
abbrev pub use_of_site : Site → ℕ × Role
use_of_site x = (x.policy, x.role)
