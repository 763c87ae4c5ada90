-- MongoDB commands insert, update, delete and find: the places of a command in reading order, the marks of
-- those that are protected, and the first that is refused.
use Rattle.std.specs.Prelude.{ℕ, ◌+◌, ◌==◌, Bool, false, ◌&&◌, List, [], ◌∷◌, ◌++◌, length, Option, Some, None}
use Rattle.std.specs.Prelude.{slice_index, ◌-◌, take, drop, option_map}
use Rattle.encrypt_schema.specs.declared.command.marks.Span.{Span}
use Rattle.bson_tree.specs.Tree.{Tree, leaf, node, Items, no_items, item, tag_of, kids_of}
use Rattle.bson_tree.specs.Spelling.{value_bytes}
use Rattle.encrypt_schema.specs.declared.command.marks.Mark.{Mark}
use Rattle.encrypt_schema.specs.declared.command.marks.Role.{Role}
use Rattle.encrypt_schema.specs.declared.command.marks.Role.TheVariants as role
use Rattle.encrypt_schema.specs.declared.command.reason.Reason.{Reason}
use Rattle.encrypt_schema.specs.Language.Row.{Row}
use Rattle.encrypt_schema.specs.Commands.Stations.{Entry, Station, Outside, Store, Compare, station}
use Rattle.encrypt_schema.specs.Language.Collection.{Collection}
pub use Rattle.encrypt_schema.specs.Language.Values.{names_of}
use Rattle.encrypt_schema.specs.Commands.Pointers.{Targets, pointed, nth_target, nth_span}
use Rattle.encrypt_schema.specs.Commands.Offences.{target_offence, view_offence, judged_offence, content_offence}

-- the bytes of a raw value; none of a document or an array
abbrev pub raw_of : Tree → List ℕ
raw_of (leaf tag bytes) = bytes
raw_of (node tag is) = []

-- a binary (05) of subtype 06: a length of four bytes, the subtype, the contents
unfoldable pub is_payload : ℕ → List ℕ → Bool
is_payload tag bytes = tag == 5 && slice_index bytes 4 == 6

-- a value that is a binary of subtype 06
abbrev pub holds_payload : Tree → Bool
holds_payload (leaf tag bytes) = is_payload tag bytes
holds_payload (node tag is) = false

-- what is looked at of a value with a name
abbrev pub entry : List ℕ → Tree → Entry
entry name t = record {
  name = name;
  tag = tag_of t;
  names = names_of (kids_of t);
  raw = raw_of t;
  payload = holds_payload t;
}

-- what is looked at of a command: a document without a name
abbrev pub command_entry : Items → Entry
command_entry c = entry [] (node 3 c)

-- a place: its parent's station, the names of its elder siblings, what is looked at of it, the offset at
-- which its value begins, and the length of its value; and the targets of pointers there
pub record Visit : Type 0 where
  pub parent : Station
  pub targets : Targets
  pub elder : List (List ℕ)
  pub entry : Entry
  pub start : ℕ
  pub width : ℕ

-- the place of an element that begins at `at`: a type byte, the name, 00, the value
abbrev pub visit : Station → Targets → List (List ℕ) → ℕ → List ℕ → Tree → Visit
visit parent ts elder at name t = record {
  parent = parent;
  targets = ts;
  elder = elder;
  entry = entry name t;
  start = at + (2 + length name);
  width = length (value_bytes t);
}

abbrev mutual
  -- the places inside a value of this station that begins at `at`, by the targets of pointers around it
  pub visits_in : List Row → Station → Targets → ℕ → Tree → List Visit
  visits_in rows s ts at (leaf tag bytes) = []
  visits_in rows s ts at (node tag is) = visits rows s (pointed rows s ts at is) (at + 4) [] is

  -- the places of elements that begin at `at`, whose parent has this station and whose elder siblings have
  -- these names, and the places inside them; these are the targets of pointers there
  pub visits : List Row → Station → Targets → ℕ → List (List ℕ) → Items → List Visit
  visits rows parent ts at elder no_items = []
  visits rows parent ts at elder (item name t is) =
      visit parent ts elder at name t
      ∷ (visits_in rows (station rows parent (entry name t)) ts (at + (2 + length name)) t
      ++ visits rows parent ts (at + (2 + length name) + length (value_bytes t)) (elder ++ name ∷ []) is)

-- the places inside a document of this station that begins at `at`, of which no more is known
abbrev pub part_visits : List Row → Station → ℕ → Items → List Visit
part_visits rows s at is = visits rows s (pointed rows s [] at is) (at + 4) [] is

-- the place of a command itself, which is told at 0, where no value begins
abbrev pub command_visit : Items → Visit
command_visit c = record {
  parent = Outside;
  targets = [];
  elder = [];
  entry = command_entry c;
  start = 0;
  width = length (value_bytes (node 3 c));
}

-- all places of a command that begins at `at`, itself first
abbrev pub command_visits : List Row → ℕ → Items → List Visit
command_visits rows at c = command_visit c ∷ part_visits rows (station rows Outside (command_entry c)) at c

-- the station of a place
abbrev pub station_of : List Row → Visit → Station
station_of rows v = station rows v.parent v.entry

-- the mark of a place for a rule and a role
abbrev pub mark : Visit → ℕ → Role → Mark
mark v i why = record {
  start = v.start;
  end = v.start + v.width;
  tag = v.entry.tag;
  policy = i;
  role = why;
  name = nth_span i v.targets;
}

-- the mark of a place of this station; none where it isn't protected
abbrev pub mark_at : Station → Visit → List Mark
mark_at (Store i) v = mark v i role.Store ∷ []
mark_at (Compare i) v = mark v i role.Compare ∷ []
mark_at _ v = []

-- the marks of places, in order
abbrev pub marks : List Row → List Visit → List Mark
marks rows [] = []
marks rows (v ∷ vs) = mark_at (station_of rows v) v ++ marks rows vs

-- the text of the target of the rule's pointer, of a place of this station; none where it isn't protected
abbrev pub text_at : Station → Visit → List (Option (List ℕ))
text_at (Store i) v = option_map (λ t. t.text) (nth_target i v.targets) ∷ []
text_at (Compare i) v = option_map (λ t. t.text) (nth_target i v.targets) ∷ []
text_at _ v = []

-- those of marks, in order
abbrev pub texts : List Row → List Visit → List (Option (List ℕ))
texts rows [] = []
texts rows (v ∷ vs) = text_at (station_of rows v) v ++ texts rows vs

-- the bytes of a span, in bytes that begin at `at`
abbrev pub text_in : ℕ → List ℕ → Span → List ℕ
text_in at bytes span = take (span.end - span.start) (drop (span.start - at) bytes)

-- the protected places of a command that begins at `at`, in reading order
abbrev pub roles : List Row → ℕ → Items → List Mark
roles rows at c = marks rows (command_visits rows at c)

-- the offence of a place in the target pass
abbrev pub target_of : List ℕ → Visit → Option Reason
target_of db v = target_offence db v.parent v.elder v.entry

-- the offence of a place in the view pass
abbrev pub view_of : Option Collection → Visit → Option Reason
view_of info v = view_offence info v.parent v.elder v.entry

-- the offence of a place in the content pass, under rules
abbrev pub ruled_of : List Row → Visit → Option Reason
ruled_of rows v = judged_offence rows v.targets v.parent v.elder v.entry

-- the offence of a place in the content pass, whether there are rules or not
abbrev pub content_of : List Row → Visit → Option Reason
content_of rows v = content_offence rows v.targets v.parent v.elder v.entry

-- why a command is refused, and the offset of the value that is refused; 0 for the command itself
pub record Refusal : Type 0 where
  pub reason : Reason
  pub at : ℕ

-- a refusal at an offset, where there is a reason
abbrev pub refused_at : ℕ → Option Reason → Option Refusal
refused_at at None = None
refused_at at (Some reason) = Some (record { reason = reason; at = at })

-- the first refusal of two
abbrev pub or_else : Option Refusal → Option Refusal → Option Refusal
or_else None later = later
or_else (Some first) later = Some first

-- the refusal of the first place that a pass refuses
abbrev pub first_refusal : (Visit → Option Reason) → List Visit → Option Refusal
first_refusal pass [] = None
first_refusal pass (v ∷ vs) = or_else (refused_at v.start (pass v)) (first_refusal pass vs)

-- the verdict on places: that of the target pass; else that of the view; else that of the content pass
abbrev pub verdict_on : List ℕ → Option Collection → List Row → List Visit → Option Refusal
verdict_on db info rows vs =
    or_else (first_refusal (target_of db) vs)
    (or_else (first_refusal (view_of info) vs) (first_refusal (content_of rows) vs))

-- the verdict of the target pass on a command that begins at `at`: it looks at the command and its fields, whatever
-- the rules are
abbrev pub target_verdict : List ℕ → ℕ → Items → Option Refusal
target_verdict db at c = first_refusal (target_of db) (command_visits [] at c)

-- the verdict of the content pass
abbrev pub content_verdict : List Row → ℕ → Items → Option Refusal
content_verdict rows at c = first_refusal (content_of rows) (command_visits rows at c)
