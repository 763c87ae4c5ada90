-- The name that led to a data key last, while the values of a document are sealed
use Rattle.std.specs.Prelude.{◌≡◌, ◌+◌, Option, Some, None, List, IfSome, if◌then◌else◌}
use Rattle.bson_codec.specs.Borrowed.{At}
use Rattle.bson_tree.specs.Spelling.{items_bytes}
use Rattle.encrypt_schema.specs.declared.command.marks.Mark.{Mark}
use Rattle.encrypt_schema.specs.declared.command.marks.Span.{Span}
use Rattle.encrypt_schema.specs.Commands.Offences.{is_pointer}
use Rattle.encrypt_schema.specs.Commands.Visits.{text_in}
use Rattle.encrypt_schema.specs.Language.Policies.{policy_at}
use Rattle.encrypt_schema.specs.Language.Row.{Row}
use Rattle.payload6.specs.Needs.{Need, Name}
use Rattle.doc_rewrite.specs.declared.last_name.LastName.{LastName}
use Rattle.doc_rewrite.specs.Keys.{Found, Lookup}
use Rattle.doc_rewrite.specs.Plans.{Planned}
use Rattle.doc_rewrite.specs.Sites.{Site, sites_of}

-- where the text stands that names the key of a mark's value; none where the mark's rule has the key's id
abbrev pub name_of : List Row → Mark → Option Span
name_of rows m = if is_pointer (policy_at m.policy rows).key then m.name else None

-- the name that stands in a place of a document
abbrev pub name_in : At → Span → Need
name_in d span = Name (text_in (d.start + 4) (items_bytes d.tree) span)

-- the entry that a name led to
abbrev pub found_last : LastName → Found
found_last l = record { id = l.id; key = l.key.now }

-- what the name in a place of this document leads to is what is kept with the place
abbrev pub IsKept : Lookup → At → Option LastName → Type 0
IsKept keys d last = IfSome last (λ l. keys (name_in d l.span) ≡ Some (found_last l))

-- the sites are those of a plan's marks in a document, and what is kept is what a name of this document leads to
pub record KeepsLast (keys : Lookup) (plan : Planned) (ss : List Site) (last : Option LastName) : Type 0 where
  pub document : At
  pub own : ss ≡ sites_of plan.rows document plan.marks
  pub kept : IsKept keys document last
