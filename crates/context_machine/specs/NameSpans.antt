-- MongoDB Client Side Encryption: where texts stand that name keys which are needed already
use Rattle.std.specs.Prelude.{◌≡◌, ◌==◌, ◌+◌, ℕ, Bool, true, false, List, Option, Some, None}
use Rattle.std.specs.BTreeMap.{get_by}
use Rattle.std.specs.Ordering.{nat_cmp}
use Rattle.bson_codec.specs.Borrowed.{At}
use Rattle.bson_tree.specs.Spelling.{items_bytes}
use Rattle.encrypt_schema.specs.Commands.Visits.{text_in}
use Rattle.encrypt_schema.specs.declared.command.marks.Span.{Span}
use Rattle.payload6.specs.Needs.{Need, Name}
use Rattle.context_machine.specs.declared.name_spans.NameSpans.{NameSpans}
use Rattle.context_machine.specs.Needs.{NeedAt, is_needed}

-- a text that was found ends there
abbrev pub is_end : Option ℕ → ℕ → Bool
is_end None end = false
is_end (Some found) end = found == end

-- a text stands there
abbrev pub has_span : NameSpans → Span → Bool
has_span names span = is_end (get_by (nat_cmp span.start) names.ends) span.end

-- the key that the text at a place of a command names
abbrev pub name_in : At → Span → Need
name_in d span = Name (text_in (d.start + 4) (items_bytes d.tree) span)

-- each text of a command that stands in one of these places is needed
abbrev pub AreNeeded : At → List NeedAt → NameSpans → Type 0
AreNeeded d needs names = (span : Span) → has_span names span ≡ true → is_needed (name_in d span) needs ≡ true
