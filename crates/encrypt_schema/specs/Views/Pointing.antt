-- The rules' pointers as they are read in one document.
use Rattle.std.specs.Prelude.{◌≡◌, ℕ, List, Option, Some, refl}
use Rattle.std.specs.Coded.{Coded, code_by, coded×, coded_option}
use Rattle.bson_codec.specs.Borrowed.{At, coded_at}
use Rattle.encrypt_schema.specs.declared.command.marks.Span.{Span}
use Rattle.encrypt_schema.specs.contracts.path.rows.Rows as rules
use Rattle.encrypt_schema.specs.Language.Row.{Row}
use Rattle.encrypt_schema.specs.Commands.Pointers.{Targets, nth_span}
use Rattle.encrypt_schema.specs.Views.Slots.{ShareKeys, nth_known}
use Rattle.encrypt_schema.specs.Views.Walking.{targets_seen}

-- rules, and the document from which their pointers are read, where there is one
pub record Read : Type 0 where
  pub rows : List Row
  pub root : Option At

-- how the logic stores it
abbrev pub coded_read : Coded Read
coded_read = code_by (List Row × Option At) (coded× rules.the_row.coded (coded_option coded_at)) (λ r. (r.rows, r.root))
    (λ p. record { rows = p.0; root = p.1 }) (λ _. refl)

-- the targets of the rules' pointers there
abbrev pub targets_read : Read → Targets
targets_read r = targets_seen r.rows r.root

-- what is kept for a slot is where the key of each of its rules is named
pub record AreKept (rows : List Row) (root : Option At) (slots : List (Option ℕ)) (names : List (Option Span))
    : Type 0 where
  pub shared : ShareKeys slots rows
  pub kept : (i s : ℕ) (name : Span) → nth_known slots i ≡ Some s → nth_known names s ≡ Some name
      → Some name ≡ nth_span i (targets_seen rows root)
