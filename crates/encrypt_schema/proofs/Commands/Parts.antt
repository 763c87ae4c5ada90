-- The places of one part of a document's elements, and of the part behind it.
use Rattle.std.proofs.Common.{◌≡◌, ℕ, ◌<◌, List, [], ◌∷◌, length, None, refl, ap, arith}
use Rattle.bson_tree.specs.Tree.{Items}
use Rattle.encrypt_schema.specs.Language.Row.{Row}
use Rattle.encrypt_schema.specs.Commands.Visits.{Visit}
use Rattle.encrypt_schema.specs.Commands.Visits.{first_refusal, or_else, command_visits, content_of, ruled_of}
use Rattle.encrypt_schema.specs.Commands.Visits.{content_verdict}
use Rattle.encrypt_schema.proofs.Commands.Silence.{refusal}

with_row : (row : Row) (rows : List Row) (vs : List Visit)
    → first_refusal (content_of (row ∷ rows)) vs ≡ first_refusal (ruled_of (row ∷ rows)) vs
with_row row rows [] = refl
with_row row rows (v ∷ vs) = ap (or_else (refusal (ruled_of (row ∷ rows)) v)) (with_row row rows vs)

-- with rules, the verdict on the contents of a command is its first refusal under them
pub with_rows : (rows : List Row) (at : ℕ) (c : Items) → 0 < length rows
    → content_verdict rows at c ≡ first_refusal (ruled_of rows) (command_visits rows at c)
with_rows [] at c h = absurd (omega arith)
with_rows (row ∷ rows) at c h = with_row row rows (command_visits (row ∷ rows) at c)

-- without rules nothing is refused
pub unruled : (vs : List Visit) → first_refusal (content_of []) vs ≡ None
unruled [] = refl
unruled (v ∷ vs) = unruled vs
