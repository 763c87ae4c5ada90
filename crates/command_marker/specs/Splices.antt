-- A document with other values in the place of its marked ones, put in mark by mark in reading order
use Rattle.std.specs.Prelude.{ℕ, ◌+◌, Bool, List, [], ◌∷◌, Option}
use Rattle.bson_tree.specs.Tree.{Tree, Items}
use Rattle.bson_splice.specs.Splices.{begins_by, is_before_by, left_by, left_in_by, put_at_by, spliced_by}
use Rattle.bson_splice.specs.Splices.{spliced_in_by, start_by}
use Rattle.encrypt_schema.specs.declared.command.marks.Mark.{Mark}

-- where the next mark begins; none where none is left
abbrev pub next_start : List Mark → Option ℕ
next_start ms = start_by (λ (m : Mark). m.start) ms

-- the next mark begins at this offset
abbrev pub begins : ℕ → List Mark → Bool
begins at ms = begins_by (λ (m : Mark). m.start) at ms

-- the next mark begins before this offset
abbrev pub is_before : ℕ → List Mark → Bool
is_before to ms = is_before_by (λ (m : Mark). m.start) to ms

-- the marks that are left behind a value that begins at `at`
abbrev pub left_in : ℕ → List Mark → Tree → List Mark
left_in at ms t = left_in_by (λ (m : Mark). m.start) at ms t

-- the same for elements that begin at `at`
abbrev pub left : ℕ → List Mark → Items → List Mark
left at ms is = left_by (λ (m : Mark). m.start) at ms is

-- a value that begins at `at`, with other values for those that the next marks mark
abbrev pub spliced_in : (Mark → Tree → Tree) → ℕ → List Mark → Tree → Tree
spliced_in put at ms t = spliced_in_by (λ (m : Mark). m.start) put at ms t

-- the same for elements that begin at `at`
abbrev pub spliced : (Mark → Tree → Tree) → ℕ → List Mark → Items → Items
spliced put at ms is = spliced_by (λ (m : Mark). m.start) put at ms is

-- how many bytes marks add, each this many
abbrev pub added : (Mark → ℕ) → List Mark → ℕ
added more [] = 0
added more (m ∷ ms) = more m + added more ms

-- what is put in by the first of the marks that begin at an offset; none where no mark does
abbrev pub put_at : (Mark → Tree → Tree) → List Mark → ℕ → Tree → Option Tree
put_at put ms at t = put_at_by (λ (m : Mark). m.start) put ms at t
