-- The first rule that protects the field at a path, by its two kinds: the rules of one field, and those of all fields
-- but listed ones
use Rattle.std.specs.Prelude.{ℕ, Bool, false, not, ◌&&◌, nat_lt, List, Option, Some, None, is_some, if◌then◌else◌}
use Rattle.encrypt_schema.specs.Language.Names.{is_among}
use Rattle.encrypt_schema.specs.Language.Row.{Row}
use Rattle.encrypt_schema.specs.Paths.Classes.{matches, first_by}

-- the rule is for the field at this path alone
abbrev pub is_exact : List (List ℕ) → Row → Bool
is_exact path row = not (is_some row.others) && matches row path

-- the rule is for all fields of a document but listed ones, and this path leads to one of them
abbrev pub is_other : List (List ℕ) → Row → Bool
is_other path row = is_some row.others && matches row path

-- the number of the first rule for the field at this path alone
abbrev pub exact : List (List ℕ) → List Row → Option ℕ
exact path rows = first_by (is_exact path) 0 rows

-- the number of the first rule for it and others
abbrev pub other : List (List ℕ) → List Row → Option ℕ
other path rows = first_by (is_other path) 0 rows

-- the lesser of two numbers that may not be there
abbrev pub lesser : Option ℕ → Option ℕ → Option ℕ
lesser None o = o
lesser (Some i) None = Some i
lesser (Some i) (Some j) = if nat_lt j i then Some j else Some i

-- a rule for all fields but listed ones is for the field of this name
abbrev pub is_beside : Option (List (List ℕ)) → List ℕ → Bool
is_beside None name = false
is_beside (Some listed) name = not (is_among name listed)
