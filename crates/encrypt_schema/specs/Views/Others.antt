-- The rules in memory for all fields of a document but listed ones
use Rattle.std.specs.Prelude.{ℕ, Bool, not, List, [], ◌∷◌, Option, Some, None, Vec, if◌then◌else◌}
use Rattle.std.specs.BTreeSet.{BTreeSet, contains_by}
use Rattle.std.specs.Cmp.Lexicographic.{slice_cmp}
use Rattle.std.specs.Global.{Global}
use Rattle.std.specs.Ordering.{nat_cmp}
use Rattle.encrypt_schema.specs.declared.path.others.Others.{Others}

-- the set has this name
abbrev pub has : BTreeSet (Vec ℕ Global) → List ℕ → Bool
has listed name = contains_by (λ k. slice_cmp nat_cmp name k.items) listed

-- the rule is for the field of this name
abbrev pub is_for : Others → List ℕ → Bool
is_for others name = not (has others.listed name)

-- the number of the first rule that is
abbrev pub other_of : List Others → List ℕ → Option ℕ
other_of [] name = None
other_of (others ∷ more) name = if is_for others name then Some others.rule else other_of more name
