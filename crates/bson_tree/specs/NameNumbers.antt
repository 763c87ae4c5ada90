-- Names with numbers, in a map that is ordered by the names; the hash of a name
use Rattle.std.specs.Prelude.{ℕ, Bool, List, Option, Some, None, Vec, if◌then◌else◌}
use Rattle.std.specs.BTreeMap.{BTreeMap, get_by}
use Rattle.std.specs.Cmp.Lexicographic.{slice_cmp}
use Rattle.std.specs.Global.{Global}
use Rattle.std.specs.Hash.FoldHasher.{finish, initial, write}
use Rattle.std.specs.Ordering.{nat_cmp}

-- the hash of a name, whose seed is fixed
unfoldable pub hash_of : List ℕ → ℕ
hash_of name = finish (write initial name)

-- the number of a name
abbrev pub number_of_name : BTreeMap (Vec ℕ Global) ℕ → List ℕ → Option ℕ
number_of_name numbers name = get_by (λ k. slice_cmp nat_cmp name k.items) numbers

-- the number that there is, or else this one where the test holds
abbrev pub or_number : Option ℕ → Bool → ℕ → Option ℕ
or_number (Some i) test n = Some i
or_number None test n = if test then Some n else None
