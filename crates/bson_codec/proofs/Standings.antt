-- A name's standing in the first fields and in the others gives its standing in all.
use Rattle.std.proofs.Common.{◌≡◌, refl}
use Rattle.bson_tree.specs.Tree.{Tree}
use Rattle.bson_codec.specs.Standings.{Standing, absent, once, repeated, stands_too, stands_last}

abbrev pub combined : Standing → Standing → Standing
combined absent s = s
combined (once t) s = stands_too t s
combined repeated s = repeated

-- two values of a name are too many, whatever follows
stands_too-stands_too : (u t : Tree) (s : Standing) → repeated ≡ stands_too u (stands_too t s)
stands_too-stands_too u t absent = refl
stands_too-stands_too u t (once v) = refl
stands_too-stands_too u t repeated = refl

pub combined_stands_last : (f : Standing) (t : Tree) (s : Standing)
    → combined (stands_last f t) s ≡ combined f (stands_too t s)
combined_stands_last absent t s = refl
combined_stands_last (once u) t s = stands_too-stands_too u t s
combined_stands_last repeated t s = refl

pub combined_absent : (f : Standing) → combined f absent ≡ f
combined_absent absent = refl
combined_absent (once t) = refl
combined_absent repeated = refl

-- standings in all fields, by those in the first ones and in the others
pub ruleset both = (combined_stands_last, combined_absent)
