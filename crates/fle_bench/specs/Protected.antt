-- Names that are those of rules.
use Rattle.std.specs.Prelude.{ℕ, ◌+◌, Bool, true, false, List, [], ◌∷◌, if◌then◌else◌}
use Rattle.bson_tree.specs.Tree.{Items, no_items, item}
use Rattle.encrypt_schema.specs.declared.path.class.Class.{Class}
use Rattle.encrypt_schema.specs.declared.path.class.Class.TheVariants as classes
use Rattle.encrypt_schema.specs.Paths.Classes.{class}
use Rattle.encrypt_schema.specs.Language.Row.{Row}

abbrev pub is_rule : Class → Bool
is_rule (classes.Protected i) = true
is_rule classes.Below = false
is_rule classes.Above = false
is_rule classes.Clear = false

-- the path of this one name is that of a rule
abbrev pub is_protected : List Row → List ℕ → Bool
is_protected rows name = is_rule (class rows (name ∷ []))

-- how many names of a document are those of rules
abbrev pub protected_names : List Row → Items → ℕ
protected_names rows no_items = 0
protected_names rows (item name t is) = (if is_protected rows name then 1 else 0) + protected_names rows is
