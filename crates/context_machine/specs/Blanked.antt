-- MongoDB Client Side Encryption: a sealed command, without what stands for the protected values
use Rattle.std.specs.Prelude.{ℕ, List, [], Option, option_map}
use Rattle.bson_tree.specs.Tree.{Tree, leaf, Items}
use Rattle.bson_tree.specs.Filled.{filled}
use Rattle.encrypt_schema.specs.Language.Row.{Row}
use Rattle.doc_rewrite.specs.SealedCommand.{rule_at}

-- a blank: a value that tells nothing
abbrev pub blank_value : Tree
blank_value = leaf 0 []

-- a blank at each protected place of a command, and at no other place
abbrev pub blank_at : List Row → Items → List ℕ → Option Tree
blank_at rows c place = option_map (λ i. blank_value) (rule_at rows c place)

-- d with a blank at each protected place of the command c
abbrev pub blanked : List Row → Items → Items → Items
blanked rows c d = filled (blank_at rows c) d
