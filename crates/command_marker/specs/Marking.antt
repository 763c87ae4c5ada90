-- MongoDB Client Side Encryption, BSON binary subtype 6: the value that stands for a protected one in a marked command
use Rattle.std.specs.Prelude.{[], Option, Some, None}
use Rattle.bson_tree.specs.Tree.{Tree}
use Rattle.encrypt_schema.specs.declared.schema.policy.Algorithm.{Algorithm}
use Rattle.payload6.specs.Marking.{binary, marking}
use Rattle.payload6.specs.Needs.{Need, Name}

-- what a marking names as its key: where nothing names one, which is so in no accepted command, a name of no byte
abbrev pub or_nameless : Option Need → Need
or_nameless None = Name []
or_nameless (Some need) = need

-- a binary of subtype 06 that holds the marking
unfoldable pub marked_value : Algorithm → Need → Tree → Tree
marked_value algorithm need t = binary 6 (marking algorithm need t)
