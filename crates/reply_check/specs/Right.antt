-- MongoDB Client Side Encryption, marking replies: which replies are right
use Rattle.std.specs.Prelude.{◌≡◌, ℕ, Bool, false, nat_lt, List, [], ◌∷◌, codes, length, if◌then◌else◌}
use Rattle.bson_tree.specs.Tree.{Tree, Items, node, no_items, item}
use Rattle.encrypt_schema.specs.Language.Names.{named}
use Rattle.encrypt_schema.specs.Language.Row.{Row}
use Rattle.encrypt_schema.specs.Commands.Visits.{roles}
use Rattle.command_marker.specs.Marked.{marked}
use Rattle.command_marker.specs.Reply.{flag, is_ruled}
use Rattle.reply_check.specs.Ordered.{ordered}

-- the values of the elements that have this name
abbrev pub values_of : List ℕ → Items → List Tree
values_of word no_items = []
values_of word (item name t is) = if named name word then t ∷ values_of word is else values_of word is

-- a reply with these flags and such a result, each exactly once, in any order; other elements aren't read
pub record IsReply (marked ruled : Bool) (Same : Items → Type 0) (r : Items) : Type 0 where
  pub first : values_of (codes "hasEncryptionPlaceholders") r ≡ flag marked ∷ []
  pub second : values_of (codes "schemaRequiresEncryption") r ≡ flag ruled ∷ []
  pub command : Items
  pub result : values_of (codes "result") r ≡ node 3 command ∷ []
  pub same : Same command

-- the right reply to a command under rules: whether a value is marked, whether rules concern it, and the marked
-- command, once the fields of each marking at a protected place stand in their order
abbrev pub IsRight : List Row → Items → Items → Type 0
IsRight rows c r =
    IsReply (nat_lt 0 (length (roles rows 0 c))) (is_ruled rows c) (λ d. ordered rows c d ≡ marked rows c) r

-- the right reply to a command that no rule concerns: the command as it is
abbrev pub IsClear : Items → Items → Type 0
IsClear c r = IsReply false false (λ d. d ≡ c) r
