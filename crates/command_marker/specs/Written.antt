-- How a reply is written: the marks of its command, what their markings add, and what stands around the command
use Rattle.std.specs.Prelude.{◌≡◌, ℕ, ◌+◌, ◌<◌, ◌≤◌, Bool, List, [], ◌∷◌, ◌++◌, codes, length, Result, Ok, Err}
use Rattle.std.specs.Int.{to_le_bytes, w32}
use Rattle.bson_tree.specs.Tree.{no_items, item}
use Rattle.bson_tree.specs.Spelling.{items_bytes, doc_bytes}
use Rattle.bson_codec.specs.Borrowed.{At}
use Rattle.encrypt_schema.specs.declared.command.marks.Mark.{Mark}
use Rattle.encrypt_schema.specs.Language.Row.{Row}
use Rattle.payload6.specs.Needs.{Need, need_bytes}
use Rattle.command_marker.specs.Marked.{marked, marked_by, need_marked}
use Rattle.command_marker.specs.Reply.{flag, one, reply_limit}
use Rattle.command_marker.specs.declared.stop.ReplyFault.{ReplyFault}
use Rattle.command_marker.specs.declared.stop.ReplyFault.TheVariants as faults
use Rattle.command_marker.specs.Splices.{added, spliced}

-- how many bytes a marking that names this key, as it stands in a command, has more than its value
abbrev pub growth : Need → ℕ
growth need = 30 + length (need_bytes need)

-- the same for a mark
abbrev pub growth_by : List Row → At → Mark → ℕ
growth_by rows d m = growth (need_marked rows d m)

-- the marks are of rules that are there
abbrev pub AreRuled : List Row → List Mark → Type 0
AreRuled rows [] = Unit {0}
AreRuled rows (m ∷ ms) = (m.policy < length rows) × AreRuled rows ms

-- marks of rules that are there, by which a command is marked
pub record IsPlan (rows : List Row) (c : At) (ms : List Mark) : Type 0 where
  pub ruled : AreRuled rows ms
  pub few : length ms ≤ length (doc_bytes c.tree)
  pub made : spliced (marked_by rows c) (c.start + 4) ms c.tree ≡ marked rows c.tree
  pub size : length (items_bytes (spliced (marked_by rows c) (c.start + 4) ms c.tree))
      ≡ length (items_bytes c.tree) + added (growth_by rows c) ms

-- the reply before its command, of this many bytes in all
abbrev pub reply_head : ℕ → Bool → Bool → List ℕ
reply_head size marked ruled =
    to_le_bytes w32 size
    ++ (items_bytes (item (codes "hasEncryptionPlaceholders") (flag marked) no_items)
    ++ (items_bytes (item (codes "schemaRequiresEncryption") (flag ruled) no_items)
    ++ (3 ∷ (codes "result" ++ 0 ∷ []))))

-- the reply behind its command
abbrev pub reply_end : List ℕ
reply_end = items_bytes (item (codes "ok") one no_items) ++ 0 ∷ []

-- the size of a reply, or it has too many bytes; memory isn't asked for
abbrev pub SizesAs : ℕ → Result ℕ ReplyFault → Type 0
SizesAs size (Ok n) = (n ≡ size) × (size ≤ reply_limit)
SizesAs size (Err faults.TooLong) = reply_limit < size
SizesAs size (Err faults.Memory) = ⊥
