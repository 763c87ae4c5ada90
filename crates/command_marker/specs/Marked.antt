-- MongoDB Client Side Encryption, marked commands: the command with a marking in place of each protected value
use Rattle.std.specs.Prelude.{ℕ, ◌==◌, List, [], ◌∷◌, Option, Some, None, if◌then◌else◌}
use Rattle.bson_tree.specs.Tree.{Tree, Items}
use Rattle.bson_tree.specs.Filled.{fill_items}
use Rattle.bson_codec.specs.Borrowed.{At}
use Rattle.encrypt_schema.specs.declared.command.marks.Mark.{Mark}
use Rattle.encrypt_schema.specs.Language.Policies.{policy_at}
use Rattle.encrypt_schema.specs.Language.Row.{Row}
use Rattle.encrypt_schema.specs.Commands.Visits.{roles}
use Rattle.payload6.specs.Needs.{Need, need_of}
use Rattle.command_marker.specs.Marking.{marked_value, or_nameless}

-- what the marking of a mark's value names as its key
abbrev pub need_marked : List Row → At → Mark → Need
need_marked rows d m = or_nameless (need_of rows d m)

-- the marking of a value under the policy of a mark's rule
abbrev pub marked_by : List Row → At → Mark → Tree → Tree
marked_by rows d m t = marked_value (policy_at m.policy rows).algorithm (need_marked rows d m) t

-- the marking of a value of a command that begins at an offset, by the first mark that begins there; none where no
-- mark does
abbrev pub marking_at : List Row → At → List Mark → ℕ → Tree → Option Tree
marking_at rows d [] at t = None
marking_at rows d (m ∷ ms) at t =
    if m.start == at then Some (marked_by rows d m t) else marking_at rows d ms at t

-- a command with the marking of each protected value in its place, and all else as it is; offsets count from its
-- own first byte
unfoldable pub marked : List Row → Items → Items
marked rows c = fill_items (marking_at rows (record { tree = c; start = 0 }) (roles rows 0 c)) 4 c
