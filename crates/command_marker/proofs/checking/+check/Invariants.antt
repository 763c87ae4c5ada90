use Rattle.std.proofs.Common.{◌≡◌, ◌+◌, ◌*◌, ◌≤◌, [], take, drop}
use Rattle.bson_tree.specs.Tree.{tree_size, items_size, count}
use Rattle.encrypt_schema.specs.Commands.Pointers.{Targets}
use Rattle.encrypt_schema.specs.Commands.Visits.{names_of, visits}
use Rattle.command_marker.specs.Places.{command_station}
use Rattle.command_marker.proofs.Checked.{StillLeft}
use Rattle.command_marker.proofs.checking.+check.Given as goal

abbrev pub decreases-check_inside : goal.decreases-check_inside
decreases-check_inside l = 4 * tree_size l.item.now.tree

abbrev pub decreases-check_below : goal.decreases-check_below
decreases-check_below l = 4 * tree_size l.item.now.tree + 1

abbrev pub decreases-check_element : goal.decreases-check_element
decreases-check_element l = 4 * tree_size l.item.now.tree + 2

abbrev pub decreases-check_elements : goal.decreases-check_elements
decreases-check_elements l = 4 * items_size l.document.now.tree + 3

abbrev pub invariant-check_elements-loop-item : goal.invariant-check_elements-loop-item
invariant-check_elements-loop-item l =
    let s = command_station l.at l.rows in
    record {
      size : items_size l.item-iterator.tree ≤ items_size l.document.tree;
      number : l.k + count l.item-iterator.tree ≡ count l.document.tree;
      elder : drop l.k (names_of l.document.tree) ≡ names_of l.item-iterator.tree;
      left : (ts : Targets) → StillLeft l.rows (visits l.rows s ts (l.document.start + 4) [] l.document.tree)
          (visits l.rows s ts l.item-iterator.start (take l.k (names_of l.document.tree)) l.item-iterator.tree);
    }
