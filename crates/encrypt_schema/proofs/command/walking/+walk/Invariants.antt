use Rattle.std.proofs.Common.{◌≡◌, ◌+◌, ◌*◌, ◌≤◌, ◌++◌, [], take, drop}
use Rattle.bson_tree.specs.Tree.{tree_size, items_size, count}
use Rattle.encrypt_schema.specs.Commands.Visits.{names_of, visits, marks, ruled_of, first_refusal}
use Rattle.encrypt_schema.specs.Views.Pointing.{targets_read}
use Rattle.encrypt_schema.specs.Views.Walking.{Begins}
use Rattle.encrypt_schema.proofs.command.walking.+walk.Given as goal

abbrev pub decreases-mark_inside : goal.decreases-mark_inside
decreases-mark_inside g l = 4 * tree_size l.item.now.tree

abbrev pub decreases-mark_element : goal.decreases-mark_element
decreases-mark_element g l = 4 * tree_size l.item.now.tree + 1

abbrev pub decreases-mark_document : goal.decreases-mark_document
decreases-mark_document g l = 4 * items_size l.document.now.tree + 3

abbrev pub decreases-mark_all : goal.decreases-mark_all
decreases-mark_all g l = 4 * items_size l.document.now.tree + 2

abbrev pub invariant-mark_all-loop-item : goal.invariant-mark_all-loop-item
invariant-mark_all-loop-item g l =
    let rows = l.fn.pointing.rows in
    let s = g.P.JudgingPlace.station_by l.at rows in
    let ts = targets_read l.fn.pointing in
    record {
      size : items_size l.item-iterator.tree ≤ items_size l.document.tree;
      number : l.k + count l.item-iterator.tree ≡ count l.document.tree;
      elder : drop l.k (names_of l.document.tree) ≡ names_of l.item-iterator.tree;
      same : l.pointing ≡ l.fn.pointing;
      marked : l.marks
          ++ marks rows
          (visits rows s ts l.item-iterator.start (take l.k (names_of l.document.tree)) l.item-iterator.tree)
          ≡ l.fn.marks ++ marks rows (visits rows s ts (l.document.start + 4) [] l.document.tree);
      clean : first_refusal (ruled_of rows)
          (visits rows s ts l.item-iterator.start (take l.k (names_of l.document.tree)) l.item-iterator.tree)
          ≡ first_refusal (ruled_of rows) (visits rows s ts (l.document.start + 4) [] l.document.tree);
      kept : Begins l.fn.marks l.marks;
    }
