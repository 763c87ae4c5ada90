-- Where there is no rule, the root alone is the tree.
use Rattle.std.proofs.Common.{◌≡◌, length, rules}
use Rattle.encrypt_schema.proofs.Paths.Grids.{grid_root, grid_bare}
use Rattle.encrypt_schema.proofs.path.rows.ready.Goals as goal

pub returns-clause-grid : goal.returns-clause-grid
returns-clause-grid c =
    let none : length c.args.rules.now.items ≡ 0 = search rules in
    grid_bare c.in_ok-spots.field-0.items c.args.rules.now.items none
    (grid_root c.in_ok-spots.field-0.items c.in_ok-spots.ensures.paths c.in_ok-spots.ensures.children
    c.in_ok-spots.ensures.rules c.in_ok-spots.ensures.others c.in_ok-spots.ensures.count)
