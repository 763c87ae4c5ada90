use Rattle.std.proofs.Common.{◌≡◌, ◌+◌, ◌∙◌, arith, rules}
use Rattle.cbc_mode.proofs.Chained.{open_step, put-behind}
use Rattle.cbc_mode.proofs.opening.open_pair.Goals as goal

pub returns-clause-opened : goal.returns-clause-opened
returns-clause-opened g c = λ n whole inside kept.
    let first = rw c.open_two.ensures.first at c.xored.ensures.sum in
    let second = rw c.open_two.ensures.second at c.xored-2.ensures.sum in
    let next : c.args.i + 2 ≡ c.args.i + 1 + 1 = omega arith in
    let half =
    open_step c.args.schedule.now n c.args.i c.args.before c.args.sealed.now _ _ _ c.put.new.out whole
    (omega arith) c.block_at-first.ensures.block first c.put.ensures.put (omega arith) (search rules) kept in
    rw next (open_step c.args.schedule.now n (c.args.i + 1) _ c.args.sealed.now c.put.new.out _ _ c.put-2.new.out whole
    (omega arith) c.block_at-second.ensures.block second c.put-2.ensures.put (omega arith) (search rules) half)

pub returns-clause-behind : goal.returns-clause-behind
returns-clause-behind g c =
    put-behind (c.args.i + 1) _ c.put.new.out _ c.put-2.new.out c.put-2.ensures.put (omega arith) (search rules)
    (omega arith)
    ∙ put-behind c.args.i _ _ _ c.put.new.out c.put.ensures.put (omega arith) (search rules) (omega arith)
