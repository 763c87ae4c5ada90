use Rattle.std.proofs.Common.{◌≡◌, ◌+◌, ◌-◌, arith, rules}
use Rattle.cbc_mode.proofs.Chained.{open_step, open_end, put-behind}
use Rattle.cbc_mode.proofs.opening.open_last.Goals as goal

pub returns-clause-opened : goal.returns-clause-opened
returns-clause-opened g c = λ whole kept.
    let opened = rw c.open_block.ensures at c.xored.ensures.sum in
    let one : (c.args.i + 1) - c.args.i ≡ 1 = omega arith in
    open_end c.args.schedule.now (c.args.i + 1) (c.args.i + 1) _ _ c.args.sealed.now c.put.new.out whole (omega arith)
    (omega arith)
    (open_step c.args.schedule.now (c.args.i + 1) c.args.i c.args.before c.args.sealed.now _ _ _ c.put.new.out whole
    (omega arith) c.block_at-block.ensures.block opened c.put.ensures.put (omega arith) (search rules) (rw one kept))

pub returns-clause-behind : goal.returns-clause-behind
returns-clause-behind g c = put-behind c.args.i _ _ _ c.put.new.out c.put.ensures.put (omega arith) (search rules)
    (omega arith)
