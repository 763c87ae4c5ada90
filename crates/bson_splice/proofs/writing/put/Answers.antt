use Rattle.std.proofs.Common.{◌+◌, ◌-◌, ap, arith, length}
use Rattle.bson_splice.proofs.Parts.{behind_put}
use Rattle.bson_splice.proofs.writing.put.Goals as goal

pub returns-clause-behind : goal.returns-clause-behind
returns-clause-behind c =
    behind_put c.args.at (length c.args.bytes.now) (c.args.at + length c.args.bytes.now - c.args.at) c.args.out.now
    c.copy_from_slice.new.self (omega (arith, c.requires.room)) (ap length c.copy_from_slice.ensures.after)
    (omega arith)
