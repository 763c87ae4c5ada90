use Rattle.std.proofs.Common.{◌∙◌, arith}
use Rattle.bson_splice.proofs.Parts.{later}
use Rattle.bson_splice.proofs.writing.put_item.Goals as goal

pub returns-clause-behind : goal.returns-clause-behind
returns-clause-behind c =
    c.put.ensures.behind
    ∙ later c.put_name-named.result c.put.result c.put_name-named.new.out c.args.out.now
    (omega (arith, c.put.ensures.end)) c.put_name-named.ensures.behind
