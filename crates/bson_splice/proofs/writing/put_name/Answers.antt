use Rattle.std.proofs.Common.{◌∙◌, arith}
use Rattle.bson_splice.proofs.Parts.{later}
use Rattle.bson_splice.proofs.writing.put_name.Goals as goal

pub returns-clause-behind : goal.returns-clause-behind
returns-clause-behind c =
    let named = later c.put-named.result c.put.result c.put-named.new.out c.args.out.now
    (omega (arith, c.put-ended.ensures.end, c.put.ensures.end)) c.put-named.ensures.behind in
    let ended = later c.put-ended.result c.put.result c.put-ended.new.out c.put-named.new.out
    (omega (arith, c.put.ensures.end)) c.put-ended.ensures.behind in
    c.put.ensures.behind ∙ ended ∙ named
