use Rattle.std.proofs.Common.{◌≡◌, ◌∙◌, ◌+◌, ap, sym, length, rules, arith}
use Rattle.bson_tree.specs.Spelling.{value_bytes}
use Rattle.payload6.specs.Verdicts.{id_in}
use Rattle.payload6.proofs.Verdicts.{id_is}
use Rattle.doc_rewrite.specs.Founds.{contents_of}
use Rattle.doc_rewrite.proofs.Finds.{finds_one, finds_wrong, length_of_parts, told}
use Rattle.doc_rewrite.proofs.finding.tell_leaf.Goals as goal

pub returns-in-Payload : goal.returns-in-Payload
returns-in-Payload g c =
    let p = c.in-Payload.payload in
    let e = c.args.item.now in
    let long_id : length p.key_id ≡ 16 = search rules in
    let long = length_of_parts p.kind p.tag p.key_id p.head.now p.sealed.now
    (contents_of e.tree) long_id p.front p.some p.whole c.in-Payload.ensures.is.1 in
    let id : p.key_id ≡ id_in (contents_of e.tree) =
    sym (ap id_in c.in-Payload.ensures.is.1 ∙ id_is p.kind p.key_id p.tag p.head.now p.sealed.now long_id p.front) in
    let end : c.start-in-Payload.result + length c.value-width.result.now ≡ e.start + length (value_bytes e.tree) =
    omega (arith, c.start-in-Payload.ensures.start, ap length c.value-width.ensures.spelling) in
    let here = told c.args.levels e.start c.start.result
    (c.start-in-Payload.result + length c.value-width.result.now) e.tree p.key_id c.start.ensures.start end id in
    record {
      found = finds_one g.L.Listener.tells c.args.levels e.start e.tree _ _ c.requires.raw c.args.count
          c.args.listener.now _ c.tell.new.self c.in-Payload.ensures.is.0 long here c.tell.ensures.told;
    }

pub returns-in-Misshapen : goal.returns-in-Misshapen
returns-in-Misshapen g c =
    let e = c.args.item.now in
    let is = c.in-Misshapen.ensures.is in
    record {
      found = rw c.start-in-Misshapen.ensures.start
          (finds_wrong c.args.levels e.start e.tree _ _ c.requires.raw is.0 is.1);
    }
