use Rattle.std.proofs.Common.{◌≡◌, length, rules}
use Rattle.payload6.proofs.PayloadForm.{payload_from, payload_of}
use Rattle.payload6.proofs.sealing.seal_payload_into.Goals as goal

pub returns-clause-payload : goal.returns-clause-payload
returns-clause-payload g c = λ algorithm is v.
    let sixteen : length c.args.key_id ≡ 16 = search rules in
    payload_of algorithm c.args.kind c.args.key_id c.args.key.now c.args.tag c.args.iv c.args.plain.now _
    (payload_from c.args.kind c.args.key_id c.args.key.now c.args.tag c.args.iv c.args.plain.now
    c.put_head.new.out c.seal_into.new.out
    sixteen c.put_head.ensures c.seal_into.ensures.sealed)
    is v
