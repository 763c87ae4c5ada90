use Rattle.std.proofs.Common.{◌≡◌, ◌∙◌, ◌+◌, ◌-◌, ◌*◌, ◌/◌, ap, arith, length, List, ℕ, ◌++◌, take}
use Rattle.std.proofs.lemmas.Slice.{take-put_mid}
use Rattle.bson_tree.specs.Spelling.{value_bytes}
use Rattle.bson_tree.specs.Tree.{tag_of}
use Rattle.payload6.specs.Payload.{algorithm_number}
use Rattle.payload6.proofs.PayloadForm.{payload-length}
use Rattle.doc_rewrite.proofs.Spellings.{payload_is}
use Rattle.doc_rewrite.proofs.placing.put_payload.Goals as goal

pub returns-clause-payload : goal.returns-clause-payload
returns-clause-payload g c = λ block e.
    let s = c.args.label.now in
    let t = c.args.item.now.tree in
    let sealed = rw (c.kind_of.ensures.number, c.tag.ensures.tag, c.value-2.ensures.spelling) at
    c.seal_payload_into.ensures.sealed in
    let is = payload_is s.algorithm s.key_id c.args.key.now (tag_of t) c.args.iv
    (value_bytes t) c.seal_payload_into.new.out block sealed e in
    let size = payload-length (algorithm_number s.algorithm) s.key_id c.args.key.now (tag_of t) c.args.iv
    (value_bytes t) c.seal_payload_into.new.out sealed in
    let value : length c.value.result.now ≡ length (value_bytes t) = ap length c.value.ensures.spelling in
    let long : c.payload_len.result ≡ 66 + 16 * (length (value_bytes t) / 16 + 1) =
    c.payload_len.ensures.len ∙ ap (λ (n : ℕ). 66 + 16 * (n / 16 + 1)) value in
    take-put_mid c.args.at (c.args.at + c.payload_len.result - c.args.at) c.args.out.now c.seal_payload_into.new.out
    (c.args.at + c.payload_len.result)
    (omega (arith, size, long)) (omega (arith, c.requires.room))
    ∙ ap (λ (x : List ℕ). take c.args.at c.args.out.now ++ x) is
