use Rattle.std.proofs.Common.{◌≡◌, ◌≤◌, ◌∙◌, ◌+◌, ◌*◌, ◌/◌, ◌++◌, ◌∷◌, [], ap, arith, length, List, ℕ, take}
use Rattle.std.proofs.Common.{length-take-le, length-append}
use Rattle.bson_tree.specs.Tree.{tag_of}
use Rattle.bson_tree.specs.Spelling.{value_bytes}
use Rattle.doc_rewrite.specs.Payloads.{payload}
use Rattle.doc_rewrite.proofs.Spellings.{binary_parts}
use Rattle.doc_rewrite.proofs.placing.put_sealed.Goals as goal

pub returns-clause-element : goal.returns-clause-element
returns-clause-element g c = λ block e.
    let s = c.args.label.now in
    let t = c.args.item.now.tree in
    let n = c.payload_len-size.result in
    let contents = payload s.algorithm s.key_id c.args.key.now (tag_of t) (value_bytes t) block in
    let put = c.put_payload.ensures.payload block e in
    let value : length c.value.result.now ≡ length (value_bytes t) = ap length c.value.ensures.spelling in
    let long : n ≡ 66 + 16 * (length (value_bytes t) / 16 + 1) =
    c.payload_len-size.ensures.len ∙ ap (λ (k : ℕ). 66 + 16 * (k / 16 + 1)) value in
    let name : length c.name.result.now ≡ length c.args.item.now.name = ap length c.name.ensures.name in
    let typed : c.put-typed.result ≤ length c.put-typed.new.out =
    omega (
      arith,
      c.requires.room,
      c.put-typed.ensures.end,
      c.put-typed.ensures.size,
      c.put-sized.ensures.end,
      c.put-sized.ensures.size,
      ap length c.to_le_bytes.ensures,
      c.put_name-named.ensures.end,
      c.put_name-named.ensures.size,
      name,
    ) in
    let size : n ≡ length contents =
    omega (
      arith,
      ap length put,
      length-append (take c.put-typed.result c.put-typed.new.out) contents,
      length-take-le c.put_payload.result c.put_payload.new.out c.put_payload.ensures.within,
      length-take-le c.put-typed.result c.put-typed.new.out typed,
      c.put_payload.ensures.end,
      long,
    ) in
    let ea = c.put_name-named.ensures.named ∙ ap (λ (x : List ℕ). take c.args.at c.args.out.now ++ (5 ∷ (x ++ 0 ∷ [])))
    c.name.ensures.name in
    let eb = c.put-sized.ensures.put ∙ ap (λ (x : List ℕ). take c.put_name-named.result c.put_name-named.new.out ++ x)
    c.to_le_bytes.ensures in
    binary_parts (take c.args.at c.args.out.now) c.args.item.now.name contents n _ _ _ _ size ea eb
    c.put-typed.ensures.put put
