use Rattle.std.proofs.Common.{◌≡◌, ◌∙◌, ◌+◌, ◌++◌, ◌∷◌, [], ap, arith, rules, length, take, List, ℕ}
use Rattle.payload6.specs.Verdicts.{id_in}
use Rattle.payload6.proofs.Verdicts.{id_is}
use Rattle.doc_rewrite.specs.Keys.{key_by_id}
use Rattle.doc_rewrite.proofs.OneLeaf.{leaf_key, leaf_opens, leaf_shaped}
use Rattle.doc_rewrite.proofs.opening.open_leaf.Goals as goal

pub unreachable-requires : goal.unreachable-requires
unreachable-requires g c =
    let is = c.in-Misshapen.ensures.is in
    leaf_shaped (key_by_id c.args.keys.now.ids) c.args.levels c.args.item.now _ _ c.requires.raw is.0 is.1
    c.requires.shaped

pub key_of-key-requires : goal.key_of-key-requires
key_of-key-requires g c =
    let p = c.in-Payload.payload in
    let is = c.in-Payload.ensures.is in
    let long : length p.key_id ≡ 16 = search rules in
    let id = ap id_in is.1 ∙ id_is p.kind p.key_id p.tag p.head.now p.sealed.now long p.front in
    record {
      there = leaf_key (key_by_id c.args.keys.now.ids) c.args.levels c.args.item.now _ _ c.requires.raw is.0 p.key_id id
          c.requires.keyed;
    }

pub returns-in-Payload-clause-opened : goal.returns-in-Payload-clause-opened
returns-in-Payload-clause-opened g c =
    let p = c.in-Payload.payload in
    let is = c.in-Payload.ensures.is in
    let keys = key_by_id c.args.keys.now.ids in
    let long : length p.key_id ≡ 16 = search rules in
    let id = ap id_in is.1 ∙ id_is p.kind p.key_id p.tag p.head.now p.sealed.now long p.front in
    let there = leaf_key keys c.args.levels c.args.item.now _ _ c.requires.raw is.0 p.key_id id c.requires.keyed in
    let place : c.put_name-named.result ≡ c.args.at + 2 + length c.args.item.now.name =
    omega (arith, c.put_name-named.ensures.end, ap length c.name.ensures.name) in
    let name = c.put_name-named.ensures.named ∙ ap
    (λ (x : List ℕ). take c.args.at c.args.out.now ++ (p.tag ∷ (x ++ 0 ∷ []))) c.name.ensures.name in
    leaf_opens keys c.args.levels c.args.item.now _ _ c.requires.raw is.0 p.kind p.tag p.key_id p.head.now p.sealed.now
    c.key_of-key.result.now long p.front is.1
    c.args.at c.put_name-named.result c.args.out.now c.put_name-named.new.out c.open_value.new.out c.open_value.result
    there c.key_of-key.ensures.key place name
    (rw c.start.ensures.start at c.open_value.ensures.opened)
