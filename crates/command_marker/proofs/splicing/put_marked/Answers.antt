use Rattle.std.proofs.Common.{◌≡◌, ◌+◌, ◌-◌, length, arith, ap, ap₂, ◌∙◌, List, ℕ, [], ◌∷◌, ◌++◌}
use Rattle.bson_tree.specs.Spelling.{items_bytes, value_bytes}
use Rattle.bson_tree.specs.Tree.{item, no_items}
use Rattle.encrypt_schema.specs.declared.schema.policy.Algorithm.{Algorithm}
use Rattle.encrypt_schema.specs.declared.schema.policy.Policy.{Policy}
use Rattle.payload6.specs.Needs.{Need, need_seen}
use Rattle.command_marker.specs.Marking.{marked_value}
use Rattle.command_marker.specs.Written.{growth}
use Rattle.command_marker.proofs.Markings.{put_parts}
use Rattle.command_marker.proofs.splicing.put_marked.Goals as goal

pub returns : goal.returns
returns c =
    let value : length c.value.result.now ≡ length (value_bytes c.args.item.now.tree) =
    ap length c.value.ensures.spelling in
    let need = need_seen c.key_of-need.result in
    let size : length c.value.result.now + c.growth_of.result - 5 + 5
    ≡ length (value_bytes c.args.item.now.tree) + growth need =
    omega (arith, value, c.growth_of.ensures.growth) in
    let put : c.put_marking.new.out.items ≡ c.args.out.now.items ++ items_bytes (item c.args.item.now.name
    (marked_value c.policy_at.result.now.algorithm need c.args.item.now.tree) no_items) =
    put_parts _ need c.args.item.now.tree _ _ _ _ _ _ _ size
    (c.in_ok-put_name.ensures.named ∙ ap (λ (name : List ℕ). c.args.out.now.items ++ (5 ∷ (name ++ 0 ∷ [])))
    c.name.ensures.name)
    (c.in_ok-append.ensures.appended ∙ ap (λ (bytes : List ℕ). c.put_name.new.out.items ++ bytes)
    c.length_bytes.ensures.bytes)
    c.in_ok-append-2.ensures.appended
    c.in_ok-put_marking.ensures.appended in
    record {
      element = put
          ∙ ap₂ (λ (algorithm : Algorithm) (n : Need). c.args.out.now.items ++ items_bytes (item c.args.item.now.name
          (marked_value algorithm n c.args.item.now.tree) no_items))
          (ap (λ (policy : Policy). policy.algorithm) c.policy_at.ensures.policy) c.key_of-need.ensures.need;
    }
