-- The generators start where the definition's do.
use Rattle.std.proofs.Common.{◌≡◌, ◌∙◌, ◌+◌, [], ℕ, List, ap, arith, subst, take}
use Rattle.fle_outside.specs.Seen.{EntropySeen}
use Rattle.fle_demo.specs.Sums.{blocks, master}
use Rattle.fle_demo.specs.Totals.{AreSummed}
use Rattle.fle_demo.specs.Generator.{blocks_behind}
use Rattle.fle_demo.proofs.Steps.{some_same}
use Rattle.fle_demo.proofs.Sums.{text_is}
use Rattle.fle_demo.proofs.line.demo_line.Goals as goal
use Rattle.local_kms.specs.Made.{key_of_blocks}

pub returns : goal.returns
returns g c =
    let n = c.args.n in
    let bs = blocks_behind c.new-blocks.result.left c.new-blocks.result.x in
    let others = blocks_behind c.make_key.new.blocks.left c.make_key.new.blocks.x in
    let swap : n + 8 ≡ 8 + n = omega arith in
    let are : bs ≡ blocks n =
    some_same bs (blocks_behind (n + 8) (n + 4294967296)) (ap (λ (e : EntropySeen). e.told) c.new-blocks.ensures.seen)
    ∙ ap (λ (k : ℕ). blocks_behind k (n + 4294967296)) swap in
    let is : c.in_ok-key.key ≡ key_of_blocks master [] (take 8 bs) =
    c.in_ok-key.ensures.made ∙ ap (λ (m : List ℕ). key_of_blocks m [] (take 8 bs)) c.new-master.ensures.key in
    let summed = subst (λ (m : List ℕ). AreSummed m c.in_ok-key.key c.args.db.now n others c.in_ok-totals.totals)
    c.new-master.ensures.key c.in_ok-totals.ensures.summed in
    record {
      text = text_is c.args.db.now n c.in_ok-key.key bs others c.in_ok-totals.totals c.in_ok-text.text.items are is
          c.in_ok-key.ensures.others summed c.in_ok-text.ensures.line;
    }
