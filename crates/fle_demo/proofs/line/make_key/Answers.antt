-- The eight blocks that were drawn are the first eight.
use Rattle.std.proofs.Common.{◌≡◌, ◌∙◌, [], ℕ, List, Ok, ap, refl, sym}
use Rattle.fle_outside.specs.Blocks.{Block}
use Rattle.fle_demo.specs.Generator.{blocks_behind}
use Rattle.local_kms.specs.Made.{key_of_blocks, six_blocks}
use Rattle.fle_demo.proofs.Blocks.{behind_eight, eight_fewer, first_eight}
use Rattle.fle_demo.proofs.Steps.{some_same}
use Rattle.fle_demo.proofs.line.make_key.Goals as goal

pub returns-in-Ok-clause-made : goal.returns-in-Ok-clause-made
returns-in-Ok-clause-made g c =
    let made = c.in-Ok.ensures.made in
    let all = blocks_behind c.args.blocks.now.left c.args.blocks.now.x in
    let split = made.draws.first all refl in
    made.is
    ∙ (ap (λ (names : List (List ℕ)). key_of_blocks c.args.master.now names made.blocks) c.new.ensures.empty
    ∙ ap (λ (bs : List Block). key_of_blocks c.args.master.now [] bs)
    (sym (first_eight made.blocks split.0 all made.number split.1)))

pub returns-in-Ok-clause-opens : goal.returns-in-Ok-clause-opens
returns-in-Ok-clause-opens g c =
    let made = c.in-Ok.ensures.made in
    let all = blocks_behind c.args.blocks.now.left c.args.blocks.now.x in
    let split = made.draws.first all refl in
    let is : c.in-Ok.key ≡ key_of_blocks c.args.master.now [] made.blocks =
    made.is ∙ ap (λ (names : List (List ℕ)). key_of_blocks c.args.master.now names made.blocks) c.new.ensures.empty in
    c.made_key_opens.ensures.opens c.args.master.now made.blocks c.in-Ok.key made.number made.draws.blocks is
    c.in-Ok.ensures.long.1
    ∙ ap (λ (bs : List Block). Ok (six_blocks 1 bs)) (sym (first_eight made.blocks split.0 all made.number split.1))

pub returns-in-Ok-clause-others : goal.returns-in-Ok-clause-others
returns-in-Ok-clause-others g c =
    let made = c.in-Ok.ensures.made in
    let all = blocks_behind c.args.blocks.now.left c.args.blocks.now.x in
    let split = made.draws.first all refl in
    some_same (blocks_behind c.new_key.new.entropy.left c.new_key.new.entropy.x) split.0 split.2
    ∙ sym (behind_eight made.blocks split.0 all made.number split.1)

pub returns-in-Ok-clause-left : goal.returns-in-Ok-clause-left
returns-in-Ok-clause-left g c =
    let made = c.in-Ok.ensures.made in
    let left = c.args.blocks.now.left in
    let x = c.args.blocks.now.x in
    let split = made.draws.first (blocks_behind left x) refl in
    eight_fewer left x c.new_key.new.entropy.left c.new_key.new.entropy.x made.blocks split.0 made.number split.1
    (some_same (blocks_behind c.new_key.new.entropy.left c.new_key.new.entropy.x) split.0 split.2)
