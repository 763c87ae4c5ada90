-- The block that was drawn is the first of those to come.
use Rattle.std.proofs.Common.{◌≡◌, ◌∙◌, ◌++◌, List, refl, ap, subst}
use Rattle.bson_tree.specs.Spelling.{doc_bytes}
use Rattle.context_machine.specs.Ready.{values_of}
use Rattle.doc_rewrite.specs.Keys.{key_in}
use Rattle.doc_rewrite.specs.Sealed.{sealed}
use Rattle.fle_outside.specs.Blocks.{Block}
use Rattle.fle_demo.specs.Generator.{blocks_behind}
use Rattle.fle_demo.proofs.Steps.{one_drawn, others_left, some_same}
use Rattle.fle_demo.proofs.sealing.seal.Goals as goal

pub returns-clause-sealed : goal.returns-clause-sealed
returns-clause-sealed g c = λ block rest is.
    let whole = c.in-Ok.ensures.sealed in
    let all = whole.draws.first (blocks_behind c.args.blocks.now.left c.args.blocks.now.x) refl in
    let one = one_drawn whole.drawn all.0 rest block (whole.count ∙ c.requires.one)
    (subst (λ (bs : List Block). bs ≡ whole.drawn ++ all.0) is all.1) in
    c.into_bytes.ensures.bytes ∙ (whole.written
    ∙ ap (λ (bs : List Block). doc_bytes (sealed (key_in c.args.ready.table)
    (values_of c.args.ready.info c.args.ready.command) bs c.args.ready.command)) one)

pub returns-clause-left : goal.returns-clause-left
returns-clause-left g c = λ block rest is.
    let whole = c.in-Ok.ensures.sealed in
    let all = whole.draws.first (blocks_behind c.args.blocks.now.left c.args.blocks.now.x) refl in
    let others = others_left whole.drawn all.0 rest block (whole.count ∙ c.requires.one)
    (subst (λ (bs : List Block). bs ≡ whole.drawn ++ all.0) is all.1) in
    some_same (blocks_behind c.finalize.new.entropy.left c.finalize.new.entropy.x) all.0 all.2 ∙ others
