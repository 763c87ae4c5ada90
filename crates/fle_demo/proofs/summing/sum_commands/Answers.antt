-- One command after another is counted, until none is left.
use Rattle.std.proofs.Common.{◌≡◌, ◌∙◌, ◌+◌, ◌∷◌, [], ℕ, List, ap, arith, refl, subst, sym}
use Rattle.context_machine.specs.Rings.{ring}
use Rattle.fle_demo.specs.Sums.{no_sums, summed}
use Rattle.fle_demo.specs.Commands.{rules}
use Rattle.fle_demo.specs.Totals.{IsDemoKey}
use Rattle.fle_demo.specs.Generator.{after_two, blocks_behind, next_output}
use Rattle.fle_demo.proofs.Sums.{reaches_under}
use Rattle.fle_demo.proofs.summing.sum_commands.Goals as goal

pub add_command-requires-clause-known : goal.add_command-requires-clause-known
add_command-requires-clause-known g c =
    subst (λ (m : List ℕ). IsDemoKey m c.args.key.now c.args.info.now) (sym c.loop-i.invariant.master) c.requires.known

pub loop-i-preserved : goal.loop-i-preserved
loop-i-preserved g c =
    let inv = c.loop-i.invariant in
    let key = c.args.key.now in
    let master = c.args.cache.now.master in
    let rows = rules key.id in
    let db = c.args.db.now in
    let now = blocks_behind c.add_command.new.blocks.left c.add_command.new.blocks.x in
    let all = summed (ring (key ∷ []) master) rows db 1 c.args.n
    (blocks_behind c.args.blocks.now.left c.args.blocks.now.x) no_sums in
    let two : c.next_output-second.result ≡ after_two c.loop-i.x =
    c.next_output-second.ensures.next ∙ ap next_output c.next_output.ensures.next in
    let before = reaches_under key master c.loop-i.cache.master rows db c.loop-i.totals (c.loop-i.i + 1) c.loop-i.x
    c.loop-i.x (blocks_behind c.loop-i.blocks.left c.loop-i.blocks.x) all (sym inv.master) refl inv.reached in
    record {
      master = c.in_ok-add_command.ensures.master ∙ inv.master;
      left = omega (arith, c.in_ok-add_command.ensures.left, inv.left);
      within = c.in_ok-add_command.ensures.within;
      reached = reaches_under key c.loop-i.cache.master master rows db c.add_command.new.totals (c.loop-i.i + 1 + 1)
          (after_two c.loop-i.x) c.next_output-second.result now all inv.master (sym two)
          (c.in_ok-add_command.ensures.reached all before);
    }
