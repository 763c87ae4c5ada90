use Rattle.std.proofs.Common.{◌≡◌, ◌+◌, ◌∷◌, []}
use Rattle.context_machine.specs.Rings.{ring}
use Rattle.fle_demo.specs.Sums.{no_sums, summed}
use Rattle.fle_demo.specs.Commands.{rules}
use Rattle.fle_demo.specs.Totals.{IsWithin, Reaches}
use Rattle.fle_demo.specs.Generator.{blocks_behind}
use Rattle.fle_demo.proofs.summing.sum_commands.Given as goal

abbrev pub invariant-loop-i : goal.invariant-loop-i
invariant-loop-i g l = record {
  master : l.cache.master ≡ l.fn.cache.master;
  left : l.blocks.left + l.i ≡ l.n;
  within : IsWithin l.totals l.i;
  reached : Reaches (ring (l.key ∷ []) l.fn.cache.master) (rules l.key.id) l.db l.totals (l.i + 1) l.x
      (blocks_behind l.blocks.left l.blocks.x)
      (summed (ring (l.key ∷ []) l.fn.cache.master) (rules l.key.id) l.db 1 l.n
      (blocks_behind l.fn.blocks.left l.fn.blocks.x) no_sums);
}
