use Rattle.std.proofs.Common.{◌+◌, ◌-◌, ap, ◌∙◌, arith}
use Rattle.aes_block.specs.Steps.{add_round_key}
use Rattle.aes_block.specs.Cipher.{rounds}
use Rattle.aes_block.proofs.Rounds.{rounds-next, cipher-last}
use Rattle.aes_block.proofs.plain_form.cipher.Goals as goal

pub loop-r-init : goal.loop-r-init
unfolding rounds
loop-r-init c = c.add_round_key-state.ensures ∙ ap (add_round_key c.args.block) c.round_key.ensures

pub loop-r-preserved : goal.loop-r-preserved
loop-r-preserved c = cc (rounds-next c.words-w.result.now c.args.block c.loop-r.state (c.loop-r.r - 1) c.loop-r.r
    (c.loop-r.r + 1 - 1) (omega arith) (omega arith) c.loop-r.invariant)

pub returns : goal.returns
returns c = record {
  sealed = cc (cipher-last c.words-w.result.now c.args.block c.loop-r.state (c.loop-r.r - 1)
      (omega arith) c.loop-r.invariant);
}
