use Rattle.std.proofs.Common.{◌-◌, ap, refl, ◌∙◌, arith}
use Rattle.aes_block.specs.Cipher.{inv_rounds}
use Rattle.aes_block.specs.Opening.{both_at, open_last}
use Rattle.aes_block.specs.Steps.{add_round_key, inv_mix_columns, round_key}
use Rattle.aes_block.proofs.Blocks.{IsBlock-round_key, IsBlock-inv_mix_columns}
use Rattle.aes_block.proofs.Rounds.{inv_cipher-last}
use Rattle.aes_block.proofs.OpenLanes.{IsBlock-inv_rounds}
use Rattle.aes_block.proofs.OpenPair.{key_at, next_both, open_last-block}
use Rattle.aes_block.proofs.opening_pair.opened_two.Goals as goal

pub loop-r-init : goal.loop-r-init
unfolding inv_rounds add_round_key
loop-r-init c = record {
  first = c.open_begin-x.ensures.first;
  second = c.open_begin-x.ensures.second;
  states = λ w keys.
      c.open_begin-x.ensures.sums (round_key w 14) (IsBlock-round_key w 14) (c.key.ensures ∙ keys.key_0);
}

pub loop-r-preserved : goal.loop-r-preserved
loop-r-preserved c = record {
  first = c.loop-r.invariant.first;
  second = c.loop-r.invariant.second;
  states = λ w keys.
      let r = c.loop-r.r in
      let a = c.loop-r.invariant.first in
      let b = c.loop-r.invariant.second in
      c.open_round-x.ensures (inv_rounds w c.args.a (r - 1)) (inv_rounds w c.args.b (r - 1))
      (inv_mix_columns (round_key w (14 - r))) (IsBlock-inv_rounds w c.args.a (r - 1) a)
      (IsBlock-inv_rounds w c.args.b (r - 1) b) (IsBlock-inv_mix_columns _ (IsBlock-round_key w (14 - r)))
      (c.loop-r.invariant.states w keys) (key_at _ w keys r (omega arith) (omega arith))
      ∙ next_both w c.args.a c.args.b r _ (omega arith) (omega arith) (omega arith) a b;
}

pub returns-clause-first : goal.returns-clause-first
returns-clause-first c w keys =
    let s = inv_rounds w c.args.a 13 in
    let t = inv_rounds w c.args.b 13 in
    let k = round_key w 0 in
    let bs = IsBlock-inv_rounds w c.args.a 13 c.loop-r.invariant.first in
    let bt = IsBlock-inv_rounds w c.args.b 13 c.loop-r.invariant.second in
    let bk = IsBlock-round_key w 0 in
    c.first_of.ensures (open_last s k) (open_last t k) (open_last-block s k bs bk).len (open_last-block t k bt bk).len
    (c.open_end-both.ensures s t k bs bt bk (c.loop-r.invariant.states w keys
    ∙ ap (λ m. both_at m (inv_rounds w c.args.a m) (inv_rounds w c.args.b m)) (omega arith)) keys.key_14)
    ∙ inv_cipher-last w c.args.a s 13 refl refl

pub returns-clause-second : goal.returns-clause-second
returns-clause-second c w keys =
    let s = inv_rounds w c.args.a 13 in
    let t = inv_rounds w c.args.b 13 in
    let k = round_key w 0 in
    let bs = IsBlock-inv_rounds w c.args.a 13 c.loop-r.invariant.first in
    let bt = IsBlock-inv_rounds w c.args.b 13 c.loop-r.invariant.second in
    let bk = IsBlock-round_key w 0 in
    c.second_of.ensures (open_last s k) (open_last t k) (open_last-block s k bs bk).len (open_last-block t k bt bk).len
    (c.open_end-both.ensures s t k bs bt bk (c.loop-r.invariant.states w keys
    ∙ ap (λ m. both_at m (inv_rounds w c.args.a m) (inv_rounds w c.args.b m)) (omega arith)) keys.key_14)
    ∙ inv_cipher-last w c.args.b t 13 refl refl
