use Rattle.std.proofs.Common.{refl, ap, ◌∙◌}
use Rattle.std.specs.Prelude.{bit_xor}
use Rattle.aes_block.specs.declared.tables.TheConstants.{INVERSE, RATIO}
use Rattle.aes_block.specs.Nibbles.{entry, all_places, low, high}
use Rattle.aes_block.proofs.Lanes.{mapped_places, looked_up, summed}
use Rattle.aes_block.proofs.wide_lookups.halved.Goals as goal

pub look_up-ratio-requires : goal.look_up-ratio-requires
look_up-ratio-requires c = ap all_places c.low-k.ensures ∙ mapped_places low refl c.args.x c.fits-x.1

pub look_up-requires : goal.look_up-requires
look_up-requires c = ap all_places c.high-i.ensures ∙ mapped_places high refl c.args.x c.fits-x.1

pub look_up-requires-2 : goal.look_up-requires-2
look_up-requires-2 c =
    let x = c.args.x in
    let j_is = summed high low x c.high-i.ensures c.low-k.ensures in
    ap all_places j_is ∙ mapped_places (λ b. bit_xor (high b) (low b)) refl x c.fits-x.1

pub look_up-requires-3 : goal.look_up-requires-3
look_up-requires-3 c =
    let x = c.args.x in
    let j_is = summed high low x c.high-i.ensures c.low-k.ensures in
    let r_is = looked_up RATIO low x c.look_up-ratio.ensures c.low-k.ensures in
    let p_is = summed (λ b. entry INVERSE (high b)) (λ b. entry RATIO (low b)) x
    (looked_up INVERSE high x c.look_up.ensures c.high-i.ensures) r_is in
    ap all_places p_is ∙ mapped_places (λ b. bit_xor (entry INVERSE (high b)) (entry RATIO (low b))) refl x c.fits-x.1

pub look_up-requires-4 : goal.look_up-requires-4
look_up-requires-4 c =
    let x = c.args.x in
    let j_is = summed high low x c.high-i.ensures c.low-k.ensures in
    let r_is = looked_up RATIO low x c.look_up-ratio.ensures c.low-k.ensures in
    let q_is = summed (λ b. entry INVERSE (bit_xor (high b) (low b))) (λ b. entry RATIO (low b)) x
    (looked_up INVERSE (λ b. bit_xor (high b) (low b)) x c.look_up-2.ensures j_is) r_is in
    ap all_places q_is ∙ mapped_places (λ b. bit_xor (entry INVERSE (bit_xor (high b) (low b))) (entry RATIO (low b)))
    refl x c.fits-x.1

pub returns-clause-u : goal.returns-clause-u
returns-clause-u c =
    let x = c.args.x in
    let j_is = summed high low x c.high-i.ensures c.low-k.ensures in
    let r_is = looked_up RATIO low x c.look_up-ratio.ensures c.low-k.ensures in
    let p_is = summed (λ b. entry INVERSE (high b)) (λ b. entry RATIO (low b)) x
    (looked_up INVERSE high x c.look_up.ensures c.high-i.ensures) r_is in
    let e = looked_up INVERSE (λ b. bit_xor (entry INVERSE (high b)) (entry RATIO (low b))) x c.look_up-3.ensures p_is
    in
    summed (λ b. entry INVERSE (bit_xor (entry INVERSE (high b)) (entry RATIO (low b))))
    (λ b. bit_xor (high b) (low b)) x e j_is

pub returns-clause-v : goal.returns-clause-v
returns-clause-v c =
    let x = c.args.x in
    let j_is = summed high low x c.high-i.ensures c.low-k.ensures in
    let r_is = looked_up RATIO low x c.look_up-ratio.ensures c.low-k.ensures in
    let q_is = summed (λ b. entry INVERSE (bit_xor (high b) (low b))) (λ b. entry RATIO (low b)) x
    (looked_up INVERSE (λ b. bit_xor (high b) (low b)) x c.look_up-2.ensures j_is) r_is in
    let e = looked_up INVERSE (λ b. bit_xor (entry INVERSE (bit_xor (high b) (low b))) (entry RATIO (low b))) x
    c.look_up-4.ensures q_is in
    summed (λ b. entry INVERSE (bit_xor (entry INVERSE (bit_xor (high b) (low b))) (entry RATIO (low b)))) high x e
    c.high-i.ensures
