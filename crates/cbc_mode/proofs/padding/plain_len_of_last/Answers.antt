use Rattle.std.proofs.Common.{◌≡◌, ◌-◌, get_or, length, ap, ◌∙◌, arith, refl, rules}
use Rattle.cbc_mode.proofs.Padded.{last-pad, padded_from, padded_ends}
use Rattle.cbc_mode.proofs.padding.plain_len_of_last.Goals as goal

pub returns-then-both-clause-right : goal.returns-then-both-clause-right
returns-then-both-clause-right c =
    let h = c.if-both.ensures.0 refl in
    let range = c.is_count.ensures.0 h.0 in
    let n : c.saturating_sub-n.result ≡ 16 - get_or c.args.block 15 0 = search (rules, c.saturating_sub-n.ensures) in
    rw n (padded_from c.args.block _ (search rules) range.0 range.1 (rw n at (c.ends_in.ensures.0 h.1)))

pub returns-else-both-clause-wrong : goal.returns-else-both-clause-wrong
returns-else-both-clause-wrong c = λ p short is.
    let last : get_or c.args.block 15 0 ≡ 16 - length p = ap (λ s. get_or s 15 0) is ∙ last-pad p short in
    let n : c.saturating_sub-n.result ≡ 16 - get_or c.args.block 15 0 = search (rules, c.saturating_sub-n.ensures) in
    let ends = c.ends_in.ensures.1 (λ k low high. padded_ends c.args.block p short is k (omega (arith, n, low)) high) in
    let no = c.if-both.ensures.1 (c.is_count.ensures.1 (omega (arith, last), omega (arith, last)), ends) in cc
