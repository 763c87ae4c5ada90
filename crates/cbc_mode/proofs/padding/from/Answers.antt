use Rattle.std.proofs.Common.{◌≡◌, true, leb, arith}
use Rattle.std.proofs.lemmas.Bool.Decides.{nat_tests}
use Rattle.cbc_mode.proofs.Differences.{masked}
use Rattle.cbc_mode.proofs.padding.from.Goals as goal

pub returns-clause-behind : goal.returns-clause-behind
returns-clause-behind c = λ h.
    let inside : leb c.args.n c.args.i ≡ true = grind (arith, nat_tests) in rw inside
    (masked c.args.byte c.ranges.byte.fits)
