-- The first 32 of 64 digits are 32.
use Rattle.std.proofs.Common.{◌≡◌, length, sym, arith, rules}
use Rattle.std.proofs.lemmas.List.{length-take-le}
use Rattle.fle_demo.proofs.totals.put_digest.Goals as goal

pub slice_bounds-append-end : goal.slice_bounds-append-end
slice_bounds-append-end c =
    let long : length c.digits_of-digits.result ≡ 64 = search rules in
    sym (length-take-le 32 c.digits_of-digits.result (omega (arith, long)))
