use Rattle.std.proofs.lemmas.List.{append-nil}
use Rattle.hmac_sha512.proofs.keyed.KeyedMac.begin.Goals as goal

pub returns : goal.returns
returns c = record {
  begins = λ k has.
      c.resumed.ensures k _ (rw (c.copy_of.ensures, append-nil) has.inner) (rw c.copy_of-2.ensures has.outer);
}
