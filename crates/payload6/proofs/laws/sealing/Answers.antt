use Rattle.payload6.proofs.PayloadForm.{has-kind, has-length, payload-determines, equal-payloads}
use Rattle.payload6.proofs.laws.sealing.Goals as goal

pub returns : goal.returns
returns c = record {
  kind = has-kind;
  length = has-length;
  determined = payload-determines;
  equal = equal-payloads;
}
