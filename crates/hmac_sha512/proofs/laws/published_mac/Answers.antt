use Rattle.hmac_sha512.proofs.Computed.{case_2}
use Rattle.hmac_sha512.proofs.laws.published_mac.Goals as goal

pub returns : goal.returns
returns c = record { mac = case_2 }
