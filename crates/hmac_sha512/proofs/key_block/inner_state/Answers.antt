use Rattle.hmac_sha512.specs.Hmac.{padded_key}
use Rattle.hmac_sha512.proofs.key_block.inner_state.Goals as goal

pub returns : goal.returns
unfolding padded_key
returns c = record { state = λ k is. rw is at c.begun.ensures }
