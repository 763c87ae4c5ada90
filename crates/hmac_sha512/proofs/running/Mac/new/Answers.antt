use Rattle.std.proofs.lemmas.List.{append-nil}
use Rattle.hmac_sha512.proofs.running.Mac.new.Goals as goal

pub returns : goal.returns
returns c = record {
  begins = c.resumed.ensures _ _ (rw append-nil (c.inner_state.ensures.state _ c.block_of_key-block.ensures.block))
      (c.outer_state.ensures.state _ c.block_of_key-block.ensures.block);
}
