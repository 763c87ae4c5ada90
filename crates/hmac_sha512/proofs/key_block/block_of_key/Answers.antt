use Rattle.std.proofs.lemmas.Bool.{lt-ltb, le-ltb}
use Rattle.hmac_sha512.specs.Hmac.{key_block}
use Rattle.hmac_sha512.proofs.key_block.block_of_key.Goals as goal

pub returns-then-key-gt-BLOCK : goal.returns-then-key-gt-BLOCK
unfolding key_block
returns-then-key-gt-BLOCK c =
    record { block = rw (lt-ltb _ _ c.if-key-gt-BLOCK.true, ← c.digest-digest.ensures) c.zero_filled.ensures }

pub returns-else-key-gt-BLOCK : goal.returns-else-key-gt-BLOCK
unfolding key_block
returns-else-key-gt-BLOCK c =
    record { block = rw (le-ltb _ _ c.if-key-gt-BLOCK.false) c.zero_filled-else-key-gt-BLOCK.ensures }
