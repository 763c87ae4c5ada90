-- One byte more of the message.
use Rattle.std.proofs.Common.{◌≡◌, ℕ, ◌+◌, ◌%◌, [], ◌∷◌, ◌++◌, refl, add-one}
use Rattle.fle_bench.specs.Message.{message_bytes}

pub message_bytes-next : (i : ℕ) → message_bytes (i + 1) ≡ message_bytes i ++ (i % 251) ∷ []
unfolding message_bytes
message_bytes-next i = rw add-one refl
