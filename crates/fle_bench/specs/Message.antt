-- The message that is run over.
use Rattle.std.specs.Prelude.{ℕ, zero, suc, ◌%◌, List, [], ◌∷◌, ◌++◌}

-- n bytes that count up from 0 to 250, again and again
unfoldable pub message_bytes : ℕ → List ℕ
message_bytes zero = []
message_bytes (suc n) = message_bytes n ++ (n % 251) ∷ []
