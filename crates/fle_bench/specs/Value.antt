-- One sealed value (draft-mcgrew-aead-aes-cbc-hmac-sha2-05, 2.1), under the IV that it
-- determines.
use Rattle.std.specs.Prelude.{ℕ, List, ◌++◌}
use Rattle.fle_aead.specs.Sealed.{body, derived_iv, tag}

-- draft, 2.1, step 7: IV and blocks, and their tag
abbrev pub with_tag : List ℕ → List ℕ → List ℕ → List ℕ
with_tag key a s = s ++ tag key a s

-- the message p and the associated data a, sealed under the IV that the two determine
abbrev pub sealed_value : List ℕ → List ℕ → List ℕ → List ℕ
sealed_value key a p = with_tag key a (body key (derived_iv key a p) p)
