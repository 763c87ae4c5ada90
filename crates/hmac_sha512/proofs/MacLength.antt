-- The length of a MAC.
use Rattle.std.proofs.Common.{◌≡◌, ℕ, List, length}
use Rattle.sha2.proofs.Facts512.{length-sha512}
use Rattle.hmac_sha512.specs.Hmac.{hmac}

-- RFC 2104, section 2: a MAC is a digest of the hash function, so it has 64 bytes
pub length-hmac : (k m : List ℕ) → length (hmac k m) ≡ 64
unfolding hmac
length-hmac k m = length-sha512 _
