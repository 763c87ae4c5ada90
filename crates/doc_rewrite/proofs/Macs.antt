-- A MAC is bytes.
use Rattle.std.proofs.Common.{ℕ, zero, suc, ◌<◌, List, arith, rules}
use Rattle.std.specs.List.{All}
use Rattle.std.specs.Int.{to_be_bytes, w64}
use Rattle.std.specs.Prelude.{slice_index}
use Rattle.std.proofs.lemmas.List.Elements.{All-append}
use Rattle.sha2.specs.Sha512.{digest_bytes, sha512}
use Rattle.hmac_sha512.specs.Hmac.{hmac}

word : (n : ℕ) → All (λ b. b < 256) (to_be_bytes w64 n)
word n = search (rules, arith)

digest : (h : List ℕ) (n : ℕ) → All (λ b. b < 256) (digest_bytes h n)
unfolding digest_bytes
digest h zero = search rules
digest h (suc n) = All-append (λ b. b < 256) (digest_bytes h n) (to_be_bytes w64 (slice_index h n)) (digest h n)
    (word (slice_index h n))

pub mac_bytes : (k m : List ℕ) → All (λ b. b < 256) (hmac k m)
unfolding hmac sha512
mac_bytes k m = digest _ 8
