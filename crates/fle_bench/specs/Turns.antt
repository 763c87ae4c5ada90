-- Turns of which each is fed with what the one before it gave, as in NIST's Monte Carlo tests (AESAVS, 6.4).
use Rattle.std.specs.Prelude.{ℕ, zero, suc, ◌-◌, List, ◌++◌, length, drop}
use Rattle.encrypt_schema.specs.declared.schema.policy.Algorithm.{Algorithm}
use Rattle.cbc_mode.specs.Cbc.{cbc_sealed}
use Rattle.cbc_mode.specs.Padding.{pad}
use Rattle.hmac_sha512.specs.Hmac.{hmac}
use Rattle.fle_bench.specs.Payload.{payload_of}
use Rattle.fle_bench.specs.Value.{sealed_value}

-- the last k bytes
abbrev pub last : ℕ → List ℕ → List ℕ
last k bs = drop (length bs - k) bs

-- what n turns give, of which the first is fed with x
unfoldable pub repeated : (List ℕ → List ℕ) → List ℕ → ℕ → List ℕ
repeated turn x zero = x
repeated turn x (suc n) = turn (repeated turn x n)

-- CBC encryption, whose last block is the next IV
abbrev pub sealed_turns : List ℕ → List ℕ → List ℕ → ℕ → List ℕ
sealed_turns w iv p n = repeated (λ (b : List ℕ). cbc_sealed w (last 16 b) (pad p)) iv n

-- HMAC, whose last 16 bytes stand in place of the next text's first 16
abbrev pub mac_turns : List ℕ → List ℕ → List ℕ → ℕ → List ℕ
mac_turns key block text n = repeated (λ (b : List ℕ). hmac key (last 16 b ++ drop 16 text)) block n

-- one sealed value, whose last 18 bytes are the next one's associated data
abbrev pub value_turns : List ℕ → List ℕ → List ℕ → ℕ → List ℕ
value_turns key a p n = repeated (λ (b : List ℕ). sealed_value key (last 18 b) p) a n

-- one payload, whose last 16 bytes are the next one's key id
abbrev pub payload_turns : Algorithm → List ℕ → List ℕ → ℕ → List ℕ → List ℕ → ℕ → List ℕ
payload_turns algorithm key id type iv p n =
    repeated (λ (b : List ℕ). payload_of algorithm key (last 16 b) type iv p) id n
