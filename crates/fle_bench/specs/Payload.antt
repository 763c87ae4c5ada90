-- One payload (MongoDB Client Side Encryption, BSON binary subtype 6) of a binary.
use Rattle.std.specs.Prelude.{◌≡◌, ℕ, List, ◌++◌, length, take}
use Rattle.bson_codec.specs.Layout.{binary_bytes}
use Rattle.encrypt_schema.specs.declared.schema.policy.Algorithm.{Algorithm}
use Rattle.encrypt_schema.specs.declared.schema.policy.Algorithm.TheVariants.{Deterministic, Random}
use Rattle.fle_aead.specs.Sealed.{body, derived_iv}
use Rattle.payload6.specs.Opening.{IsOriginal}
use Rattle.payload6.specs.Payload.{algorithm_number, head, IsKind, IsSealedPayload}
use Rattle.fle_bench.specs.Message.{message_bytes}
use Rattle.fle_bench.specs.Value.{with_tag}

-- BSON 1.1, "binary": the value that is sealed, of subtype 00, whose contents are the message
unfoldable pub binary_value : ℕ → List ℕ
binary_value n = binary_bytes 0 (message_bytes n)

-- the IV: the one that key, key id, type and value determine, or one that is given
unfoldable pub iv_for : Algorithm → List ℕ → List ℕ → ℕ → List ℕ → List ℕ → List ℕ
iv_for Deterministic key id type iv p = derived_iv key (head 1 id type) p
iv_for Random key id type iv p = iv

-- a head, and behind it the value, sealed under an IV with the head as associated data
abbrev pub behind_head : List ℕ → List ℕ → List ℕ → List ℕ → List ℕ
behind_head key h iv p = h ++ with_tag key h (body key iv p)

-- the payload of a value p of this type; the given IV serves Random alone
unfoldable pub payload_of : Algorithm → List ℕ → List ℕ → ℕ → List ℕ → List ℕ → List ℕ
payload_of algorithm key id type iv p =
    behind_head key (head (algorithm_number algorithm) id type) (iv_for algorithm key id type iv p) p

-- where the bytes are the payload of a value that may be opened, out begins with it
pub record IsOpened (key bytes out : List ℕ) : Type 0 where
  pub begins : (kind : ℕ) (id : List ℕ) (type : ℕ) (iv p : List ℕ) → IsSealedPayload kind id key type iv p bytes
      → IsKind kind
      → IsOriginal 100 type p → take (length p) out ≡ p
