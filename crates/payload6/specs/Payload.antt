-- MongoDB Client Side Encryption, BSON binary subtype 6: payloads, the contents of a binary that
-- stands for a sealed value. Bytes are numbers below 256.
use Rattle.std.specs.Prelude.{◌≡◌, ℕ, ◌+◌, ◌*◌, ◌<◌, ◌≤◌, ◌==◌, Bool, false, ◌&&◌, ◌||◌, List, [], ◌∷◌, ◌++◌, length}
use Rattle.std.specs.Prelude.{take, drop}
use Rattle.encrypt_schema.specs.Commands.Visits.{is_payload}
use Rattle.encrypt_schema.specs.declared.schema.policy.Algorithm.{Algorithm}
use Rattle.encrypt_schema.specs.declared.schema.policy.Algorithm.TheVariants.{Deterministic, Random}
use Rattle.fle_aead.specs.Sealed.{derived_iv, IsSealed}

-- byte 0 of a payload: 01 for a deterministic one, 02 for a random one
abbrev pub algorithm_number : Algorithm → ℕ
algorithm_number Deterministic = 1
algorithm_number Random = 2

-- bytes begin with the number of an algorithm
abbrev pub has_number : List ℕ → Bool
has_number [] = false
has_number (number ∷ bytes) = number == 1 || number == 2

-- a value is a payload: a binary of subtype 06 whose contents begin so; any other value passes
unfoldable pub is_sealed : ℕ → List ℕ → Bool
is_sealed tag bytes = is_payload tag bytes && has_number (drop 5 bytes)

-- the number of an algorithm
abbrev pub IsKind : ℕ → Type 0
IsKind kind = (1 ≤ kind) × (kind ≤ 2)

-- the bytes begin with the number of an algorithm
abbrev pub HasKind : List ℕ → Type 0
HasKind [] = ⊥
HasKind (kind ∷ bytes) = IsKind kind

-- 18 bytes and a sealed message of one or more blocks
abbrev pub IsPayloadLength : ℕ → Type 0
IsPayloadLength n = (k : ℕ) × (0 < k) × (n ≡ 66 + 16 * k)

-- bytes 0 to 17 of a payload: the algorithm's number, the key's id and the BSON type of the original
-- value; they are the associated data under which it is sealed
abbrev pub head : ℕ → List ℕ → ℕ → List ℕ
head kind id type = kind ∷ (id ++ type ∷ [])

-- the bytes are such a head, whose key id has 16 bytes, and behind it the plain text, sealed with the
-- head under this IV
pub record IsSealedPayload (kind : ℕ) (id key : List ℕ) (type : ℕ) (iv plain bytes : List ℕ) : Type 0 where
  pub sealed : List ℕ
  pub id_size : length id ≡ 16
  pub parts : bytes ≡ head kind id type ++ sealed
  pub message : IsSealed key (head kind id type) iv plain sealed

-- bytes 18 to 33 of a payload: the IV
abbrev pub payload_iv : List ℕ → List ℕ
payload_iv bytes = take 16 (drop 18 bytes)

-- the IV of a deterministic payload is the one that key, head and plain text determine; that of a
-- random one is any
abbrev pub IsIv : Algorithm → List ℕ → List ℕ → List ℕ → List ℕ → Type 0
IsIv Deterministic key a plain iv = iv ≡ derived_iv key a plain
IsIv Random key a plain iv = Unit {0}

-- a payload of the plain text, a value of this BSON type, by this algorithm under this key
pub record IsPayload (algorithm : Algorithm) (id key : List ℕ) (type : ℕ) (plain bytes : List ℕ) : Type 0 where
  pub form : IsSealedPayload (algorithm_number algorithm) id key type (payload_iv bytes) plain bytes
  pub iv : IsIv algorithm key (head (algorithm_number algorithm) id type) plain (payload_iv bytes)
