-- Payloads of binaries.
use Rattle.std.proofs.Common.{◌≡◌, ◌∙◌, ℕ, ◌+◌, ◌/◌, ◌≤◌, List, ◌++◌, length, arith, ap, sym, subst, refl}
use Rattle.encrypt_schema.specs.declared.schema.policy.Algorithm.{Algorithm}
use Rattle.encrypt_schema.specs.declared.schema.policy.Algorithm.TheVariants.{Deterministic, Random}
use Rattle.bson_tree.specs.Tree.{leaf}
use Rattle.bson_codec.specs.Table.{layout_of}
use Rattle.payload6.specs.Opening.{IsOriginal}
use Rattle.payload6.specs.Payload.{algorithm_number, head, HasKind, IsKind, IsPayloadLength, IsSealedPayload}
use Rattle.payload6.proofs.PayloadForm.{parted-once, payload-length}
use Rattle.fle_bench.specs.Message.{message_bytes}
use Rattle.fle_bench.specs.Payload.{binary_value, payload_of, iv_for}

pub payload-is : (algorithm : Algorithm) (key id : List ℕ) (type : ℕ) (iv p bytes : List ℕ)
    → IsSealedPayload (algorithm_number algorithm) id key type (iv_for algorithm key id type iv p) p bytes
    → bytes ≡ payload_of algorithm key id type iv p
unfolding payload_of
payload-is algorithm key id type iv p bytes s =
    s.parts ∙ ap (λ (c : List ℕ). head (algorithm_number algorithm) id type ++ c) s.message.form

-- a binary may be sealed
pub original : (n : ℕ) → length (binary_value n) ≡ n + 5 → n ≤ 67108864 → IsOriginal 100 5 (binary_value n)
unfolding layout_of binary_value
original n long small = record {
  sealable = refl;
  spelled = record {
    tree = leaf 5 (binary_value n);
    laid = record { subtype = 0; contents = message_bytes n; fits = omega (arith, long); parts = refl };
    type = refl;
    parts = refl;
  };
}

-- the kind of a payload, and its length
pub has-kind : (kind : ℕ) (id key : List ℕ) (type : ℕ) (iv p bytes : List ℕ)
    → IsSealedPayload kind id key type iv p bytes → IsKind kind
    → HasKind bytes
has-kind kind id key type iv p bytes s known = subst HasKind (sym s.parts) known

pub has-length : (kind : ℕ) (id key : List ℕ) (type : ℕ) (iv p bytes : List ℕ)
    → IsSealedPayload kind id key type iv p bytes
    → IsPayloadLength (length bytes)
has-length kind id key type iv p bytes s = (
  length p / 16 + 1,
  omega arith,
  payload-length kind id key type iv p bytes s,
)

-- a payload in two parts is that of these parts
pub parted : (kind kind' : ℕ) (id id' key : List ℕ) (type type' : ℕ) (iv p h c bytes : List ℕ) → length id' ≡ 16
    → h ≡ head kind' id' type'
    → h ++ c ≡ bytes → IsSealedPayload kind id key type iv p bytes
    → IsSealedPayload kind' id' key type' iv p (h ++ c) × (type ≡ type')
parted kind kind' id id' key type type' iv p h c bytes long is joined s =
    let whole : head kind id type ++ s.sealed ≡ head kind' id' type' ++ c =
    sym s.parts ∙ sym joined ∙ ap (λ (x : List ℕ). x ++ c) is in
    let same = parted-once kind kind' id id' type type' s.sealed c s.id_size long whole in
    (rw (same.0, same.1, same.2, sym joined) at s, same.2)

pub number-is_kind : (algorithm : Algorithm) → IsKind (algorithm_number algorithm)
number-is_kind Deterministic = (omega arith, omega arith)
number-is_kind Random = (omega arith, omega arith)
