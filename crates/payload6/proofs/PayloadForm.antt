-- Payloads taken apart, and put together again.
use Rattle.std.proofs.Common.{◌≡◌, ◌∙◌, ℕ, ◌+◌, ◌-◌, ◌*◌, ◌/◌, ◌%◌, ◌<◌, List, [], ◌∷◌, ◌++◌, length, get_or, take}
use Rattle.std.proofs.Common.{drop, arith, ap, sym, subst}
use Rattle.std.proofs.lemmas.List.{drop_at, take_at, length-append}
use Rattle.encrypt_schema.specs.declared.schema.policy.Algorithm.{Algorithm}
use Rattle.encrypt_schema.specs.declared.schema.policy.Algorithm.TheVariants.{Deterministic, Random}
use Rattle.fle_aead.specs.Sealed.{body, tag, IsSealed, IsSealedLength}
use Rattle.fle_aead.proofs.SealedForm.{sealed-determines, sealed-iv, sealed-length}
use Rattle.payload6.specs.Payload.{algorithm_number, head, payload_iv, HasKind, IsKind, IsPayload, IsPayloadLength}
use Rattle.payload6.specs.Payload.{IsSealedPayload, IsIv}

pub head-size : (kind : ℕ) (id : List ℕ) (type : ℕ) → length id ≡ 16 → length (head kind id type) ≡ 18
head-size kind id type long = omega (arith, length-append id (type ∷ []), long)

-- what is sealed behind a head is a payload
pub payload_from : (kind : ℕ) (id key : List ℕ) (type : ℕ) (iv p h c : List ℕ) → length id ≡ 16 → h ≡ head kind id type
    → IsSealed key h iv p c → IsSealedPayload kind id key type iv p (h ++ c)
payload_from kind id key type iv p h c long is s = record {
  sealed = c;
  id_size = long;
  parts = ap (λ (x : List ℕ). x ++ c) is;
  message = subst (λ (a : List ℕ). IsSealed key a iv p c) is s;
}

pub behind-head : (kind : ℕ) (id key : List ℕ) (type : ℕ) (iv p bytes : List ℕ)
    (s : IsSealedPayload kind id key type iv p bytes)
    → drop 18 bytes ≡ s.sealed
behind-head kind id key type iv p bytes s =
    ap (drop 18) s.parts ∙ drop_at (head kind id type) s.sealed 18 (head-size kind id type s.id_size)

pub before-sealed : (kind : ℕ) (id key : List ℕ) (type : ℕ) (iv p bytes : List ℕ)
    → IsSealedPayload kind id key type iv p bytes
    → take 18 bytes ≡ head kind id type
before-sealed kind id key type iv p bytes s =
    ap (take 18) s.parts ∙ take_at (head kind id type) s.sealed 18 (head-size kind id type s.id_size)

-- the message that is sealed behind the head
pub message_in : (kind : ℕ) (id key : List ℕ) (type : ℕ) (iv p h c : List ℕ) → length id ≡ 16 → h ≡ head kind id type
    → IsSealedPayload kind id key type iv p (h ++ c) → IsSealed key h iv p c
message_in kind id key type iv p h c long is s =
    let size : length h ≡ 18 = ap length is ∙ head-size kind id type long in
    let same : s.sealed ≡ c = sym (behind-head kind id key type iv p (h ++ c) s) ∙ drop_at h c 18 size in
    subst (λ (a : List ℕ). IsSealed key a iv p c) (sym is)
    (subst (λ (x : List ℕ). IsSealed key (head kind id type) iv p x) same s.message)

-- bytes 18 to 33 are the IV
pub iv_is : (kind : ℕ) (id key : List ℕ) (type : ℕ) (iv p bytes : List ℕ)
    → IsSealedPayload kind id key type iv p bytes
    → payload_iv bytes ≡ iv
iv_is kind id key type iv p bytes s =
    ap (take 16) (behind-head kind id key type iv p bytes s) ∙ sealed-iv key (head kind id type) iv p s.sealed s.message

pub payload_of : (algorithm : Algorithm) (kind : ℕ) (id key : List ℕ) (type : ℕ) (iv p bytes : List ℕ)
    → IsSealedPayload kind id key type iv p bytes → kind ≡ algorithm_number algorithm
    → IsIv algorithm key (head kind id type) p iv → IsPayload algorithm id key type p bytes
payload_of algorithm kind id key type iv p bytes s is v =
    let same_iv : iv ≡ payload_iv bytes = sym (iv_is kind id key type iv p bytes s) in record {
      form = subst (λ (k : ℕ). IsSealedPayload k id key type (payload_iv bytes) p bytes) is
          (subst (λ (x : List ℕ). IsSealedPayload kind id key type x p bytes) same_iv s);
      iv = subst (λ (k : ℕ). IsIv algorithm key (head k id type) p (payload_iv bytes)) is
          (subst (λ (x : List ℕ). IsIv algorithm key (head kind id type) p x) same_iv v);
    }

-- a payload has 18 bytes more than what is sealed
pub payload-length : (kind : ℕ) (id key : List ℕ) (type : ℕ) (iv p bytes : List ℕ)
    → IsSealedPayload kind id key type iv p bytes
    → length bytes ≡ 66 + 16 * (length p / 16 + 1)
payload-length kind id key type iv p bytes s =
    ap length s.parts ∙ omega (
      arith,
      length-append (head kind id type) s.sealed,
      head-size kind id type s.id_size,
      sealed-length key (head kind id type) iv p s.sealed s.message,
    )

-- ---- laws

number-is_kind : (algorithm : Algorithm) → IsKind (algorithm_number algorithm)
number-is_kind Deterministic = (omega arith, omega arith)
number-is_kind Random = (omega arith, omega arith)

pub has-kind : (algorithm : Algorithm) (id key : List ℕ) (type : ℕ) (p bytes : List ℕ)
    → IsPayload algorithm id key type p bytes → HasKind bytes
has-kind algorithm id key type p bytes s = subst HasKind (sym s.form.parts) (number-is_kind algorithm)

pub has-length : (algorithm : Algorithm) (id key : List ℕ) (type : ℕ) (p bytes : List ℕ)
    → IsPayload algorithm id key type p bytes
    → IsPayloadLength (length bytes)
has-length algorithm id key type p bytes s = (
  length p / 16 + 1,
  omega arith,
  payload-length (algorithm_number algorithm) id key type
      (payload_iv bytes) p bytes s.form,
)

-- the parts of a head
head-determines : (kind kind' : ℕ) (id id' : List ℕ) (type type' : ℕ) → length id ≡ 16 → length id' ≡ 16
    → head kind id type ≡ head kind' id' type' → (kind ≡ kind') × (id ≡ id') × (type ≡ type')
head-determines kind kind' id id' type type' long long' same =
    let rest : id ++ type ∷ [] ≡ id' ++ type' ∷ [] = ap (drop 1) same in (
      ap (λ (x : List ℕ). get_or x 0 0) same,
      sym (take_at id (type ∷ []) 16 long) ∙ ap (take 16) rest ∙ take_at id' (type' ∷ []) 16 long',
      ap (λ (x : List ℕ). get_or x 0 0) (sym (drop_at id (type ∷ []) 16 long) ∙ ap (drop 16) rest
          ∙ drop_at id' (type' ∷ []) 16 long'),
    )

-- bytes are parted in one way
pub parted-once : (kind kind' : ℕ) (id id' : List ℕ) (type type' : ℕ) (c c' : List ℕ) → length id ≡ 16 → length id' ≡ 16
    → head kind id type ++ c ≡ head kind' id' type' ++ c' → (kind ≡ kind') × (id ≡ id') × (type ≡ type') × (c ≡ c')
parted-once kind kind' id id' type type' c c' long long' same =
    let size = head-size kind id type long in
    let size' = head-size kind' id' type' long' in
    let heads = head-determines kind kind' id id' type type' long long'
    (sym (take_at (head kind id type) c 18 size) ∙ ap (take 18) same ∙ take_at (head kind' id' type') c' 18 size') in (
      heads.0,
      heads.1,
      heads.2,
      sym (drop_at (head kind id type) c 18 size) ∙ ap (drop 18) same
          ∙ drop_at (head kind' id' type') c' 18 size',
    )

pub payload-determines : (kind kind' : ℕ) (id id' key : List ℕ) (type type' : ℕ) (iv iv' p p' bytes : List ℕ)
    → IsSealedPayload kind id key type iv p bytes → IsSealedPayload kind' id' key type' iv' p' bytes
    → (kind ≡ kind') × (id ≡ id') × (type ≡ type') × (iv ≡ iv') × (p ≡ p')
payload-determines kind kind' id id' key type type' iv iv' p p' bytes s t =
    let heads : head kind id type ≡ head kind' id' type' =
    sym (before-sealed kind id key type iv p bytes s) ∙ before-sealed kind' id' key type' iv' p' bytes t in
    let same : s.sealed ≡ t.sealed =
    sym (behind-head kind id key type iv p bytes s) ∙ behind-head kind' id' key type' iv' p' bytes t in
    let message : IsSealed key (head kind id type) iv' p' s.sealed =
    subst (λ (a : List ℕ). IsSealed key a iv' p' s.sealed) (sym heads)
    (subst (λ (x : List ℕ). IsSealed key (head kind' id' type') iv' p' x) (sym same) t.message) in
    let parts = head-determines kind kind' id id' type type' s.id_size t.id_size heads in
    let inside = sealed-determines key (head kind id type) iv p iv' p' s.sealed s.message message in
    (parts.0, parts.1, parts.2, inside.0, inside.1)

-- equal plain texts have equal deterministic payloads
pub equal-payloads : (id key : List ℕ) (type : ℕ) (p bytes bytes' : List ℕ)
    → IsPayload Deterministic id key type p bytes
    → IsPayload Deterministic id key type p bytes' → bytes ≡ bytes'
equal-payloads id key type p bytes bytes' s t =
    let a : List ℕ = head 1 id type in
    let same : payload_iv bytes ≡ payload_iv bytes' = s.iv ∙ sym t.iv in
    let sealed : s.form.sealed ≡ t.form.sealed =
    s.form.message.form ∙ ap (λ (iv : List ℕ). body key iv p ++ tag key a (body key iv p)) same
    ∙ sym t.form.message.form in
    s.form.parts ∙ ap (λ (x : List ℕ). a ++ x) sealed ∙ sym t.form.parts

-- ---- opening

-- a length that isn't right is no payload's
pub blocks-of : (n : ℕ) → 48 < n → n % 16 ≡ 0 → IsSealedLength n
blocks-of n some whole = (n / 16 - 3, omega arith, omega arith)

-- the message found is the one that was sealed
pub found-is : (key a iv p iv' p' c : List ℕ) → IsSealed key a iv p c → IsSealed key a iv' p' c → p ≡ p'
found-is key a iv p iv' p' c s t = (sealed-determines key a iv p iv' p' c s t).1
