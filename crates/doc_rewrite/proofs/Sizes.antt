-- How long payloads are.
use Rattle.std.proofs.Common.{◌≡◌, ℕ, ◌+◌, ◌*◌, ◌/◌, List, length, Option, Some, None, arith, refl, length-append}
use Rattle.std.proofs.lemmas.List.{length-take-le}
use Rattle.std.proofs.lemmas.List.Elements.{All-head, All-tail}
use Rattle.std.specs.Prelude.{[], ◌∷◌, ◌++◌, unwrap_or}
use Rattle.bson_tree.specs.Tree.{Tree, tag_of}
use Rattle.bson_tree.specs.Spelling.{value_bytes}
use Rattle.encrypt_schema.specs.declared.schema.policy.Algorithm.{Algorithm}
use Rattle.encrypt_schema.specs.declared.schema.policy.Algorithm.TheVariants.{Deterministic, Random}
use Rattle.fle_aead.specs.Key.{iv_key}
use Rattle.fle_aead.specs.Sealed.{bit_length, body, derived_iv, tag}
use Rattle.fle_aead.proofs.SealedForm.{length-body, length-tag}
use Rattle.fle_outside.specs.Blocks.{Block, IsBlock, AreBlocks}
use Rattle.hmac_sha512.proofs.MacLength.{length-hmac}
use Rattle.payload6.specs.Payload.{algorithm_number, head}
use Rattle.payload6.proofs.PayloadForm.{head-size}
use Rattle.doc_rewrite.specs.Keys.{Found, GivesLongIds, IsLong, Lookup}
use Rattle.doc_rewrite.specs.Payloads.{chosen_iv, payload}
use Rattle.doc_rewrite.specs.Sealed.{any_key, key_at, sealed_value, first_block, other_blocks}
use Rattle.doc_rewrite.specs.Sites.{Site, draw, sealed_width}

pub derived_size : (key a p : List ℕ) → length (derived_iv key a p) ≡ 16
unfolding derived_iv
derived_size key a p = length-take-le 16 _ (omega (arith, length-hmac (iv_key key) ((a ++ bit_length a) ++ p)))

iv_size : (algorithm : Algorithm) (key a p : List ℕ) (block : Block) → length block ≡ 16
    → length (chosen_iv algorithm key a p block) ≡ 16
iv_size Deterministic key a p block h = derived_size key a p
iv_size Random key a p block h = h

payload_size : (algorithm : Algorithm) (id key : List ℕ) (type : ℕ) (p : List ℕ) (block : Block) → length id ≡ 16
    → length block ≡ 16
    → length (payload algorithm id key type p block) ≡ 66 + 16 * (length p / 16 + 1)
unfolding payload
payload_size algorithm id key type p block long h =
    let a = head (algorithm_number algorithm) id type in
    let iv = chosen_iv algorithm key a p block in
    let s = body key iv p in
    omega (
      arith,
      length-append a (s ++ tag key a s),
      length-append s (tag key a s),
      head-size (algorithm_number algorithm) id type long,
      length-body key iv p (iv_size algorithm key a p block h),
      length-tag key a s,
    )

found_long : (o : Option Found) → ((f : Found) → o ≡ Some f → length f.id ≡ 16) → length (unwrap_or o any_key).id ≡ 16
found_long None h = refl
found_long (Some f) h = h f refl

-- the id of a site's key
pub key_long : (keys : Lookup) (s : Site) → GivesLongIds keys → IsLong s.need → length (key_at keys s).id ≡ 16
key_long keys s gives long = found_long (keys s.need) (λ f e. gives s.need f long e)

-- what takes the place of a value
pub sealed_size : (keys : Lookup) (s : Site) (block : Block) (t : Tree) → length (key_at keys s).id ≡ 16
    → length block ≡ 16
    → length (value_bytes (sealed_value keys s block t)) ≡ sealed_width (length (value_bytes t))
unfolding sealed_value
sealed_size keys s block t id h =
    omega (
      arith,
      payload_size s.algorithm (key_at keys s).id (key_at keys s).key (tag_of t)
          (value_bytes t) block id h,
    )

-- the blocks for a value, where others come behind them
pub first_same : (algorithm : Algorithm) (drawn rest : List Block) → length drawn ≡ draw algorithm
    → first_block algorithm (drawn ++ rest) ≡ first_block algorithm drawn
first_same Deterministic drawn rest e = refl
first_same Random [] rest e = absurd (omega (arith, e))
first_same Random (b ∷ drawn) rest e = refl

none_more : (drawn rest : List Block) → length drawn ≡ 0 → drawn ++ rest ≡ rest
none_more [] rest e = refl
none_more (b ∷ drawn) rest e = absurd (omega (arith, e))

pub others_are : (algorithm : Algorithm) (drawn rest : List Block) → length drawn ≡ draw algorithm
    → other_blocks algorithm (drawn ++ rest) ≡ rest
others_are Deterministic drawn rest e = none_more drawn rest e
others_are Random [] rest e = absurd (omega (arith, e))
others_are Random (b ∷ drawn) rest e = none_more drawn rest (omega (arith, e))

pub first_long : (algorithm : Algorithm) (blocks : List Block) → AreBlocks blocks
    → length (first_block algorithm blocks) ≡ 16
first_long Deterministic blocks are = refl
first_long Random [] are = refl
first_long Random (b ∷ blocks) are = (All-head IsBlock b blocks are).len

pub other_are : (algorithm : Algorithm) (blocks : List Block) → AreBlocks blocks
    → AreBlocks (other_blocks algorithm blocks)
other_are Deterministic blocks are = are
other_are Random [] are = are
other_are Random (b ∷ blocks) are = All-tail IsBlock b blocks are
