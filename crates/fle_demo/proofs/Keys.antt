-- The demo's key is to be had under its master key.
use Rattle.std.proofs.Common.{◌≡◌, ◌∙◌, ℕ, ◌<◌, Bool, cond, List, [], ◌∷◌, ◌++◌, length, Option, Some, None}
use Rattle.std.proofs.Common.{Ok}
use Rattle.std.proofs.Common.{refl, ap, arith, length-append}
use Rattle.std.proofs.lemmas.List.Elements.{All-append, All-get_or}
use Rattle.std.specs.List.{All}
use Rattle.std.specs.Prelude.{◌==◌}
use Rattle.std.specs.Cmp.Lexicographic.{bytes_decides}
use Rattle.data_key.specs.declared.key_doc.KeyDoc.{KeyDoc}
use Rattle.data_key.specs.declared.key_doc.Provider.TheVariants as providers
use Rattle.fle_aead.specs.Sealed.{IsSealed, opened_message}
use Rattle.fle_aead.proofs.OpenedMessage.{message-sealed}
use Rattle.fle_outside.specs.Blocks.{AreBlocks, Block, IsBlock}
use Rattle.key_vault.specs.Keys.{key_by_id}
use Rattle.key_vault.specs.Lookup.{key_of, opened_by, opened_key}
use Rattle.local_kms.specs.Made.{block_at, key_of_blocks, material_of, six_blocks}
use Rattle.local_kms.specs.Wrapped.{key_of_plain, unwrapped}

-- what is known of the data key and the IV in eight blocks
pub record AreSeeds (key iv : List ℕ) : Type 0 where
  pub long : length key ≡ 96
  pub bytes : All (λ b. b < 256) key
  pub iv_block : IsBlock iv

two : (a b : Block) → IsBlock a → IsBlock b → (length (a ++ b) ≡ 32) × All (λ b. b < 256) (a ++ b)
two a b p q = (omega (arith, p.len, q.len, length-append a b), All-append (λ b. b < 256) a b p.bytes q.bytes)

six : (a b c d e f : Block) → IsBlock a → IsBlock b → IsBlock c → IsBlock d → IsBlock e → IsBlock f
    → (length ((a ++ b) ++ ((c ++ d) ++ (e ++ f))) ≡ 96) × All (λ b. b < 256) ((a ++ b) ++ ((c ++ d) ++ (e ++ f)))
six a b c d e f p q r s t u =
    let one = two a b p q in
    let other = two c d r s in
    let third = two e f t u in
    let back = All-append (λ b. b < 256) (c ++ d) (e ++ f) other.1 third.1 in (
      omega (
        arith,
        one.0,
        other.0,
        third.0,
        length-append (a ++ b) ((c ++ d) ++ (e ++ f)),
        length-append (c ++ d) (e ++ f),
      ),
      All-append (λ b. b < 256) (a ++ b) ((c ++ d) ++ (e ++ f)) one.1 back,
    )

opens : (master key iv material : List ℕ) → AreSeeds key iv → material ≡ material_of master iv key
    → length material ≡ 160 → unwrapped master material ≡ Some key
unfolding unwrapped
opens master key iv material seeds is long =
    let form : IsSealed master [] iv key material = record {
      iv_block = record { len = seeds.iv_block.len; bytes = seeds.iv_block.bytes };
      plain = seeds.bytes;
      form = is;
    } in
    ap (λ (n : ℕ). cond (n == 160) (key_of_plain (opened_message master [] material)) None) long
    ∙ ap key_of_plain (message-sealed master [] iv key material form)
    ∙ ap (λ (n : ℕ). cond (n == 96) (Some key) None) seeds.long

-- the only key of a list is found by its id
found : (key : KeyDoc) → key_by_id (key ∷ []) key.id ≡ Some key
found key = ap (λ (b : Bool). cond b (Some key) None) ((bytes_decides key.id key.id).1 refl)

pub only_key : (master : List ℕ) (key : KeyDoc) (plain : List ℕ) → key.provider ≡ providers.Local
    → unwrapped master key.material ≡ Some plain → key_of (key ∷ []) master key.id ≡ Ok plain
unfolding key_of
only_key master key plain local is =
    ap (λ (k : Option KeyDoc). opened_key master k) (found key)
    ∙ ap (λ (k : Option (List ℕ)). opened_by key.provider k) is
    ∙ ap (λ p. opened_by p (Some plain)) local

-- the data key and the IV that eight blocks make
pub seeds_are : (blocks : List Block) → length blocks ≡ 8 → AreBlocks blocks
    → AreSeeds (six_blocks 1 blocks) (block_at 7 blocks)
seeds_are blocks long are =
    let at : (i : ℕ) → i < 8 → IsBlock (block_at i blocks) =
    λ i small. All-get_or IsBlock blocks i [] (omega (arith, long, small)) are in
    let whole =
    six (block_at 1 blocks) (block_at 2 blocks) (block_at 3 blocks) (block_at 4 blocks) (block_at 5 blocks)
    (block_at 6 blocks) (at 1 (omega arith)) (at 2 (omega arith)) (at 3 (omega arith)) (at 4 (omega arith))
    (at 5 (omega arith)) (at 6 (omega arith)) in
    record { long = whole.0; bytes = whole.1; iv_block = at 7 (omega arith) }

-- the key that eight blocks make is opened
pub made_key : (master : List ℕ) (blocks : List Block) (key : KeyDoc) → length blocks ≡ 8 → AreBlocks blocks
    → key ≡ key_of_blocks master [] blocks → length key.material ≡ 160
    → key_of (key ∷ []) master key.id ≡ Ok (six_blocks 1 blocks)
made_key master blocks key number are is long =
    only_key master key (six_blocks 1 blocks) (ap (λ (k : KeyDoc). k.provider) is)
    (opens master (six_blocks 1 blocks) (block_at 7 blocks) key.material (seeds_are blocks number are)
    (ap (λ (k : KeyDoc). k.material) is) long)
