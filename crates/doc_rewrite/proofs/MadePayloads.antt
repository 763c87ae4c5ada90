-- What takes the place of a value is a payload of it.
use Rattle.std.proofs.Common.{◌≡◌, ℕ, ◌<◌, List, [], ◌++◌, length, Option, Some, None, unwrap_or, refl, rules}
use Rattle.std.specs.List.{All}
use Rattle.std.proofs.lemmas.List.Elements.{All-take}
use Rattle.aes_block.specs.Block as aes
use Rattle.bson_tree.specs.Tree.{Tree, tag_of}
use Rattle.bson_tree.specs.Spelling.{value_bytes}
use Rattle.encrypt_schema.specs.declared.schema.policy.Algorithm.{Algorithm}
use Rattle.encrypt_schema.specs.declared.schema.policy.Algorithm.TheVariants.{Deterministic, Random}
use Rattle.fle_aead.specs.Sealed.{body, tag, derived_iv}
use Rattle.fle_outside.specs.Blocks.{Block, IsBlock}
use Rattle.payload6.specs.Needs.{Need, Name}
use Rattle.payload6.specs.Payload.{algorithm_number, head, IsPayload, IsSealedPayload, IsIv}
use Rattle.payload6.proofs.PayloadForm.{payload_of}
use Rattle.doc_rewrite.specs.Keys.{Found, Lookup}
use Rattle.doc_rewrite.specs.Payloads.{chosen_iv, payload}
use Rattle.doc_rewrite.specs.Sealed.{any_block, sealed_value}
use Rattle.doc_rewrite.specs.SealedCommand.{HasNamed}
use Rattle.doc_rewrite.specs.SealedTrees.{IsSealedBy, IsSealedValue}
use Rattle.doc_rewrite.specs.Sites.{Site}
use Rattle.doc_rewrite.proofs.Macs.{mac_bytes}
use Rattle.doc_rewrite.proofs.Sizes.{derived_size}

pub any_is : IsBlock any_block
any_is = record { len = refl; bytes = search rules }

iv_is_block : (algorithm : Algorithm) (key a p : List ℕ) (block : Block) → IsBlock block
    → aes.IsBlock (chosen_iv algorithm key a p block)
unfolding derived_iv
iv_is_block Deterministic key a p block b = record {
  len = derived_size key a p;
  bytes = All-take (λ x. x < 256) 16 _ (mac_bytes _ _);
}
iv_is_block Random key a p block b = record { len = b.len; bytes = b.bytes }

iv_is : (algorithm : Algorithm) (key a p : List ℕ) (block : Block)
    → IsIv algorithm key a p (chosen_iv algorithm key a p block)
iv_is Deterministic key a p block = refl
iv_is Random key a p block = tt

payload_made : (algorithm : Algorithm) (id key : List ℕ) (type : ℕ) (p : List ℕ) (block : Block) → length id ≡ 16
    → IsBlock block → All (λ x. x < 256) p
    → IsPayload algorithm id key type p (payload algorithm id key type p block)
unfolding payload
payload_made algorithm id key type p block long b bytes =
    let kind = algorithm_number algorithm in
    let a = head kind id type in
    let iv = chosen_iv algorithm key a p block in
    let s = body key iv p in
    let form : IsSealedPayload kind id key type iv p (a ++ (s ++ tag key a s)) = record {
      sealed = s ++ tag key a s;
      id_size = long;
      parts = refl;
      message = record { iv_block = iv_is_block algorithm key a p block b; plain = bytes; form = refl };
    } in
    payload_of algorithm kind id key type iv p (a ++ (s ++ tag key a s)) form refl (iv_is algorithm key a p block)

value_made : (keys : Lookup) (site : Site) (t : Tree) (block : Block) (f : Found) → length f.id ≡ 16
    → keys site.need ≡ Some f → IsBlock block → All (λ x. x < 256) (value_bytes t)
    → IsSealedValue keys site.algorithm site.need t (sealed_value keys site block t)
unfolding sealed_value
value_made keys site t block f long there b bytes = record {
  key = f;
  found = there;
  bytes = payload site.algorithm f.id f.key (tag_of t) (value_bytes t) block;
  payload = payload_made site.algorithm f.id f.key (tag_of t) (value_bytes t) block long b bytes;
  whole = rw there refl;
}

-- what takes the place of a value whose key is named, and is there
pub need_made : (keys : Lookup) (algorithm : Algorithm) (need : Option Need) (start end : ℕ) (t : Tree) (block : Block)
    → HasNamed keys need → IsBlock block → All (λ x. x < 256) (value_bytes t)
    → IsSealedBy keys algorithm need t (sealed_value keys (record {
      start = start;
      end = end;
      algorithm = algorithm;
      need = unwrap_or need (Name []);
    }) block t)
need_made keys algorithm None start end t block h b bytes = absurd h
need_made keys algorithm (Some need) start end t block h b bytes =
    value_made keys (record { start = start; end = end; algorithm = algorithm; need = need }) t block h.0 h.2 h.1 b
    bytes
