-- An element with the payload of its value, as it is written.
use Rattle.std.proofs.Common.{◌≡◌, ◌∙◌, ℕ, List, [], ◌∷◌, ◌++◌, length, ap, append_assoc}
use Rattle.std.proofs.lemmas.List.{append-nil}
use Rattle.std.specs.Int.{to_le_bytes, w32}
use Rattle.bson_tree.specs.Tree.{Tree, no_items, item}
use Rattle.bson_tree.specs.Spelling.{items_bytes}
use Rattle.encrypt_schema.specs.declared.schema.policy.Algorithm.{Algorithm}
use Rattle.fle_aead.specs.Sealed.{body, tag}
use Rattle.fle_outside.specs.Blocks.{Block}
use Rattle.payload6.specs.Marking.{binary}
use Rattle.payload6.specs.Payload.{algorithm_number, head, IsSealedPayload}
use Rattle.doc_rewrite.specs.Keys.{Found, Lookup}
use Rattle.doc_rewrite.specs.Payloads.{chosen_iv, payload, payload_under}
use Rattle.doc_rewrite.specs.Sealed.{key_at, label_of, sealed_value}
use Rattle.doc_rewrite.specs.Sites.{Site}

-- what is sealed under the IV of a block is the payload
pub payload_is : (algorithm : Algorithm) (id key : List ℕ) (type : ℕ) (iv p b : List ℕ) (block : Block)
    → IsSealedPayload (algorithm_number algorithm) id key type iv p b
    → iv ≡ chosen_iv algorithm key (head (algorithm_number algorithm) id type) p block
    → b ≡ payload algorithm id key type p block
unfolding payload
payload_is algorithm id key type iv p b block s e =
    let a = head (algorithm_number algorithm) id type in
    s.parts ∙ ap (λ (x : List ℕ). a ++ x) (s.message.form
    ∙ ap (λ (v : List ℕ). body key v p ++ tag key a (body key v p)) e)

-- type byte, name, length, subtype and contents of a binary
pub binary_parts : (out name contents : List ℕ) (n : ℕ) (a b c whole : List ℕ) → n ≡ length contents
    → a ≡ out ++ (5 ∷ (name ++ 0 ∷ []))
    → b ≡ a ++ to_le_bytes w32 n
    → c ≡ b ++ 6 ∷ []
    → whole ≡ c ++ contents
    → whole ≡ out ++ items_bytes (item name (binary 6 contents) no_items)
binary_parts out name contents n a b c whole is ea eb ec ew = rw (ew, ec, eb, ea, is) (simp (append_assoc, append-nil))

-- an element whose value is sealed under the key of a site
pub element_is : (keys : Lookup) (s : Site) (block : Block) (name : List ℕ) (t : Tree) (f : Found) (out whole : List ℕ)
    → f ≡ key_at keys s
    → whole ≡ out ++ items_bytes (item name (binary 6 (payload_under (label_of s f) f.key t block)) no_items)
    → whole ≡ out ++ items_bytes (item name (sealed_value keys s block t) no_items)
unfolding sealed_value
element_is keys s block name t f out whole is e =
    e ∙ ap (λ (g : Found). out ++ items_bytes (item name (binary 6 (payload_under (label_of s g) g.key t block))
    no_items)) is
