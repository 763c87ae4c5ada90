-- MongoDB Client Side Encryption, BSON binary subtype 6: the payload that a value becomes under a random block
use Rattle.std.specs.Prelude.{ℕ, List, ◌++◌}
use Rattle.bson_tree.specs.Tree.{Tree, tag_of}
use Rattle.bson_tree.specs.Spelling.{value_bytes}
use Rattle.encrypt_schema.specs.declared.schema.policy.Algorithm.{Algorithm}
use Rattle.encrypt_schema.specs.declared.schema.policy.Algorithm.TheVariants.{Deterministic, Random}
use Rattle.fle_aead.specs.Sealed.{body, tag, derived_iv}
use Rattle.fle_outside.specs.Blocks.{Block}
use Rattle.payload6.specs.Payload.{algorithm_number, head}
use Rattle.doc_rewrite.specs.declared.label.Label.{Label}

-- the IV under which a plain text is sealed: the one that is derived of it, or the block that was drawn for it
abbrev pub chosen_iv : Algorithm → List ℕ → List ℕ → List ℕ → Block → List ℕ
chosen_iv Deterministic key a plain block = derived_iv key a plain
chosen_iv Random key a plain block = block

-- the payload of a plain text, a value of this BSON type, under the key of this id
unfoldable pub payload : Algorithm → List ℕ → List ℕ → ℕ → List ℕ → Block → List ℕ
payload algorithm id key type plain block =
    let a = head (algorithm_number algorithm) id type in
    let s = body key (chosen_iv algorithm key a plain block) plain in
    a ++ (s ++ tag key a s)

-- the IV of a value whose payload has this label, under its data key
abbrev pub iv_under : Label → List ℕ → Tree → Block → List ℕ
iv_under l key t block =
    chosen_iv l.algorithm key (head (algorithm_number l.algorithm) l.key_id (tag_of t)) (value_bytes t) block

-- the payload of a value, with this label
abbrev pub payload_under : Label → List ℕ → Tree → Block → List ℕ
payload_under l key t block = payload l.algorithm l.key_id key (tag_of t) (value_bytes t) block
