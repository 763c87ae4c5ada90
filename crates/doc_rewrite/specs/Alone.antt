-- MongoDB Client Side Encryption, "ClientEncryption", `encrypt`: a document of one element with its value sealed
use Rattle.std.specs.Prelude.{◌≡◌, ℕ, List, length}
use Rattle.bson_tree.specs.Spelling.{doc_bytes}
use Rattle.bson_tree.specs.Tree.{Tree, Items, item, no_items}
use Rattle.encrypt_schema.specs.declared.schema.policy.Algorithm.{Algorithm}
use Rattle.fle_outside.specs.Blocks.{Block}
use Rattle.fle_outside.specs.Seen.{Draws, EntropySeen}
use Rattle.payload6.specs.Marking.{binary}
use Rattle.doc_rewrite.specs.Payloads.{payload_under}
use Rattle.doc_rewrite.specs.Sealed.{first_block}
use Rattle.doc_rewrite.specs.Sites.{draw}

-- the element with the payload of its value, under the data key of this id
abbrev pub sealed_single : Algorithm → List ℕ → List ℕ → List ℕ → Tree → List Block → Items
sealed_single algorithm id key name t blocks =
    item
    name
    (binary 6 (payload_under (record { algorithm = algorithm; key_id = id }) key t (first_block algorithm blocks)))
    no_items

-- these bytes are the document, with the blocks that were drawn
pub record IsSealedSingle (algorithm : Algorithm) (id key name : List ℕ) (t : Tree) (before after : EntropySeen)
    (bytes : List ℕ) : Type 0 where
  pub drawn : List Block
  pub count : length drawn ≡ draw algorithm
  pub draws : Draws before after drawn
  pub written : bytes ≡ doc_bytes (sealed_single algorithm id key name t drawn)
