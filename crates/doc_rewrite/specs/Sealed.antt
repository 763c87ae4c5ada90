-- MongoDB Client Side Encryption: a document with values sealed, under data keys and the random blocks drawn
use Rattle.std.specs.Prelude.{List, [], ◌∷◌, replicate, unwrap_or}
use Rattle.bson_tree.specs.Tree.{Tree, Items}
use Rattle.bson_codec.specs.Borrowed.{At}
use Rattle.bson_splice.specs.Splices.{Put}
use Rattle.bson_splice.specs.Whole.{replaced}
use Rattle.encrypt_schema.specs.declared.schema.policy.Algorithm.{Algorithm}
use Rattle.encrypt_schema.specs.declared.schema.policy.Algorithm.TheVariants.{Deterministic, Random}
use Rattle.fle_outside.specs.Blocks.{Block}
use Rattle.payload6.specs.Marking.{binary}
use Rattle.doc_rewrite.specs.declared.label.Label.{Label}
use Rattle.doc_rewrite.specs.Keys.{Found, Lookup}
use Rattle.doc_rewrite.specs.Payloads.{payload_under}
use Rattle.doc_rewrite.specs.Sites.{Site}

-- any data key, where none is found
abbrev pub any_key : Found
any_key = record { id = replicate 16 0; key = [] }

-- the data key of a site
abbrev pub key_at : Lookup → Site → Found
key_at keys s = unwrap_or (keys s.need) any_key

-- what the payload of a value at a site states of itself: the id is that of the data key
abbrev pub label_of : Site → Found → Label
label_of s f = record { algorithm = s.algorithm; key_id = f.id }

-- what takes the place of a value: a binary of subtype 06 with its payload
unfoldable pub sealed_value : Lookup → Site → Block → Tree → Tree
sealed_value keys s block t =
    binary 6 (payload_under (label_of s (key_at keys s)) (key_at keys s).key t block)

-- the same at the place of its site
abbrev pub put_of : Lookup → Site → Block → Put
put_of keys s block = record { start = s.start; end = s.end; value = sealed_value keys s block }

-- any block, for a value that takes none and where none is left
abbrev pub any_block : Block
any_block = replicate 16 0

-- the block for the next value, where there are these: a random value takes the first; any block, where it takes none
abbrev pub first_block : Algorithm → List Block → Block
first_block Deterministic blocks = any_block
first_block Random [] = any_block
first_block Random (block ∷ blocks) = block

-- the blocks for those behind it
abbrev pub other_blocks : Algorithm → List Block → List Block
other_blocks Deterministic blocks = blocks
other_blocks Random [] = []
other_blocks Random (block ∷ blocks) = blocks

-- what takes the places of values in reading order, each random one with the next block
abbrev pub seals : Lookup → List Site → List Block → List Put
seals keys [] blocks = []
seals keys (s ∷ ss) blocks =
    put_of keys s (first_block s.algorithm blocks) ∷ seals keys ss (other_blocks s.algorithm blocks)

-- the document with its values sealed at these sites
unfoldable pub sealed : Lookup → List Site → List Block → At → Items
sealed keys ss blocks d = replaced (seals keys ss blocks) d
