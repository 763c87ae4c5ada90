-- MongoDB Client Side Encryption, "Data key creation": a new data key from eight random blocks
use Rattle.std.specs.Prelude.{◌+◌, ℕ, List, [], ◌++◌, get_or, Result, Ok, Err, ⊤}
use Rattle.fle_outside.specs.Blocks.{Block}
use Rattle.fle_outside.specs.Seen.{EntropySeen}
use Rattle.uuid.specs.Parts.{with_version, with_variant}
use Rattle.uuid.specs.declared.Variant.TheVariants as variants
use Rattle.uuid.specs.declared.Version.TheVariants as versions
use Rattle.fle_aead.specs.Sealed.{body, tag}
use Rattle.data_key.specs.declared.key_doc.KeyDoc.{KeyDoc}
use Rattle.data_key.specs.declared.key_doc.Provider.TheVariants as providers
use Rattle.local_kms.specs.declared.making.NewFault.{NewFault}
use Rattle.local_kms.specs.declared.making.NewFault.TheVariants as faults
use Rattle.local_kms.specs.declared.making.Seeds.{Seeds}
use Rattle.local_kms.specs.Drawn.{Made, FellShort}

-- block number i, from 0
abbrev pub block_at : ℕ → List Block → Block
block_at i blocks = get_or blocks i []

-- RFC 4122, 4.4: a UUID of version 4 from a random block
abbrev pub id_of : Block → List ℕ
id_of block = with_version (with_variant block variants.RFC4122) versions.Random

-- two blocks, from block i on
abbrev pub two_blocks : ℕ → List Block → List ℕ
two_blocks i blocks = block_at i blocks ++ block_at (i + 1) blocks

-- six blocks, from block i on
abbrev pub six_blocks : ℕ → List Block → List ℕ
six_blocks i blocks = two_blocks i blocks ++ (two_blocks (i + 2) blocks ++ two_blocks (i + 4) blocks)

-- what a key is made of: a block for its id, six for the data key, and one for its IV
abbrev pub seeds_of : Block → List ℕ → Block → Seeds
seeds_of id key iv = record { id = id; key = key; iv = iv }

-- the same of eight blocks in the order in which they are drawn
abbrev pub seeds : List Block → Seeds
seeds blocks = seeds_of (block_at 0 blocks) (six_blocks 1 blocks) (block_at 7 blocks)

-- a data key sealed under its master key and an IV, without associated data
abbrev pub material_of : List ℕ → Block → List ℕ → List ℕ
material_of master iv key = body master iv key ++ tag master [] (body master iv key)

-- the key made of these
abbrev pub key_of : List ℕ → List (List ℕ) → Seeds → KeyDoc
key_of master names s = record {
  id = id_of s.id;
  names = names;
  material = material_of master s.iv s.key;
  provider = providers.Local;
}

-- the key made of eight blocks
abbrev pub key_of_blocks : List ℕ → List (List ℕ) → List Block → KeyDoc
key_of_blocks master names blocks = key_of master names (seeds blocks)

-- what making a key answers: the key of the eight blocks drawn; or a draw failed, after fewer; or, before any, memory
abbrev pub MakesKey : List ℕ → List (List ℕ) → EntropySeen → EntropySeen → Result KeyDoc NewFault → Type 0
MakesKey master names before after (Ok key) = Made before after 8 (key_of_blocks master names) key
MakesKey master names before after (Err faults.EntropyFailed) = FellShort before after 8
MakesKey master names before after (Err faults.Memory) = ⊤
