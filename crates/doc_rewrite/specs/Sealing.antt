-- A document that is sealed
use Rattle.std.specs.Prelude.{◌≡◌, ◌<◌, ◌≤◌, ℕ, List, [], ◌∷◌, length, is_some, true}
use Rattle.bson_tree.specs.Tree.{Tree}
use Rattle.bson_tree.specs.Spelling.{doc_bytes, value_bytes}
use Rattle.bson_codec.specs.Borrowed.{At}
use Rattle.bson_splice.specs.Splices.{Put}
use Rattle.fle_outside.specs.Blocks.{Block}
use Rattle.fle_outside.specs.Counts.{Rose}
use Rattle.fle_outside.specs.Seen.{Draws, EntropySeen}
use Rattle.doc_rewrite.specs.Keys.{Lookup}
use Rattle.doc_rewrite.specs.Sealed.{first_block, put_of, sealed}
use Rattle.doc_rewrite.specs.Sites.{Site, draw, draws_of, sealed_width}
use Rattle.doc_rewrite.specs.Ivs.{DrawFails}

-- the key of each site is there
abbrev pub HasKeys : Lookup → List Site → Type 0
HasKeys keys [] = Unit {0}
HasKeys keys (s ∷ ss) = (is_some (keys s.need) ≡ true) × HasKeys keys ss

-- the bytes are the document, sealed at these sites with the blocks that were drawn, one for each random value
pub record IsSealedWhole (keys : Lookup) (ss : List Site) (d : At) (before after : EntropySeen)
    (bytes : List ℕ) : Type 0 where
  pub drawn : List Block
  pub count : length drawn ≡ draws_of ss
  pub draws : Draws before after drawn
  pub written : bytes ≡ doc_bytes (sealed keys ss drawn d)

-- a draw failed: fewer blocks than so many were drawn, no more were assured than these, and the count of faults rose
pub record FellShort (before after : EntropySeen) (count : ℕ) : Type 0 where
  pub drawn : List Block
  pub fewer : length drawn < count
  pub draws : Draws before after drawn
  pub unassured : before.assured ≤ length drawn
  pub rose : Rose before.faults after.faults

-- one value was sealed, the first of those left: with the block that was drawn for it, if it takes one
pub record SealsOne (keys : Lookup) (ss others : List Site) (before after : EntropySeen) (p : Put) : Type 0 where
  pub site : Site
  pub first : ss ≡ site ∷ others
  pub drawn : List Block
  pub count : length drawn ≡ draw site.algorithm
  pub draws : Draws before after drawn
  pub is : p ≡ put_of keys site (first_block site.algorithm drawn)
  pub long : (t : Tree) → length (value_bytes (p.value t)) ≡ sealed_width (length (value_bytes t))

-- none was, since the draw for the first of those left failed
abbrev pub SealsNone : List Site → EntropySeen → EntropySeen → Type 0
SealsNone ss before after =
    (site : Site) × (others : List Site) × (ss ≡ site ∷ others) × DrawFails site.algorithm before after
