-- A member appended to what stands before it.
use Rattle.std.specs.Prelude.{◌≡◌, ◌≤◌, ◌++◌, List, ℕ, length, Some}
use Rattle.serde_json.specs.Data.{Data}
use Rattle.bson_tree.specs.Tree.{Items}
use Rattle.bson_tree.specs.Spelling.{doc_bytes}
use Rattle.bson_codec.specs.Layout.{longest}
use Rattle.ext_json.specs.Infos.{member_of}

-- its document, spelled behind the others, fits
pub record IsPut (before after : List ℕ) (d : Data) : Type 0 where
  pub document : Items
  pub stands : member_of (length before) d ≡ Some document
  pub spelled : after ≡ before ++ doc_bytes document
  pub room : length after ≤ longest
