-- The texts of values, as keys of an index have them.
use Rattle.std.proofs.Common.{◌≡◌, ◌==◌, Bool, false, ◌&&◌, List, ℕ, sym, ap}
use Rattle.bson_tree.specs.Tree.{Tree, leaf, tag_of}
use Rattle.bson_codec.specs.Layout.{string_bytes}
use Rattle.encrypt_schema.proofs.Language.Texts.{text_is}
use Rattle.encrypt_schema.specs.Commands.ListedFields.{is_index_type}
use Rattle.encrypt_schema.specs.Commands.Offences.{text_of}
use Rattle.encrypt_schema.specs.Commands.Visits.{raw_of}

-- the text of a string
pub type_found : (t : Tree) (text : List ℕ) → t ≡ leaf 2 (string_bytes text)
    → is_index_type text ≡ ((tag_of t == 2) && is_index_type (text_of (raw_of t)))
type_found t text e = rw e (ap is_index_type (sym (text_is text)))

-- any other value
pub type_none : (t : Tree) → (tag_of t == 2) ≡ false
    → false ≡ ((tag_of t == 2) && is_index_type (text_of (raw_of t)))
type_none t e = ap (λ (b : Bool). b && is_index_type (text_of (raw_of t))) (sym e)
