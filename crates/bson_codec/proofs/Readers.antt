-- What it is that a reader reads the documents of which a fact holds.
use Rattle.std.proofs.Common.{◌≡◌, ℕ, Bool, true, List, length, Ok}
use Rattle.bson_tree.specs.Tree.{Items}
use Rattle.bson_tree.specs.Spelling.{doc_bytes}
use Rattle.bson_codec.specs.Bytes.{AreBytes}
use Rattle.bson_codec.specs.Layout.{IsInside}
use Rattle.bson_codec.specs.Reading.{Reader}
use Rattle.bson_codec.proofs.Pieces.{Begins}

-- a document inside that was read
pub record InsideRead (D : Items → Type 0) (bs : List ℕ) (x : Items × ℕ) : Type 0 where
  pub inside : IsInside D x.0
  pub parts : Begins bs (doc_bytes x.0) x.1

-- a reader reads the documents of which D holds, and no others
pub record Reads (f : Reader) (D : Items → Type 0) : Type 0 where
  pub takes : (fills : Bool) (p : ℕ) (bs : List ℕ) (x : Items × ℕ) → AreBytes bs → f fills p bs ≡ Ok x
      → InsideRead D bs x
  pub full : (p : ℕ) (bs : List ℕ) (x : Items × ℕ) → f true p bs ≡ Ok x → x.1 ≡ length bs
  pub again : (fills : Bool) (p : ℕ) (bs : List ℕ) (is : Items) (n : ℕ) → IsInside D is → Begins bs (doc_bytes is) n
      → (fills ≡ true → n ≡ length bs) → f fills p bs ≡ Ok (is, n)
