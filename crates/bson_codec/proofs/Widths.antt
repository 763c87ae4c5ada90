-- Numbers of bytes, without the trees that were read.
use Rattle.std.proofs.Common.{◌≡◌, ℕ, ◌+◌, false, List, Result, Ok, Err, take, refl}
use Rattle.bson_tree.specs.Tree.{Tree, Items, leaf, node}
use Rattle.bson_codec.specs.declared.fault.BsonFault.{BsonFault}
use Rattle.bson_codec.specs.declared.table.RawLayout.{RawLayout}
use Rattle.bson_codec.specs.declared.table.ValueLayout.TheVariants as values
use Rattle.bson_codec.specs.Fault.{◌>>=◌}
use Rattle.bson_codec.specs.Reading.{Reader, raw_at, value_at, width_of, first_width, fault_of}

of_document : (tag : ℕ) (r : Result (Items × ℕ) BsonFault)
    → width_of {A = Tree} (r >>= λ x. Ok (node tag x.0, x.1)) ≡ width_of r
of_document tag (Ok x) = refl
of_document tag (Err d) = refl

of_raw : (tag : ℕ) (bs : List ℕ) (r : Result ℕ BsonFault)
    → width_of {A = Tree} (r >>= λ n. Ok (leaf tag (take n bs), n)) ≡ r
of_raw tag bs (Ok n) = refl
of_raw tag bs (Err d) = refl

-- a document's number of bytes is that of the value
pub document_width : (f : Reader) (tag p : ℕ) (bs : List ℕ)
    → width_of (value_at f tag values.Document p bs) ≡ width_of (f false p bs)
unfolding value_at
document_width f tag p bs = of_document tag (f false p bs)

-- a raw value's number of bytes is that of the value
pub raw_width : (f : Reader) (tag : ℕ) (layout : RawLayout) (p : ℕ) (bs : List ℕ)
    → width_of (value_at f tag (values.Raw layout) p bs) ≡ raw_at f layout p bs
unfolding value_at
raw_width f tag layout p bs = of_raw tag bs (raw_at f layout p bs)

-- an element's number of bytes, by that of its value
pub element_width : (name : List ℕ) (n : ℕ) (read : Result (Tree × ℕ) BsonFault)
    → first_width (read >>= λ v. Ok (record { name = name; tree = v.0; width = n + 2 + v.1 }))
    ≡ (width_of read >>= λ w. Ok (n + 2 + w))
element_width name n (Ok v) = refl
element_width name n (Err d) = refl

-- a document's number of bytes, by its elements' faults
pub frame_width : (n : ℕ) (elements : Result Items BsonFault) (end : Result (Unit {0}) BsonFault)
    → width_of {A = Items} (elements >>= λ is. end >>= λ _. Ok (is, n)) ≡ (fault_of elements >>= λ _. end >>= λ _. Ok n)
frame_width n (Ok is) (Ok u) = refl
frame_width n (Ok is) (Err d) = refl
frame_width n (Err d) end = refl
