-- BSON 1.1: a stream is the spellings of documents, one after another, and a rest.
use Rattle.std.specs.Prelude.{ℕ, zero, suc, ◌+◌, ◌^◌, ◌==◌, Result, Ok, Err, List, length, take, drop, nat_lt}
use Rattle.std.specs.Prelude.{if◌then◌else◌}
use Rattle.std.specs.Int.{from_le_bytes, w32}
use Rattle.bson_tree.specs.Tree.{Items}
use Rattle.bson_codec.specs.Reading.{document, signed_below}
use Rattle.bson_codec.specs.declared.fault.BsonFault.{BsonFault}
use Rattle.bson_codec.specs.declared.fault.BsonKind.TheVariants as kinds

-- what stands behind the last document: nothing, a length above the limit, or bytes with this fault, so many of which
-- are read
pub data Rest : Type 0 where
  nothing : Rest
  over : Rest
  faulty : ℕ → BsonFault → Rest

-- documents in order, each with the number of its bytes, and the rest
pub data Docs : Type 0 where
  ends : Rest → Docs
  doc : ℕ → Items → Docs → Docs

-- how the next document stands by its length alone: it has this many bytes, or there is none
pub data Standing : Type 0 where
  whole : ℕ → Standing
  stops : Rest → Standing

-- the bytes of the rest that are read: those of a length above the limit, or those that are judged
abbrev pub rest_size : Rest → ℕ
rest_size nothing = 0
rest_size over = 4
rest_size (faulty n fault) = n

-- too few bytes are left: n of them
abbrev pub short : ℕ → Rest
short n = faulty n (record { kind = kinds.Short; offset = n })

-- a stated length below 5 is judged where it stands, at offset 0
abbrev pub low : Rest
low = faulty 4 (record { kind = kinds.Length; offset = 0 })

-- n bytes are left, and the 32 bits in front of them are the signed number whose bits are those of m: what is judged
-- first comes first. A document has at most `limit` bytes
abbrev pub standing_of : ℕ → ℕ → ℕ → Standing
standing_of limit n m =
    if n == 0 then stops nothing
    else (if nat_lt n 4 then stops (short n)
    else (if signed_below m 5 then stops low
    else (if nat_lt limit m then stops over
    else (if nat_lt n m then stops (short n) else whole m))))

-- the bits of the stated length: a 32-bit number, the lowest byte first
unfoldable pub stated : List ℕ → ℕ
stated bytes = from_le_bytes w32 (take 4 bytes)

-- how bytes stand before anything of a document is read: what is left of them, and the length they state
unfoldable pub standing : ℕ → List ℕ → Standing
standing limit bytes = standing_of limit (length bytes) (stated bytes)

-- m bytes were read: a document with what comes behind it, or their first fault
abbrev pub spelled : (List ℕ → Docs) → ℕ → List ℕ → Result Items BsonFault → Docs
spelled behind m bytes (Ok is) = doc m is (behind (drop m bytes))
spelled behind m bytes (Err fault) = ends (faulty m fault)

-- what a stream is by how it stands: a rest, or its first document and what comes behind it
abbrev pub first_by : (List ℕ → Docs) → List ℕ → Standing → Docs
first_by behind bytes (stops rest) = ends rest
first_by behind bytes (whole m) = spelled behind m bytes (document (take m bytes))

-- a stream's documents, n of them at most, one after another: the first, the third and so on have at most `limit`
-- bytes, those between them at most `other`
unfoldable pub rounds : ℕ → ℕ → ℕ → List ℕ → Docs
rounds limit other zero bytes = ends nothing
rounds limit other (suc n) bytes = first_by (rounds other limit n) bytes (standing limit bytes)

-- the documents of a stream, by the limits of each other one
unfoldable pub documents_within : ℕ → ℕ → List ℕ → Docs
documents_within limit other bytes = rounds limit other (length bytes + 1) bytes

-- the most bytes that a document of the input may have
abbrev pub document_limit : ℕ
document_limit = 2 ^ 24

-- the documents of a stream
abbrev pub documents : List ℕ → Docs
documents bytes = documents_within document_limit document_limit bytes

-- the bytes of the first document; n where there is none
abbrev pub first_size : Docs → ℕ → ℕ
first_size (ends rest) n = n
first_size (doc m is docs) n = m
