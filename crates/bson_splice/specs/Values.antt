-- BSON 1.1, `element`: values given by the offsets of those whose places they take
use Rattle.std.specs.Prelude.{◌≡◌, ◌≤◌, ◌<◌, ℕ, ◌+◌, ◌-◌, Result, Ok, Err, List, [], ◌∷◌, length}
use Rattle.bson_tree.specs.Tree.{leaf}
use Rattle.bson_splice.specs.declared.values.NewValue.{NewValue}
use Rattle.bson_splice.specs.declared.values.TooLong.{TooLong}
use Rattle.bson_splice.specs.Spans.{Span}
use Rattle.bson_splice.specs.Splices.{Put}

-- the value, with its type byte, takes the place of any
abbrev pub put_of : NewValue → Put
put_of v = record { start = v.start; end = v.end; value = λ t. leaf v.tag v.bytes.now }

-- the values of a list, each in the place of its own
abbrev pub puts_of : List NewValue → List Put
puts_of [] = []
puts_of (v ∷ vs) = put_of v ∷ puts_of vs

-- the place that it takes, and how long it is
abbrev pub span_of : NewValue → Span
span_of v = record { start = v.start; end = v.end; most = λ t. length v.bytes.now }

-- the places of a list's values, in order
abbrev pub spans_of : List NewValue → List Span
spans_of [] = []
spans_of (v ∷ vs) = span_of v ∷ spans_of vs

-- how many bytes the places have
abbrev pub removed : List NewValue → ℕ
removed [] = 0
removed (v ∷ vs) = (v.end - v.start) + removed vs

-- how many bytes the values have that take the places
abbrev pub given : List NewValue → ℕ
given [] = 0
given (v ∷ vs) = length v.bytes.now + given vs

-- the number of bytes, or that they are more than the limit
abbrev pub SizesAs : ℕ → ℕ → Result ℕ TooLong → Type 0
SizesAs limit n (Ok m) = (m ≡ n) × (n ≤ limit)
SizesAs limit n (Err _) = limit < n

-- the first of the old ones was put in, and the new ones are left
abbrev pub PutsNext : List NewValue → List NewValue → Put → Type 0
PutsNext old new p = (v : NewValue) × (old ≡ v ∷ new) × (p ≡ put_of v)
