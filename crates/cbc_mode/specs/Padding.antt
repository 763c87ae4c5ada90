-- The padding that makes a message whole blocks of 16 bytes (PKCS #7: RFC 5652, 6.3), on lists of
-- bytes.
use Rattle.std.specs.Prelude.{ℕ, ◌-◌, ◌%◌, List, ◌++◌, length, replicate, take, slice_index, bytes_eq, Option, Some}
use Rattle.std.specs.Prelude.{None, if◌then◌else◌}

-- RFC 5652, 6.3: how many bytes of padding follow n bytes, 1 to 16
abbrev pub padding_len : ℕ → ℕ
padding_len n = 16 - n % 16

-- RFC 5652, 6.3: the message, and behind it as many bytes as make it whole blocks, each of them
-- their number
unfoldable pub pad : List ℕ → List ℕ
pad p = p ++ replicate (padding_len (length p)) (padding_len (length p))

-- the first n bytes, where these are their padded form
abbrev pub unpadded : ℕ → List ℕ → Option (List ℕ)
unpadded n bs = if bytes_eq (pad (take n bs)) bs then Some (take n bs) else None

-- RFC 5652, 6.3: the padding can be removed unambiguously: the message whose padded form these bytes
-- are, or None. The last byte is the number of those that go.
unfoldable pub unpad : List ℕ → Option (List ℕ)
unpad bs = unpadded (length bs - slice_index bs (length bs - 1)) bs
