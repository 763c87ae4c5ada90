-- RFC 8259, section 7: strings in quotes, with the escapes that are needed and no others.
use Rattle.std.specs.Prelude.{ℕ, List, [], ◌∷◌, ◌++◌, ◌==◌, ◌||◌, nat_lt, codes, if◌then◌else◌}
use Rattle.hex.specs.Hex.{encode_lower}

-- the quotation mark on both sides of a string
unfoldable pub quote_mark : List ℕ
quote_mark = codes "\""

-- what the two digits of a control character stand behind
unfoldable pub control_start : List ℕ
control_start = codes "\\u00"

-- a byte of a string: `"` and `\` behind a `\`, bytes below 20 as `\u00hh`, others as they stand
abbrev pub escape : ℕ → List ℕ
escape b =
    if b == 34 || b == 92
    then 92 ∷ b ∷ []
    else (if nat_lt b 32 then control_start ++ encode_lower (b ∷ []) else b ∷ [])

-- the bytes of a string, one after another
unfoldable pub escaped : List ℕ → List ℕ
escaped [] = []
escaped (b ∷ bs) = escape b ++ escaped bs

-- a string or a name in quotes
abbrev pub quoted : List ℕ → List ℕ
quoted bs = quote_mark ++ (escaped bs ++ quote_mark)
