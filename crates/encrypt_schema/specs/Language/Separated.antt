-- MongoDB, dotted paths, and RFC 6901, JSON pointers: texts whose parts stand between separators
use Rattle.std.specs.Prelude.{ℕ, ◌==◌, List, [], ◌∷◌, if◌then◌else◌}

-- a byte in front of the first part
abbrev pub in_front : ℕ → List (List ℕ) → List (List ℕ)
in_front byte [] = (byte ∷ []) ∷ []
in_front byte (part ∷ parts) = (byte ∷ part) ∷ parts

-- the parts of a text, which is split at each separator; empty parts are kept
abbrev pub separated : ℕ → List ℕ → List (List ℕ)
separated separator [] = [] ∷ []
separated separator (byte ∷ bytes) =
    if byte == separator then [] ∷ separated separator bytes else in_front byte (separated separator bytes)
