-- RFC 6901: JSON pointers, as `keyId` has them: a slash and a name that isn't empty, one or more times
use Rattle.std.specs.Prelude.{ℕ, ◌==◌, List, [], ◌∷◌, Option, Some, None, if◌then◌else◌}
use Rattle.encrypt_schema.specs.Language.Separated.{separated}

-- RFC 6901, section 3: the reference tokens of what stands behind the first slash (2F), separated by slashes
unfoldable pub tokens : List ℕ → List (List ℕ)
tokens bytes = separated 47 bytes

-- a byte in front of a name
abbrev pub with_byte : ℕ → Option (List ℕ) → Option (List ℕ)
with_byte byte None = None
with_byte byte (Some name) = Some (byte ∷ name)

-- RFC 6901, section 4: what a reference token spells: `~0` is a tilde (7E), `~1` a slash; nothing, where a tilde stands
-- before anything else
abbrev mutual
  pub unescaped : List ℕ → Option (List ℕ)
  unescaped [] = Some []
  unescaped (byte ∷ bytes) = if byte == 126 then behind_tilde bytes else with_byte byte (unescaped bytes)

  -- the same behind a tilde
  pub behind_tilde : List ℕ → Option (List ℕ)
  behind_tilde [] = None
  behind_tilde (byte ∷ bytes) =
      if byte == 48 then with_byte 126 (unescaped bytes)
      else (if byte == 49 then with_byte 47 (unescaped bytes) else None)

-- the name that a reference token spells, which isn't empty
abbrev pub token_name : List ℕ → Option (List ℕ)
token_name [] = None
token_name (byte ∷ bytes) = unescaped (byte ∷ bytes)

-- a name before others, where all of them are spelled
abbrev pub before_others : Option (List ℕ) → Option (List (List ℕ)) → Option (List (List ℕ))
before_others None others = None
before_others (Some name) None = None
before_others (Some name) (Some names) = Some (name ∷ names)

-- the names that reference tokens spell, each of them one
abbrev pub token_names : List (List ℕ) → Option (List (List ℕ))
token_names [] = Some []
token_names (token ∷ others) = before_others (token_name token) (token_names others)

-- the names of a pointer; none where the text spells no pointer
unfoldable pub pointer_of : List ℕ → Option (List (List ℕ))
pointer_of [] = None
pointer_of (byte ∷ bytes) = if byte == 47 then token_names (tokens bytes) else None
