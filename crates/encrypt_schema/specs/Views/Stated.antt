-- RFC 6901: a pointer as the code reads it, token by token, and a key as a schema states it
use Rattle.std.specs.Prelude.{ℕ, Bool, true, false, List, [], ◌++◌, Option, Some, None, is_some, option_map, unwrap_or}
use Rattle.std.specs.Borrow.{Bor}
use Rattle.encrypt_schema.specs.declared.schema.pointers.StatedKey.{StatedKey}
use Rattle.encrypt_schema.specs.declared.schema.pointers.StatedKey.TheVariants as states
use Rattle.encrypt_schema.specs.declared.schema.policy.KeyRef.{KeyRef}
use Rattle.encrypt_schema.specs.declared.schema.policy.KeyRef.TheVariants.{Id, Pointer}
use Rattle.encrypt_schema.specs.Language.Pointers.{behind_tilde, pointer_of, token_names, tokens, unescaped}

-- what is spelled from behind a byte that is a tilde, or isn't
abbrev pub spelled : Bool → List ℕ → Option (List ℕ)
spelled true bytes = behind_tilde bytes
spelled false bytes = unescaped bytes

-- each token of a text spells a name
abbrev pub is_spelled : List ℕ → Bool
is_spelled bytes = is_some (token_names (tokens bytes))

-- each token that is left does
abbrev pub left_spelled : Option (Bor (List ℕ)) → Bool
left_spelled None = true
left_spelled (Some bytes) = is_spelled bytes.now

-- the names that are left
abbrev pub left_names : Option (Bor (List ℕ)) → Option (List (List ℕ))
left_names None = Some []
left_names (Some bytes) = token_names (tokens bytes.now)

-- names in front of others
abbrev pub names_before : List (List ℕ) → Option (List (List ℕ)) → Option (List (List ℕ))
names_before names others = option_map (λ (rest : List (List ℕ)). names ++ rest) others

-- the names of a text that is a pointer
abbrev pub pointer_names : List ℕ → List (List ℕ)
pointer_names text = unwrap_or (pointer_of text) []

-- the key that a schema states
abbrev pub key_stated : StatedKey → KeyRef
key_stated (states.Id id) = Id id
key_stated (states.Pointer text) = Pointer (pointer_names text.now)

-- the text of its pointer, where it is one
abbrev pub pointer_text : StatedKey → Option (List ℕ)
pointer_text (states.Id id) = None
pointer_text (states.Pointer text) = Some text.now
