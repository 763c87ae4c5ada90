-- A data key as a cache holds it.
use Rattle.std.specs.Prelude.{ℕ, List}
use Rattle.key_vault.specs.declared.kept_key.Held.{Held}
use Rattle.key_vault.specs.declared.kept_key.Held.TheVariants as held

-- the bytes of a data key that is held
abbrev pub held_bytes : Held → List ℕ
held_bytes (held.Shared key) = key
held_bytes (held.Alone bytes) = bytes
