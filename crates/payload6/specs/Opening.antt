-- When what a payload opens to is a value that may have been sealed.
use Rattle.std.specs.Prelude.{◌≡◌, ℕ, Bool, false, ◌||◌, ◌==◌, List}
use Rattle.bson_codec.specs.Borrowed.{SpellsWithin}
use Rattle.fle_aead.specs.Sealed.{iv_of, IsSealed}

-- BSON 1.1: the types with a single value, which spell nothing: undefined, null, maximal and minimal
-- key. MongoDB Client Side Encryption seals no value of them.
abbrev pub is_single : ℕ → Bool
is_single type = type == 0x06 || type == 0x0A || type == 0x7F || type == 0xFF

-- the plain text spells a value of a type that may be sealed, which adds at most so many levels
pub record IsOriginal (levels type : ℕ) (plain : List ℕ) : Type 0 where
  pub sealable : is_single type ≡ false
  pub spelled : SpellsWithin levels type plain

-- length, tag and padding are right, and what was sealed is no such value
pub record IsNoOriginal (levels type : ℕ) (key a c : List ℕ) : Type 0 where
  pub plain : List ℕ
  pub sealed : IsSealed key a (iv_of c) plain c
  pub not_original : IsOriginal levels type plain → ⊥
