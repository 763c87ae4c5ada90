-- MongoDB Client Side Encryption, "local": a data key as its master key seals it
use Rattle.std.specs.Prelude.{◌≡◌, ◌≢◌, ℕ, ◌==◌, List, [], length, Option, Some, None, Result, Err, MatchResult}
use Rattle.std.specs.Prelude.{if◌then◌else◌, ◌⊎◌, ◌↔◌}
use Rattle.local_kms.specs.declared.wrapping.UnwrapFault.{UnwrapFault}
use Rattle.local_kms.specs.declared.wrapping.UnwrapFault.TheVariants as faults
use Rattle.fle_aead.specs.Sealed.{opened_message, IsWronglyTagged, IsWronglyPadded}

-- a data key has 96 bytes
abbrev pub key_of_plain : Option (List ℕ) → Option (List ℕ)
key_of_plain None = None
key_of_plain (Some bytes) = if length bytes == 96 then Some bytes else None

-- the data key to which material opens under a master key, without associated data: the length is judged, then the tag,
-- then the padding, then the length of what is sealed
unfoldable pub unwrapped : List ℕ → List ℕ → Option (List ℕ)
unwrapped master material = if length material == 160 then key_of_plain (opened_message master [] material) else None

-- material that isn't 160 bytes, or opens to other than 96
abbrev pub IsWronglyLong : List ℕ → List ℕ → Type 0
IsWronglyLong master material =
    (length material ≢ 160) ⊎ ((plain : List ℕ) × (opened_message master [] material ≡ Some plain)
    × (length plain ≢ 96))

-- of 160 bytes, of which the last 32 aren't the tag
pub record IsWrongTag (master material computed found : List ℕ) : Type 0 where
  pub len : length material ≡ 160
  pub wrong : IsWronglyTagged master [] material computed found

-- of 160 bytes under the right tag, whose padding is wrong
pub record IsWrongPadding (master material : List ℕ) : Type 0 where
  pub len : length material ≡ 160
  pub wrong : IsWronglyPadded master [] material

-- what opening material answers: its data key, or exactly one fault
pub record Unwraps (master material : List ℕ) (r : Result (List ℕ) UnwrapFault) : Type 0 where
  pub opened : MatchResult r (λ key. unwrapped master material ≡ Some key) (λ _. unwrapped master material ≡ None)
  pub length : (r ≡ Err faults.Length) ↔ IsWronglyLong master material
  pub tag : (computed found : List ℕ) → (r ≡ Err (faults.Tag computed found))
      ↔ IsWrongTag master material computed found
  pub padding : (r ≡ Err faults.Padding) ↔ IsWrongPadding master material
