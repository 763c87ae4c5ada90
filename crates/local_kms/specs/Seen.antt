-- What opening a message says of material
use Rattle.std.specs.Prelude.{◌≡◌, ◌≢◌, ℕ, List, take, Result, Ok, Err}
use Rattle.fle_aead.specs.declared.opening.OpenFault.{OpenFault}
use Rattle.fle_aead.specs.declared.opening.OpenFault.TheVariants as opening
use Rattle.local_kms.specs.declared.wrapping.UnwrapFault.{UnwrapFault}
use Rattle.local_kms.specs.declared.wrapping.UnwrapFault.TheVariants as faults

abbrev pub fault_seen : OpenFault → UnwrapFault
fault_seen opening.Short = faults.Length
fault_seen (opening.Tag computed found) = faults.Tag computed found
fault_seen opening.Padding = faults.Padding

-- the first n bytes are a data key, where n is 96
abbrev pub IsKeyOf : ℕ → List ℕ → Result (List ℕ) UnwrapFault → Type 0
IsKeyOf n plain (Ok key) = (n ≡ 96) × (key ≡ take 96 plain)
IsKeyOf n plain (Err fault) = (n ≢ 96) × (fault ≡ faults.Length)
