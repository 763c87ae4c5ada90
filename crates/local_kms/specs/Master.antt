-- MongoDB Client Side Encryption, "local": a master key of 96 bytes in a file, as bytes or as their base64 text
-- (RFC 4648, section 4)
use Rattle.std.specs.Prelude.{Bool, ℕ, ◌==◌, ◌&&◌, ◌||◌, List, length, take, slice_index, Result, Ok, Err}
use Rattle.std.specs.Prelude.{if◌then◌else◌}
use Rattle.base64.specs.Engines.{standard}
use Rattle.base64.specs.GeneralPurpose.{decode_of}
use Rattle.base64.specs.declared.decode.DecodeError.{DecodeError}
use Rattle.local_kms.specs.declared.master.MasterFault.{MasterFault}
use Rattle.local_kms.specs.declared.master.MasterFault.TheVariants as faults

-- 96 bytes, which four times three characters of six bits each make of 128
abbrev pub key_of_text : Result (List ℕ) DecodeError → Result (List ℕ) MasterFault
key_of_text (Err fault) = Err faults.Base64
key_of_text (Ok bytes) = if length bytes == 96 then Ok bytes else Err faults.Base64

-- 128 characters, which a line feed may follow
abbrev pub is_text : List ℕ → Bool
is_text bytes = (length bytes == 128) || ((length bytes == 129) && (slice_index bytes 128 == 10))

-- the master key in a file, or why it has none
unfoldable pub master_in : List ℕ → Result (List ℕ) MasterFault
master_in bytes =
    if length bytes == 96 then Ok bytes
    else (if is_text bytes then key_of_text (decode_of standard (take 128 bytes)) else Err faults.Length)
