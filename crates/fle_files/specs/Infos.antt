-- A file of collection infos: BSON documents one after another, or a JSON text (RFC 8259), an array of them.
use Rattle.std.specs.Prelude.{◌≡◌, ℕ, Bool, nat_lt, Option, Some, option_and_then, Result, Ok, Err, List, length}
use Rattle.std.specs.Prelude.{slice_index, if◌then◌else◌}
use Rattle.std.specs.Result.{result_ok}
use Rattle.encrypt_schema.specs.Language.Collection.{Collection}
use Rattle.encrypt_schema.specs.Language.Collections.{Faulty, collections}
use Rattle.ext_json.specs.Infos.{json_infos}
use Rattle.ext_json.specs.declared.fault.JsonFault.{JsonFault}
use Rattle.ext_json.specs.declared.fault.JsonFault.TheVariants as faults
use Rattle.fle_files.specs.Numbers.{infos_number}
use Rattle.fle_files.specs.declared.infos.InfosFault.{InfosFault}
use Rattle.fle_files.specs.declared.infos.InfosFault.TheVariants as infos_faults

-- JSON exactly where it has one to three bytes, or its fourth is above 08: a document that begins so would have over
-- 150,994,943 bytes
abbrev pub is_json : List ℕ → Bool
is_json bytes = if nat_lt (length bytes) 4 then nat_lt 0 (length bytes) else nat_lt 8 (slice_index bytes 3)

-- the BSON documents of such a file, where it is at no fault as a text
abbrev pub bson_in : List ℕ → Option (List ℕ)
bson_in bytes = if is_json bytes then result_ok (json_infos bytes) else Some bytes

-- the infos of a file that isn't at fault
unfoldable pub infos_of : List ℕ → Option (List Collection)
infos_of bytes = option_and_then (λ bson. result_ok (collections bson)) (bson_in bytes)

-- the fault of a JSON text as one of the file; no text comes to want of memory
abbrev pub json_fault : JsonFault → InfosFault
json_fault faults.Syntax = infos_faults.Bad (record { value = 33 }) 0
json_fault (faults.Form document) = infos_faults.Bad (record { value = 34 }) document
json_fault faults.Memory = infos_faults.Memory

-- what BSON documents come to
abbrev pub bson_read : Result (List Collection) Faulty → Result (List Collection) InfosFault
bson_read (Ok infos) = Ok infos
bson_read (Err faulty) = Err (infos_faults.Bad (infos_number faulty.kind) faulty.document)

-- what a JSON text comes to: its fault, or what its documents come to
abbrev pub json_read : Result (List ℕ) JsonFault → Result (List Collection) InfosFault
json_read (Ok bson) = bson_read (collections bson)
json_read (Err fault) = Err (json_fault fault)

-- the infos of a file, or its first fault
unfoldable pub infos_read : List ℕ → Result (List Collection) InfosFault
infos_read bytes = if is_json bytes then json_read (json_infos bytes) else bson_read (collections bytes)

-- reading answers the infos or the fault, unless memory ran out
abbrev pub ReadsAs : Result (List Collection) InfosFault → Result (List Collection) InfosFault → Type 0
ReadsAs read (Ok infos) = read ≡ Ok infos
ReadsAs read (Err (infos_faults.Bad number document)) = read ≡ Err (infos_faults.Bad number document)
ReadsAs read (Err infos_faults.Memory) = Unit {0}
