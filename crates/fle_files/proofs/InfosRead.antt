-- A file of collection infos is read by what it is.
use Rattle.std.proofs.Common.{◌≡◌, ◌∙◌, ℕ, Bool, true, false, cond, Option, Some, None, Result, Ok, Err, List, refl}
use Rattle.std.specs.Prelude.{option_and_then}
use Rattle.std.specs.Result.{result_ok}
use Rattle.std.proofs.Common.{sym, ap, subst}
use Rattle.encrypt_schema.specs.Language.Collection.{Collection}
use Rattle.encrypt_schema.specs.Language.Collections.{Faulty, collections}
use Rattle.ext_json.specs.Infos.{json_infos}
use Rattle.ext_json.proofs.Wants.{json_never}
use Rattle.ext_json.specs.declared.fault.JsonFault.{JsonFault}
use Rattle.ext_json.specs.declared.fault.JsonFault.TheVariants as json_faults
use Rattle.fle_files.specs.Infos.{ReadsAs, bson_read, infos_of, infos_read, is_json, json_read}
use Rattle.fle_files.specs.declared.infos.InfosFault.{InfosFault}
use Rattle.fle_files.specs.declared.infos.InfosFault.TheVariants as infos_faults

pub read_as_json : (bytes : List ℕ) (result : Result (List Collection) InfosFault) → is_json bytes ≡ true
    → ReadsAs (json_read (json_infos bytes)) result → ReadsAs (infos_read bytes) result
unfolding infos_read
read_as_json bytes result is reads =
    subst (λ (b : Bool). ReadsAs (cond b (json_read (json_infos bytes)) (bson_read (collections bytes))) result)
    (sym is) reads

pub read_as_bson : (bytes : List ℕ) (result : Result (List Collection) InfosFault) → is_json bytes ≡ false
    → ReadsAs (bson_read (collections bytes)) result → ReadsAs (infos_read bytes) result
unfolding infos_read
read_as_bson bytes result is reads =
    subst (λ (b : Bool). ReadsAs (cond b (json_read (json_infos bytes)) (bson_read (collections bytes))) result)
    (sym is) reads

-- ---- a file has infos exactly where its reading answers them

abbrev as_read : Option (List Collection) → Result (List Collection) InfosFault
as_read (Some infos) = Ok infos
as_read None = Err infos_faults.Memory

abbrev as_had : Result (List Collection) InfosFault → Option (List Collection)
as_had (Ok infos) = Some infos
as_had (Err fault) = None

documents_are : (read : Result (List Collection) Faulty) (infos : List Collection) → result_ok read ≡ Some infos
    → bson_read read ≡ Ok infos
documents_are (Ok own) infos is = ap as_read is
documents_are (Err faulty) infos is = absurd cc

documents_had : (read : Result (List Collection) Faulty) (infos : List Collection) → bson_read read ≡ Ok infos
    → result_ok read ≡ Some infos
documents_had (Ok own) infos is = ap as_had is
documents_had (Err faulty) infos is = absurd cc

abbrev had_by : Bool → Result (List ℕ) JsonFault → List ℕ → Option (List Collection)
had_by b json bytes = option_and_then (λ bson. result_ok (collections bson)) (cond b (result_ok json) (Some bytes))

had_are : (b : Bool) (json : Result (List ℕ) JsonFault) (bytes : List ℕ) (infos : List Collection)
    → had_by b json bytes ≡ Some infos → cond b (json_read json) (bson_read (collections bytes)) ≡ Ok infos
had_are true (Ok bson) bytes infos is = documents_are (collections bson) infos is
had_are true (Err fault) bytes infos is = absurd cc
had_are false json bytes infos is = documents_are (collections bytes) infos is

read_had : (b : Bool) (json : Result (List ℕ) JsonFault) (bytes : List ℕ) (infos : List Collection)
    → cond b (json_read json) (bson_read (collections bytes)) ≡ Ok infos → had_by b json bytes ≡ Some infos
read_had true (Ok bson) bytes infos is = documents_had (collections bson) infos is
read_had true (Err fault) bytes infos is = absurd cc
read_had false json bytes infos is = documents_had (collections bytes) infos is

pub infos_are : (bytes : List ℕ) (infos : List Collection) → infos_of bytes ≡ Some infos
    → infos_read bytes ≡ Ok infos
unfolding infos_of infos_read
infos_are bytes infos is = had_are (is_json bytes) (json_infos bytes) bytes infos is

pub infos_had : (bytes : List ℕ) (infos : List Collection) → infos_read bytes ≡ Ok infos
    → infos_of bytes ≡ Some infos
unfolding infos_of infos_read
infos_had bytes infos is = read_had (is_json bytes) (json_infos bytes) bytes infos is

-- ---- a file in JSON is its documents in BSON

pub json_is : (json bson : List ℕ) → is_json json ≡ true → json_infos json ≡ Ok bson
    → infos_read json ≡ bson_read (collections bson)
unfolding infos_read
json_is json bson is gives =
    ap (λ (b : Bool). cond b (json_read (json_infos json)) (bson_read (collections json))) is ∙ ap json_read gives

pub bson_is : (bson : List ℕ) → is_json bson ≡ false → infos_read bson ≡ bson_read (collections bson)
unfolding infos_read
bson_is bson is = ap (λ (b : Bool). cond b (json_read (json_infos bson)) (bson_read (collections bson))) is

-- ---- no file comes to want of memory

bson_read_never : (given : Result (List Collection) Faulty) → bson_read given ≡ Err infos_faults.Memory → ⊥
bson_read_never (Ok infos) e = cc
bson_read_never (Err faulty) e = cc

json_read_never : (given : Result (List ℕ) JsonFault) → (given ≡ Err json_faults.Memory → ⊥)
    → json_read given ≡ Err infos_faults.Memory → ⊥
json_read_never (Ok bson) never e = bson_read_never (collections bson) e
json_read_never (Err json_faults.Syntax) never e = cc
json_read_never (Err (json_faults.Form document)) never e = cc
json_read_never (Err json_faults.Memory) never e = never refl

read_never : (b : Bool) (given : Result (List ℕ) JsonFault) (other : Result (List Collection) Faulty)
    → (given ≡ Err json_faults.Memory → ⊥)
    → cond b (json_read given) (bson_read other) ≡ Err infos_faults.Memory → ⊥
read_never true given other never e = json_read_never given never e
read_never false given other never e = bson_read_never other e

pub never_memory : (bytes : List ℕ) → infos_read bytes ≡ Err infos_faults.Memory → ⊥
unfolding infos_read
never_memory bytes e = read_never (is_json bytes) (json_infos bytes) (collections bytes) (json_never bytes) e
