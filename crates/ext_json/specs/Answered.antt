-- What calls answer, beside what is there to be answered; want of memory says nothing.
use Rattle.std.specs.Prelude.{◌≡◌, ℕ, Option, Some, None, Result, Ok, Err}
use Rattle.ext_json.specs.declared.fault.JsonFault.{JsonFault}
use Rattle.ext_json.specs.declared.fault.JsonFault.TheVariants as faults
use Rattle.ext_json.specs.declared.stop.Stop.{Stop}
use Rattle.ext_json.specs.declared.stop.Stop.TheVariants as stops

-- the numbers of setup faults
abbrev pub fault_code : JsonFault → Option ℕ
fault_code faults.Syntax = Some 33
fault_code (faults.Form document) = Some 34
fault_code faults.Memory = None

-- the fault is the one that is given, unless memory ran out
abbrev pub Fails : {Y : Type 0} → JsonFault → Result Y JsonFault → Type 0
Fails faults.Syntax given = given ≡ Err faults.Syntax
Fails (faults.Form document) given = given ≡ Err (faults.Form document)
Fails faults.Memory given = Unit {0}

-- the result, seen by `view`, is the one that is given, unless memory ran out
abbrev pub Answers : {X Y : Type 0} → (X → Y) → Result X JsonFault → Result Y JsonFault → Type 0
Answers view (Ok x) given = given ≡ Ok (view x)
Answers view (Err fault) given = Fails fault given

-- there is nothing, unless memory ran out
abbrev pub Stops : {Y : Type 0} → Stop → Option Y → Type 0
Stops stops.Malformed given = given ≡ None
Stops stops.Memory given = Unit {0}

-- what was made, seen by `view`, is what is given, unless memory ran out
abbrev pub Converts : {X Y : Type 0} → (X → Y) → Result X Stop → Option Y → Type 0
Converts view (Ok x) given = given ≡ Some (view x)
Converts view (Err stop) given = Stops stop given
