-- Answers of readers: a value, or the first fault; and what a function that allocates returns.
use Rattle.std.specs.Prelude.{◌≡◌, ℕ, Bool, Result, Ok, Err, if◌then◌else◌}
use Rattle.bson_codec.specs.declared.fault.BsonKind.{BsonKind}
use Rattle.bson_codec.specs.declared.fault.BsonKind.TheVariants as kinds
use Rattle.bson_codec.specs.declared.fault.BsonFault.{BsonFault}
use Rattle.bson_codec.specs.declared.fault.CodecFault.{CodecFault}
use Rattle.bson_codec.specs.declared.fault.CodecFault.TheVariants as errors

-- the number of a kind of fault
abbrev pub kind_number : BsonKind → ℕ
kind_number kinds.Short = 1
kind_number kinds.Length = 2
kind_number kinds.Tag = 3
kind_number kinds.NoEnd = 4
kind_number kinds.Bool = 5
kind_number kinds.Deep = 6
kind_number kinds.Extra = 7

-- a fault of this kind at this offset
abbrev pub fault : {A : Type 0} → BsonKind → ℕ → Result A BsonFault
fault kind offset = Err (record { kind = kind; offset = offset })

-- the fault where the test holds
abbrev pub fault_if : Bool → BsonKind → ℕ → Result (Unit {0}) BsonFault
fault_if bad kind offset = if bad then fault kind offset else Ok tt

infixl 10 ◌>>=◌
-- one reading after another, up to the first fault
abbrev pub ◌>>=◌ : {A B : Type 0} → Result A BsonFault → (A → Result B BsonFault) → Result B BsonFault
(Ok x) >>= f = f x
(Err e) >>= f = Err e

-- an error of a function that allocates: it says something of the reading unless memory ran out
abbrev pub Fails : {Y : Type 0} → CodecFault → Result Y BsonFault → Type 0
Fails errors.Memory read = Unit {0}
Fails (errors.Bson f) read = read ≡ Err f

-- what a function returned, seen by `view`, is what reading gives, where `F` says what its errors tell of reading
abbrev pub GivesBy : {E X Y : Type 0} → (E → Result Y BsonFault → Type 0) → (X → Y) → Result X E → Result Y BsonFault
    → Type 0
GivesBy F view (Ok x) read = read ≡ Ok (view x)
GivesBy F view (Err e) read = F e read

-- the same, unless memory ran out
abbrev pub Gives : {X Y : Type 0} → (X → Y) → Result X CodecFault → Result Y BsonFault → Type 0
Gives view result read = GivesBy Fails view result read

-- the same of a function that allocates nothing
abbrev pub Seen : {X Y : Type 0} → (X → Y) → Result X BsonFault → Result Y BsonFault → Type 0
Seen view result read = GivesBy (λ f read. read ≡ Err f) view result read
