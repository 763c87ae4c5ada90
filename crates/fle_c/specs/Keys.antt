-- What a call comes to that makes a key document, and what the version is.
use Rattle.std.specs.Prelude.{◌≡◌, ◌≤◌, ◌⊎◌, ℕ, ◌-◌, ◌*◌, ◌/◌, ◌++◌, ◌∷◌, nat_lt, Bool, true, false, List, [], codes}
use Rattle.std.specs.Prelude.{length, take, Option, Some, None, Result, Ok, Err, Vec}
use Rattle.std.specs.Global.{Global}
use Rattle.bson_tree.specs.Tree.{Items}
use Rattle.encrypt_schema.specs.Commands.Reasons.{reason_code}
use Rattle.encrypt_schema.specs.declared.command.reason.Reason.TheVariants as reasons
use Rattle.fle_engine.specs.KeyRulings.{KeyRuling, makes_key, new_key_ruling, rewrap_ruling, stops}
use Rattle.fle_engine.specs.declared.key_stop.KeyStop.{KeyStop}
use Rattle.fle_engine.specs.declared.key_stop.KeyStop.TheVariants as key_stops
use Rattle.fle_engine.specs.declared.opener.Opener.{Opener}
use Rattle.fle_outside.specs.Blocks.{Block}
use Rattle.fle_stream.specs.Plan.{Plan}
use Rattle.fle_c.specs.Blocks.{blocks_in}
use Rattle.fle_c.specs.Calls.{JudgesAs, Tells, document_limit}
use Rattle.fle_c.specs.Telling.{bare, fault_told, made_out, made_told, random_wanted}
use Rattle.fle_c.specs.declared.told.Told.{Told}

-- the version of the library, with a 00 behind it
abbrev pub version : List ℕ
version = codes "0.2.0" ++ 0 ∷ []

-- an output that takes so many random bytes is told by its length, and written whole where it has room
pub record Writes (random : ℕ) (output before after : List ℕ) (told : Told) : Type 0 where
  pub numbers : told ≡ made_told random before output
  pub out : after ≡ made_out before output

-- a status with a reason, a length and random bytes
abbrev pub numbered : ℕ → ℕ → ℕ → ℕ → Told
numbered status reason n random =
    record { status = status; reason = reason; file = 0; place = 0; length = n; random = random }

-- the random bytes that are wanted can be counted
abbrev pub FewBlocks : KeyStop → Type 0
FewBlocks (key_stops.Undrawn wanted) = wanted.draws ≤ 67108864
FewBlocks _ = Unit {0}

-- what is told where there is no key document
abbrev pub stop_told : KeyStop → Told
stop_told (key_stops.Faulty fault) = fault_told fault
stop_told key_stops.Damaged = numbered 1 (reason_code reasons.KeyDamaged) 0 0
stop_told key_stops.Names = bare 14
stop_told (key_stops.Undrawn wanted) = random_wanted wanted.size (16 * wanted.draws)
stop_told key_stops.Memory = bare 8

-- what is told of an answer, by the number of bytes that were handed in as blocks and of those that are left: a
-- document with those that were used, or why there is none
abbrev pub ShowsKey : Result (Vec ℕ Global) KeyStop → ℕ → ℕ → List ℕ → List ℕ → Told → Type 0
ShowsKey (Ok output) handed left before after told =
    Writes (16 * (handed / 16 - left / 16)) output.items before after told
ShowsKey (Err why) handed left before after told = Tells (stop_told why) before after told

-- an output is written that is made of the first of these blocks; or it wants more of them than there are
abbrev pub Drawn : Bool → Plan → List Block → List ℕ → List ℕ → Told → Type 0
Drawn true plan blocks before after told = Tells (random_wanted plan.size (16 * plan.draws)) before after told
Drawn false plan blocks before after told =
    Writes (16 * plan.draws) (plan.bytes (take plan.draws blocks)) before after told

-- a key document is written by what it comes to, with these blocks; or it is told why there is none
abbrev pub RulesKey : KeyRuling → List Block → List ℕ → List ℕ → Told → Type 0
RulesKey (makes_key plan) blocks before after told =
    Drawn (nat_lt (length blocks) plan.draws) plan blocks before after told
RulesKey (stops why) blocks before after told = Tells (stop_told why) before after told

-- the same, or memory ran out
abbrev pub KeyTold : KeyRuling → List Block → List ℕ → List ℕ → Told → Type 0
KeyTold v blocks before after told = RulesKey v blocks before after told ⊎ Tells (bare 8) before after told

-- the same by what a document of at most 16,777,216 bytes comes to
abbrev pub JudgesKey : (Items → KeyRuling) → List ℕ → List ℕ → List ℕ → List ℕ → Told → Type 0
JudgesKey v bytes blocks before after told =
    JudgesAs document_limit (λ d. KeyTold (v d) (blocks_in blocks) before after told) bytes before after told

-- a key document is sealed anew, from under the master key of an opener, at this time
abbrev pub Rewraps : Opener → List ℕ → ℕ → List ℕ → List ℕ → List ℕ → List ℕ → Told → Type 0
Rewraps o master time key blocks before after told =
    JudgesKey (λ _. rewrap_ruling o.cache.master time master key) key blocks before after told

-- a new key is made under the master key of an opener, at this time
abbrev pub MakesKey : Opener → List ℕ → ℕ → List ℕ → List ℕ → List ℕ → Told → Type 0
MakesKey o names time blocks before after told =
    JudgesKey (new_key_ruling o.cache.master time) names blocks before after told

-- a key document is sealed anew where there is a master key; where there is none, that is told as where none is open
abbrev pub RewrapsAs : Option Opener → List ℕ → ℕ → List ℕ → List ℕ → List ℕ → List ℕ → Told → Type 0
RewrapsAs (Some o) master time key blocks before after told = Rewraps o master time key blocks before after told
RewrapsAs None master time key blocks before after told = Tells (bare 11) before after told

-- the same of a new key
abbrev pub MakesKeyAs : Option Opener → List ℕ → ℕ → List ℕ → List ℕ → List ℕ → Told → Type 0
MakesKeyAs (Some o) names time blocks before after told = MakesKey o names time blocks before after told
MakesKeyAs None names time blocks before after told = Tells (bare 11) before after told
