-- The payloads of a document, found
use Rattle.std.specs.Prelude.{◌≡◌, ℕ, ◌+◌, Result, Ok, Err, Option, Some, None, is_some, true, List, [], ◌∷◌, length}
use Rattle.std.specs.Prelude.{map, slice_get}
use Rattle.bson_codec.specs.Borrowed.{At}
use Rattle.encrypt_schema.specs.declared.command.reason.Reason.TheVariants as reasons
use Rattle.payload6.specs.Verdicts.{id_in}
use Rattle.doc_rewrite.specs.declared.found.FoundAt.{FoundAt}
use Rattle.doc_rewrite.specs.declared.finding.FindFault.{FindFault}
use Rattle.doc_rewrite.specs.Founds.{Place, payloads_of}
use Rattle.doc_rewrite.specs.Keys.{IdLookup}
use Rattle.doc_rewrite.specs.Opened.{first_wrong, misshapen}

-- what is told of a payload's place
abbrev pub found_at : Place → FoundAt
found_at p = record { start = p.start; end = p.end; key_id = id_in p.contents; levels = p.levels }

-- these are the payloads of a document, each of a right length
pub record IsFoundIn (d : At) (fs : List FoundAt) : Type 0 where
  pub all : fs ≡ map found_at (payloads_of d)
  pub shaped : first_wrong misshapen (payloads_of d) ≡ None

-- the first payload of a wrong length
abbrev pub FailsAs : List Place → FindFault → Type 0
FailsAs ps fault = first_wrong misshapen ps ≡ Some (record { reason = reasons.PayloadShape; at = fault.at })

-- the payloads of a document were found, or one has a wrong length
abbrev pub FindsPayloads : At → Result (List FoundAt) FindFault → Type 0
FindsPayloads d (Ok fs) = IsFoundIn d fs
FindsPayloads d (Err fault) = FailsAs (payloads_of d) fault

-- from one state to another it was told of these, one after the other
abbrev pub Tells : {S : Type 0} → (S → S → FoundAt → Type 0) → S → S → List FoundAt → Type 0
Tells step before after [] = before ≡ after
Tells {S} step before after (f ∷ fs) = (mid : S) × step before mid f × Tells step mid after fs

-- these were told of, each has a right length, and with the `n` before them they are `m`
pub record FindsAll {S : Type 0} (step : S → S → FoundAt → Type 0) (ps : List Place) (n : ℕ) (before after : S) (m : ℕ)
    : Type 0 where
  pub told : Tells step before after (map found_at ps)
  pub shaped : first_wrong misshapen ps ≡ None
  pub count : m ≡ n + length ps

-- the same, or one of them has a wrong length
abbrev pub FindsAs : {S : Type 0} → (S → S → FoundAt → Type 0) → List Place → ℕ → S → S → Result ℕ FindFault → Type 0
FindsAs step ps n before after (Ok m) = FindsAll step ps n before after m
FindsAs step ps n before after (Err fault) = FailsAs ps fault

-- the payload that was picked, or else the one behind so many of those to come
abbrev pub picked_of : ℕ → Option FoundAt → List FoundAt → Option FoundAt
picked_of before (Some f) fs = Some f
picked_of before None fs = slice_get fs before

-- the key of each id is there
abbrev pub HasKeysFor : IdLookup → List FoundAt → Type 0
HasKeysFor keys [] = Unit {0}
HasKeysFor keys (f ∷ fs) = (is_some (keys f.key_id) ≡ true) × HasKeysFor keys fs
