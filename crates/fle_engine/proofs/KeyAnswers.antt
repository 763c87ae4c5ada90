-- What is answered for a key document, by what it comes to.
use Rattle.std.proofs.Common.{◌≡◌, ◌<◌, ◌≤◌, ℕ, nat_lt, Bool, true, false, cond, List, [], ◌∷◌, length, Option}
use Rattle.std.proofs.Common.{Some, None, Result, Ok, Err, Vec, Global, refl, sym, ap, arith, subst, inl, inr}
use Rattle.std.proofs.lemmas.Bool.{cases_Bool}
use Rattle.std.proofs.lemmas.Bool.Decides.{nat_tests}
use Rattle.bson_tree.specs.Tree.{Items}
use Rattle.data_key.specs.declared.key_doc.KeyDoc.{KeyDoc}
use Rattle.data_key.specs.declared.key_doc.Provider.{Provider}
use Rattle.data_key.specs.declared.key_doc.Provider.TheVariants as providers
use Rattle.fle_files.specs.Limits.{file_limit}
use Rattle.fle_outside.specs.Seen.{EntropySeen}
use Rattle.fle_stream.specs.declared.why.SetupFault.TheVariants as setups
use Rattle.key_vault.specs.Loading.{Faulty, vault}
use Rattle.rewrap_keys.specs.Answers.{Rewraps}
use Rattle.rewrap_keys.specs.Rewrapped.{change, draws_by, draws_of, first_damaged}
use Rattle.rewrap_keys.specs.declared.rewrapping.RewrapFault.{RewrapFault}
use Rattle.rewrap_keys.specs.declared.rewrapping.RewrapFault.TheVariants as rewrap_faults
use Rattle.fle_engine.specs.KeyRulings.{KeyAnswerIs, KeyRuling, WantsFew, keygen_plan, makes_key, named_ruling}
use Rattle.fle_engine.specs.KeyRulings.{new_key_ruling}
use Rattle.fle_engine.specs.KeyRulings.{rewrap_by, rewrap_plan, rewrap_ruling, stop_for, stop_of, stops, whole_ruling}
use Rattle.fle_engine.specs.NewNames.{TextsAre, new_names}
use Rattle.fle_engine.specs.Loading.{Reads, keys_in, keys_or, master_key_in}
use Rattle.fle_engine.specs.declared.key_stop.KeyStop.{KeyStop}
use Rattle.fle_engine.specs.declared.key_stop.KeyStop.TheVariants as key_stops
use Rattle.fle_engine.specs.declared.loading.EngineFault.{EngineFault}
use Rattle.fle_engine.specs.declared.loading.EngineFault.TheVariants as faults

-- memory may always be short
pub short_of_memory : (v : KeyRuling) (before after : EntropySeen) → KeyAnswerIs v before after (Err key_stops.Memory)
short_of_memory (makes_key plan) before after = tt
short_of_memory (stops why) before after = tt

-- what isn't below is at most
pub below_of : (n m : ℕ) → (n ≤ m → ⊥) → m < n
below_of n m above =
    elim (cases_Bool (nat_lt m n)) [
      | inl is ↦ grind (arith, nat_tests)
      | inr other ↦ absurd (above (grind (arith, nat_tests)))
    ]

-- ---- what was read

read_from : (bytes : List ℕ) (over : Bool) (there : Result (List KeyDoc) Faulty) (keys : List KeyDoc)
    → cond over (Err (faults.File 1 setups.TooLong 0)) (keys_or there) ≡ Ok keys
    → (over ≡ false) × (there ≡ Ok keys)
read_from bytes true there keys is = absurd cc
read_from bytes false (Ok keys) found is = (refl, cc)
read_from bytes false (Err fault) found is = absurd cc

-- keys that are there were loaded from a file that isn't too long
pub loaded_from : (bytes : List ℕ) (keys : List KeyDoc) → keys_in bytes ≡ Ok keys
    → (vault bytes ≡ Ok keys) × (length bytes ≤ 67108864)
loaded_from bytes keys is =
    let read = read_from bytes (nat_lt file_limit (length bytes)) (vault bytes) keys is in
    let within : nat_lt 67108864 (length bytes) ≡ false = read.0 in
    let small : length bytes ≤ 67108864 = grind (arith, nat_tests) in
    (read.1, small)

-- ---- a key document under a new master key

module _ (from : List ℕ) (time : ℕ) (master bytes : List ℕ) (before after : EntropySeen) where
  faulty : (fault : EngineFault) (there : Result (List KeyDoc) EngineFault) → Reads there (Err fault)
      → KeyAnswerIs (rewrap_by from time bytes there (master_key_in master)) before after (Err (stop_of fault))
  faulty faults.Database there reads =
      subst (λ (r : Result (List KeyDoc) EngineFault). KeyAnswerIs
      (rewrap_by from time bytes r (master_key_in master)) before after (Err (key_stops.Faulty faults.Database)))
      (sym reads) refl
  faulty (faults.File file fault document) there reads =
      subst (λ (r : Result (List KeyDoc) EngineFault). KeyAnswerIs
      (rewrap_by from time bytes r (master_key_in master)) before after
      (Err (key_stops.Faulty (faults.File file fault document)))) (sym reads) refl
  faulty faults.Memory there reads =
      short_of_memory (rewrap_by from time bytes there (master_key_in master)) before after

  -- the key documents are at fault
  pub keys_faulty : (fault : EngineFault) → Reads (keys_in bytes) (Err fault)
      → KeyAnswerIs (rewrap_ruling from time master bytes) before after (Err (stop_of fault))
  unfolding rewrap_ruling
  keys_faulty fault reads = faulty fault (keys_in bytes) reads

  keyed : (fault : EngineFault) (keys : List KeyDoc) (there : Result (List ℕ) EngineFault) → Reads there (Err fault)
      → KeyAnswerIs (rewrap_by from time bytes (Ok keys) there) before after (Err (stop_of fault))
  keyed faults.Database keys there reads =
      subst (λ (r : Result (List ℕ) EngineFault). KeyAnswerIs (rewrap_by from time bytes (Ok keys) r) before after
      (Err (key_stops.Faulty faults.Database))) (sym reads) refl
  keyed (faults.File file fault document) keys there reads =
      subst (λ (r : Result (List ℕ) EngineFault). KeyAnswerIs (rewrap_by from time bytes (Ok keys) r) before after
      (Err (key_stops.Faulty (faults.File file fault document)))) (sym reads) refl
  keyed faults.Memory keys there reads =
      short_of_memory (rewrap_by from time bytes (Ok keys) there) before after

  -- they are read, and the new master key is at fault
  pub master_faulty : (fault : EngineFault) (keys : List KeyDoc) → keys_in bytes ≡ Ok keys
      → Reads (master_key_in master) (Err fault)
      → KeyAnswerIs (rewrap_ruling from time master bytes) before after (Err (stop_of fault))
  unfolding rewrap_ruling
  master_faulty fault keys read reads =
      subst (λ (r : Result (List KeyDoc) EngineFault). KeyAnswerIs
      (rewrap_by from time bytes r (master_key_in master)) before after (Err (stop_of fault))) (sym read)
      (keyed fault keys (master_key_in master) reads)

  -- both are read
  pub both_read : (keys : List KeyDoc) (to : List ℕ) (answer : Result (Vec ℕ Global) KeyStop) → keys_in bytes ≡ Ok keys
      → master_key_in master ≡ Ok to
      → KeyAnswerIs (whole_ruling (first_damaged from keys) (rewrap_plan (change from to time) bytes keys)) before after
      answer
      → KeyAnswerIs (rewrap_ruling from time master bytes) before after answer
  unfolding rewrap_ruling
  both_read keys to answer read given is =
      subst (λ (r : Result (List KeyDoc) EngineFault). KeyAnswerIs
      (rewrap_by from time bytes r (master_key_in master)) before after answer) (sym read)
      (subst (λ (r : Result (List ℕ) EngineFault). KeyAnswerIs (rewrap_by from time bytes (Ok keys) r) before after
      answer) (sym given) is)

  -- the keys are made anew
  pub made_anew : (keys : List KeyDoc) (to : List ℕ) (output : Vec ℕ Global) → keys_in bytes ≡ Ok keys
      → master_key_in master ≡ Ok to → Rewraps (change from to time) bytes keys before after (Ok output)
      → length output.items ≡ length bytes
      → KeyAnswerIs (rewrap_ruling from time master bytes) before after (Ok output)
  made_anew keys to output read given made size =
      both_read keys to (Ok output) read given
      (subst (λ (o : Option ℕ). KeyAnswerIs (whole_ruling o (rewrap_plan (change from to time) bytes keys)) before after
      (Ok output)) (sym made.0) (made.1, size))

  unmade : (keys : List KeyDoc) (to : List ℕ) (fault : RewrapFault)
      → Rewraps (change from to time) bytes keys before after (Err fault)
      → (draws_of keys ≤ before.assured → fault ≡ rewrap_faults.EntropyFailed → ⊥)
      → KeyAnswerIs (whole_ruling (first_damaged from keys) (rewrap_plan (change from to time) bytes keys)) before after
      (Err (stop_for (length bytes) (draws_of keys) fault))
  unmade keys to (rewrap_faults.Damaged document) says sure =
      subst (λ (o : Option ℕ). KeyAnswerIs (whole_ruling o (rewrap_plan (change from to time) bytes keys)) before after
      (Err key_stops.Damaged)) (sym says) refl
  unmade keys to rewrap_faults.EntropyFailed says sure =
      subst (λ (o : Option ℕ). KeyAnswerIs (whole_ruling o (rewrap_plan (change from to time) bytes keys)) before after
      (Err (stop_for (length bytes) (draws_of keys) rewrap_faults.EntropyFailed))) (sym says.0)
      (below_of (draws_of keys) before.assured (λ le. sure le refl), refl)
  unmade keys to rewrap_faults.Memory says sure =
      short_of_memory (whole_ruling (first_damaged from keys) (rewrap_plan (change from to time) bytes keys)) before
      after

  -- they aren't
  pub not_anew : (keys : List KeyDoc) (to : List ℕ) (fault : RewrapFault) → keys_in bytes ≡ Ok keys
      → master_key_in master ≡ Ok to → Rewraps (change from to time) bytes keys before after (Err fault)
      → (draws_of keys ≤ before.assured → ◌≡◌ {A = Result (Vec ℕ Global) RewrapFault} (Err fault)
      (Err rewrap_faults.EntropyFailed) → ⊥)
      → KeyAnswerIs (rewrap_ruling from time master bytes) before after
      (Err (stop_for (length bytes) (draws_of keys) fault))
  not_anew keys to fault read given says sure =
      both_read keys to (Err (stop_for (length bytes) (draws_of keys) fault)) read given
      (unmade keys to fault says (λ le is. sure le (ap Err is)))

draws_one : (provider : Provider) → draws_by provider ≤ 1
draws_one providers.Local = omega arith
draws_one providers.Other = omega arith

-- keys draw no more blocks than they are
pub draws_few : (keys : List KeyDoc) → draws_of keys ≤ length keys
draws_few [] = omega arith
draws_few (k ∷ ks) = omega (arith, draws_one k.provider, draws_few ks)

-- few blocks are wanted
pub wants_few : (size draws : ℕ) (fault : RewrapFault) → draws ≤ 67108864 → WantsFew (Err (stop_for size draws fault))
wants_few size draws (rewrap_faults.Damaged document) few = tt
wants_few size draws rewrap_faults.EntropyFailed few = few
wants_few size draws rewrap_faults.Memory few = tt

pub faulty_few : (fault : EngineFault) → WantsFew (Err (stop_of fault))
faulty_few faults.Database = tt
faulty_few (faults.File file fault document) = tt
faulty_few faults.Memory = tt

-- ---- a new key

module _ (master : List ℕ) (time : ℕ) (d : Items) (before after : EntropySeen) where
  -- its names are there
  pub names_there : (names : List (List ℕ)) (answer : Result (Vec ℕ Global) KeyStop) → new_names d ≡ Some names
      → KeyAnswerIs (makes_key (keygen_plan names time master)) before after answer
      → KeyAnswerIs (new_key_ruling master time d) before after answer
  unfolding new_key_ruling
  names_there names answer is says =
      subst (λ (o : Option (List (List ℕ))). KeyAnswerIs (named_ruling master time o) before after answer) (sym is) says

  nameless : (there : Option (List (List ℕ))) (stop : KeyStop) → TextsAre there (Err stop)
      → KeyAnswerIs (named_ruling master time there) before after (Err stop)
  nameless there (key_stops.Faulty fault) is = absurd is
  nameless there key_stops.Damaged is = absurd is
  nameless there key_stops.Names is =
      subst (λ (o : Option (List (List ℕ))). KeyAnswerIs (named_ruling master time o) before after
      (Err key_stops.Names)) (sym is) refl
  nameless there (key_stops.Undrawn wanted) is = absurd is
  nameless there key_stops.Memory is = short_of_memory (named_ruling master time there) before after

  -- they aren't, or memory ran out
  pub names_missing : (stop : KeyStop) → TextsAre (new_names d) (Err stop)
      → KeyAnswerIs (new_key_ruling master time d) before after (Err stop)
  unfolding new_key_ruling
  names_missing stop is = nameless (new_names d) stop is

pub nameless_few : (there : Option (List (List ℕ))) (stop : KeyStop) → TextsAre there (Err stop) → WantsFew (Err stop)
nameless_few there (key_stops.Faulty fault) is = tt
nameless_few there key_stops.Damaged is = tt
nameless_few there key_stops.Names is = tt
nameless_few there (key_stops.Undrawn wanted) is = absurd is
nameless_few there key_stops.Memory is = tt
