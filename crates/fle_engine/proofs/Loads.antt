-- What an engine is made of, file by file.
use Rattle.std.proofs.Common.{◌≡◌, ◌∙◌, ◌≤◌, ℕ, nat_lt, Bool, true, false, cond, List, length, Result, Ok, Err}
use Rattle.std.proofs.Common.{ap, ap₂, arith, subst, sym}
use Rattle.std.proofs.lemmas.Bool.Decides.{nat_tests}
use Rattle.data_key.specs.declared.key_doc.KeyDoc.{KeyDoc}
use Rattle.encrypt_schema.specs.Language.Collection.{Collection}
use Rattle.fle_files.specs.Infos.{infos_read}
use Rattle.fle_stream.specs.declared.why.SetupFault.TheVariants as setups
use Rattle.fle_engine.specs.Engines.{EngineIs}
use Rattle.fle_engine.specs.Loading.{Parts, Reads, all_of, infos_in, infos_or, is_database, keys_in, master_key_in}
use Rattle.fle_engine.specs.Loading.{parts_in}
use Rattle.fle_engine.specs.declared.loading.EngineFault.{EngineFault}
use Rattle.fle_engine.specs.declared.loading.EngineFault.TheVariants as faults

-- a file's fault is that of the engine
stops : {A : Type 0} (db : List ℕ) (there : Result A EngineFault) (parts : Result Parts EngineFault)
    (fault : EngineFault) → Reads there (Err fault) → ((f : EngineFault) → there ≡ Err f → parts ≡ Err f)
    → EngineIs db parts (Err fault)
stops db there parts faults.Database reads on = on faults.Database reads
stops db there parts (faults.File file fault document) reads on = on (faults.File file fault document) reads
stops db there parts faults.Memory reads on = tt

module _ (db vault infos master : List ℕ) where
  pub unnamed : is_database db ≡ false → parts_in db vault infos master ≡ Err faults.Database
  unfolding parts_in
  unnamed isnt =
      ap (λ (b : Bool). cond b (all_of (keys_in vault) (infos_in infos) (master_key_in master)) (Err faults.Database))
      isnt

  named : is_database db ≡ true
      → parts_in db vault infos master ≡ all_of (keys_in vault) (infos_in infos) (master_key_in master)
  unfolding parts_in
  named is_named =
      ap (λ (b : Bool). cond b (all_of (keys_in vault) (infos_in infos) (master_key_in master)) (Err faults.Database))
      is_named

  pub no_keys : (fault : EngineFault) → is_database db ≡ true → Reads (keys_in vault) (Err fault)
      → EngineIs db (parts_in db vault infos master) (Err fault)
  no_keys fault is_named reads =
      stops db (keys_in vault) (parts_in db vault infos master) fault reads (λ f is. named is_named
      ∙ ap (λ (r : Result (List KeyDoc) EngineFault). all_of r (infos_in infos) (master_key_in master)) is)

  with_keys : (keys : List KeyDoc) → is_database db ≡ true → keys_in vault ≡ Ok keys
      → parts_in db vault infos master ≡ all_of (Ok keys) (infos_in infos) (master_key_in master)
  with_keys keys is_named reads =
      named is_named
      ∙ ap (λ (r : Result (List KeyDoc) EngineFault). all_of r (infos_in infos) (master_key_in master)) reads

  pub no_infos : (keys : List KeyDoc) (fault : EngineFault) → is_database db ≡ true → keys_in vault ≡ Ok keys
      → Reads (infos_in infos) (Err fault) → EngineIs db (parts_in db vault infos master) (Err fault)
  no_infos keys fault is_named read reads =
      stops db (infos_in infos) (parts_in db vault infos master) fault reads (λ f is. with_keys keys is_named read
      ∙ ap (λ (r : Result (List Collection) EngineFault). all_of (Ok keys) r (master_key_in master)) is)

  with_infos : (keys : List KeyDoc) (rules : List Collection) → is_database db ≡ true → keys_in vault ≡ Ok keys
      → infos_in infos ≡ Ok rules
      → parts_in db vault infos master ≡ all_of (Ok keys) (Ok rules) (master_key_in master)
  with_infos keys rules is_named read reads =
      with_keys keys is_named read
      ∙ ap (λ (r : Result (List Collection) EngineFault). all_of (Ok keys) r (master_key_in master)) reads

  pub no_master : (keys : List KeyDoc) (rules : List Collection) (fault : EngineFault) → is_database db ≡ true
      → keys_in vault ≡ Ok keys → infos_in infos ≡ Ok rules → Reads (master_key_in master) (Err fault)
      → EngineIs db (parts_in db vault infos master) (Err fault)
  no_master keys rules fault is_named read read_too reads =
      stops db (master_key_in master) (parts_in db vault infos master) fault reads
      (λ f is. with_infos keys rules is_named read read_too
      ∙ ap (λ (r : Result (List ℕ) EngineFault). all_of (Ok keys) (Ok rules) r) is)

  pub all_there : (keys : List KeyDoc) (rules : List Collection) (key : List ℕ) → is_database db ≡ true
      → keys_in vault ≡ Ok keys → infos_in infos ≡ Ok rules → master_key_in master ≡ Ok key
      → parts_in db vault infos master ≡ Ok (record { keys = keys; infos = rules; master = key })
  all_there keys rules key is_named read read_too is =
      with_infos keys rules is_named read read_too
      ∙ ap (λ (r : Result (List ℕ) EngineFault). all_of (Ok keys) (Ok rules) r) is

-- what three files hold
abbrev held : List KeyDoc → List Collection → List ℕ → Result Parts EngineFault
held keys rules key = Ok (record { keys = keys; infos = rules; master = key })

pub same_parts : (keys other_keys : List KeyDoc) (rules other_rules : List Collection) (key other_key : List ℕ)
    → other_keys ≡ keys → other_rules ≡ rules → other_key ≡ key
    → held keys rules key ≡ held other_keys other_rules other_key
same_parts keys other_keys rules other_rules key other_key a b c =
    ap₂ (λ (ks : List KeyDoc) (rs : List Collection). held ks rs key) (sym a) (sym b)
    ∙ ap (held other_keys other_rules) (sym c)

-- a file of infos that isn't too long
pub infos_within : (bytes : List ℕ) (result : Result (List Collection) EngineFault) → length bytes ≤ 67108864
    → Reads (infos_or (infos_read bytes)) result → Reads (infos_in bytes) result
infos_within bytes result few reads =
    let short : nat_lt 67108864 (length bytes) ≡ false = grind (arith, nat_tests) in
    subst (λ (b : Bool). Reads (cond b (Err (faults.File 2 setups.TooLong 0)) (infos_or (infos_read bytes))) result)
    (sym short) reads
