-- What the named files hold leads on, or the task fails.
use Rattle.std.proofs.Common.{◌≡◌, ℕ, true, Option, Some, Err, List, ◌∙◌, ap, refl}
use Rattle.fle_outside.specs.Counts.{Rose}
use Rattle.fle_outside.specs.Files.{Files}
use Rattle.fle_outside.specs.Seen.{EntropySeen, FolderSeen, SinkSeen, SourceSeen}
use Rattle.key_vault.specs.Loading.{Loads, vault}
use Rattle.key_vault.specs.declared.faults.VaultFault.{VaultFault}
use Rattle.key_vault.specs.declared.faults.VaultFault.TheVariants as vault_faults
use Rattle.local_kms.specs.Master.{master_in}
use Rattle.local_kms.specs.declared.master.MasterFault.{MasterFault}
use Rattle.fle_stream.specs.Acted.{Acted, EndsAs, AreTold, objects}
use Rattle.fle_stream.specs.Did.{Did}
use Rattle.fle_stream.specs.Files.{IsOfFiles, LoadIs}
use Rattle.fle_stream.specs.Task.{Task, with_file}
use Rattle.fle_stream.specs.Turn.{Pace}
use Rattle.fle_stream.specs.declared.why.Cut.TheVariants as cuts
use Rattle.fle_stream.specs.declared.why.Why.{Why}
use Rattle.fle_stream.specs.declared.why.Why.TheVariants as whys
use Rattle.fle_stream.proofs.Acts.{IsEarly, acts_early}
use Rattle.fle_stream.proofs.Programs.{did_task, did_fail, did_folder, did_memory, ends_task}
use Rattle.fle_files.specs.Infos.{ReadsAs, infos_read}
use Rattle.fle_files.specs.Limits.{file_limit, master_limit}
use Rattle.fle_files.specs.Setup.{Leads, infos_or, infos_why, master_or, master_why}
use Rattle.fle_files.specs.Setup.{vault_or, vault_why, with_infos, with_keys, with_master, with_vault}
use Rattle.fle_files.specs.declared.infos.InfosFault.{InfosFault}
use Rattle.fle_files.specs.declared.infos.InfosFault.TheVariants as infos_faults

-- a file wasn't loaded, whatever goes on from its bytes
pub leads_load : {A : Type 0} (number limit : ℕ) (file : Option (List ℕ)) (why : Why)
    (more : (A → Task) → List ℕ → Task) → LoadIs number limit file (Err why)
    → Leads (λ (next : A → Task). with_file number limit file (more next)) (Err why)
leads_load number limit file (whys.Finished finish) more is = λ next. is (more next)
leads_load number limit file (whys.Cut cuts.Folder) more is = tt
leads_load number limit file (whys.Cut cuts.Memory) more is = tt
leads_load number limit file (whys.Cut cuts.Input) more is = absurd is
leads_load number limit file (whys.Cut cuts.Output) more is = absurd is
leads_load number limit file (whys.Cut cuts.Entropy) more is = absurd is

-- a file was loaded: its bytes lead on
abbrev pub IsLoaded : ℕ → ℕ → Option (List ℕ) → List ℕ → Type 0
IsLoaded number limit file bytes = (next : List ℕ → Task) → with_file number limit file next ≡ next bytes

-- its contents are at fault, or there was no memory for them
pub infos_fail : (number : ℕ) (file : Option (List ℕ)) (bytes : List ℕ) (fault : InfosFault)
    → IsLoaded number file_limit file bytes → ReadsAs (infos_read bytes) (Err fault)
    → Leads (with_infos number file) (Err (infos_why number fault))
infos_fail number file bytes (infos_faults.Bad code document) load read =
    λ next. load (λ bs. infos_or number next (infos_read bs)) ∙ ap (infos_or number next) read
infos_fail number file bytes infos_faults.Memory load read = tt

pub vault_fail : (number : ℕ) (file : Option (List ℕ)) (bytes : List ℕ) (fault : VaultFault)
    → IsLoaded number file_limit file bytes → Loads (Err fault) (vault bytes)
    → Leads (with_vault number file) (Err (vault_why number fault))
vault_fail number file bytes (vault_faults.Bad document kind) load read =
    λ next. load (λ bs. vault_or number next (vault bs)) ∙ ap (vault_or number next) read
vault_fail number file bytes vault_faults.Memory load read = tt

-- the same where the file's bytes lead on beside its keys
pub keys_fail : (number : ℕ) (file : Option (List ℕ)) (bytes : List ℕ) (fault : VaultFault)
    → IsLoaded number file_limit file bytes → Loads (Err fault) (vault bytes)
    → Leads (with_keys number file) (Err (vault_why number fault))
keys_fail number file bytes (vault_faults.Bad document kind) load read =
    λ next.
    load (λ bs. vault_or number (λ keys. next (record { bytes = bs; keys = keys })) (vault bs))
    ∙ ap (vault_or number (λ keys. next (record { bytes = bytes; keys = keys }))) read
keys_fail number file bytes vault_faults.Memory load read = tt

pub master_fail : (number : ℕ) (file : Option (List ℕ)) (bytes : List ℕ) (fault : MasterFault)
    → IsLoaded number master_limit file bytes → master_in bytes ≡ Err fault
    → Leads (with_master number file) (Err (master_why number fault))
master_fail number file bytes fault load read =
    λ next. load (λ bs. master_or number next (master_in bs)) ∙ ap (master_or number next) read

-- a run ends for this reason before its input is read
did_stop : {A : Type 0} (files : (A → Task) → Task) (why : Why) (next : A → Task) (told : List ℕ)
    (after : Option (List ℕ)) (entropy : EntropySeen) (out : SinkSeen)
    → Leads files (Err why) → after ≡ Some told → Did (files next) told after entropy entropy out out 0 why
did_stop files (whys.Finished finish) next told after entropy out is left =
    did_task (is next) (did_fail finish told after entropy out left)
did_stop files (whys.Cut cuts.Folder) next told after entropy out is left =
    did_folder (files next) told after entropy out left
did_stop files (whys.Cut cuts.Memory) next told after entropy out is left =
    did_memory (files next) told after entropy out left
did_stop files (whys.Cut cuts.Input) next told after entropy out is left = absurd is
did_stop files (whys.Cut cuts.Output) next told after entropy out is left = absurd is
did_stop files (whys.Cut cuts.Entropy) next told after entropy out is left = absurd is

ends_stop : {A : Type 0} (files : (A → Task) → Task) (why : Why) (next : A → Task)
    → Leads files (Err why) → EndsAs (files next) why
ends_stop files (whys.Finished finish) next is = ends_task (whys.Finished finish) (is next) refl
ends_stop files (whys.Cut cuts.Folder) next is = tt
ends_stop files (whys.Cut cuts.Memory) next is = tt
ends_stop files (whys.Cut cuts.Input) next is = absurd is
ends_stop files (whys.Cut cuts.Output) next is = absurd is
ends_stop files (whys.Cut cuts.Entropy) next is = absurd is

stops_early : (why : Why) → IsOfFiles why → IsEarly why
stops_early (whys.Finished finish) kind = tt
stops_early (whys.Cut cuts.Folder) kind = tt
stops_early (whys.Cut cuts.Memory) kind = tt
stops_early (whys.Cut cuts.Input) kind = absurd kind
stops_early (whys.Cut cuts.Output) kind = absurd kind
stops_early (whys.Cut cuts.Entropy) kind = absurd kind

-- with all that is so of a run
pub acts_stop : {A : Type 0} (leads : Files → (A → Task) → Task) (next : A → Task) {pace : Pace} {input : SourceSeen}
    {files files_after : FolderSeen} {out : SinkSeen} {entropy : EntropySeen} (why : Why) → IsOfFiles why
    → ((all : Files) → files.told ≡ Some all → Leads (leads all) (Err why))
    → (why ≡ whys.Cut cuts.Folder → Rose files.faults files_after.faults)
    → (files.assured ≡ true → why ≡ whys.Cut cuts.Folder → ⊥)
    → Acted AreTold (λ all. leads all next) pace (objects input files out entropy)
    (objects input files_after out entropy) (record { number = 0; why = why })
acts_stop leads next {out = out} {entropy = entropy} why kind stops cause sure =
    acts_early why (stops_early why kind)
    (λ all told after has is. did_stop (leads all) why next told after entropy out (stops all has) is)
    (λ all has. ends_stop (leads all) why next (stops all has)) cause sure
