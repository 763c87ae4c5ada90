-- A vault under another master key: why it isn't made, and what a run writes that is done.
use Rattle.std.proofs.Common.{◌≡◌, ℕ, ◌<◌, ◌≤◌, ◌∙◌, false, List, [], ◌∷◌, length, take, Option, Some, None}
use Rattle.std.proofs.Common.{ap, append-nil, arith, refl, subst, sym, Result, Err}
use Rattle.std.specs.List.{All}
use Rattle.std.specs.Prelude.{Vec}
use Rattle.std.specs.Global.{Global}
use Rattle.std.proofs.lemmas.List.{take_all}
use Rattle.encrypt_schema.specs.declared.command.reason.Reason.TheVariants as reasons
use Rattle.fle_files.specs.Numbers.{reason_number}
use Rattle.fle_files.specs.Limits.{file_limit, master_limit}
use Rattle.fle_files.specs.Setup.{master_or, vault_or, with_keys, with_master}
use Rattle.fle_files.specs.declared.setup.KeysFile.{KeysFile}
use Rattle.fle_outside.specs.Blocks.{Block}
use Rattle.fle_outside.specs.Files.{Files, file_of}
use Rattle.fle_outside.specs.Seen.{EntropySeen, FolderSeen, Gains, SinkSeen, SourceSeen}
use Rattle.fle_runner.specs.HeadlineRewrap.{IsRewrap, RewritesVault}
use Rattle.fle_runner.specs.Rewrap.{IsOfVault, rewrap_held, rewrap_plan, rewrap_why, unless_damaged}
use Rattle.fle_runner.specs.Statuses.{IsUndrawn, IsUnwritten}
use Rattle.fle_runner.specs.Verbs.{task, task_of}
use Rattle.fle_runner.specs.declared.rewrap.RewrapFiles.{RewrapFiles}
use Rattle.fle_runner.proofs.HeadlineFiles.{leads}
use Rattle.fle_stream.specs.Acted.{Acted, AreAny, objects}
use Rattle.fle_stream.specs.Codes.{status_of}
use Rattle.fle_stream.specs.Did.{Did}
use Rattle.fle_stream.specs.Ended.{IsSettled, Whole}
use Rattle.fle_stream.specs.Made.{IsOfOutput}
use Rattle.fle_stream.specs.Plan.{Plan, written}
use Rattle.fle_stream.specs.Task.{Task, makes, one_document, outcome_of, reads_input}
use Rattle.fle_stream.specs.declared.status.Status.{Status}
use Rattle.fle_stream.specs.declared.status.Status.TheVariants as statuses
use Rattle.fle_stream.specs.declared.why.Cut.TheVariants as cuts
use Rattle.fle_stream.specs.declared.why.Finish.TheVariants as finishes
use Rattle.fle_stream.specs.declared.why.Why.{Why}
use Rattle.fle_stream.specs.declared.why.Why.TheVariants as whys
use Rattle.fle_stream.proofs.Acts.{acts_fails, acts_makes, acts_memory}
use Rattle.fle_stream.proofs.Endings.{settled_status, whole_of}
use Rattle.fle_stream.proofs.Outputs.{did_undrawn, output_of}
use Rattle.fle_stream.proofs.Programs.{did_task}
use Rattle.fle_stream.proofs.Turned.{entropy_not_folder, entropy_not_output}
use Rattle.fle_words.specs.Words.{Form, form_of}
use Rattle.fle_words.proofs.OtherForms.{rewrap_form_is}
use Rattle.data_key.specs.declared.key_doc.KeyDoc.{KeyDoc}
use Rattle.key_vault.specs.Loading.{vault}
use Rattle.local_kms.specs.Master.{master_in}
use Rattle.rewrap_keys.specs.Answers.{Rewraps}
use Rattle.rewrap_keys.specs.Rewrapped.{change, draws_of, first_damaged}
use Rattle.rewrap_keys.specs.declared.rewrapping.RewrapFault.{RewrapFault}
use Rattle.rewrap_keys.specs.declared.rewrapping.RewrapFault.TheVariants as faults
use Rattle.rewrap_keys.proofs.Renewed.{file_renewed}

-- ---- the ends of a run whose files were loaded

-- why it isn't made is an end of it
pub fault_kind : (fault : RewrapFault) → IsOfVault (rewrap_why fault)
fault_kind (faults.Damaged document) = tt
fault_kind faults.EntropyFailed = tt
fault_kind faults.Memory = tt

-- the ends of an output are among them
pub output_kind : (why : Why) → IsOfOutput why → IsOfVault why
output_kind (whys.Finished finishes.Done) kind = tt
output_kind (whys.Cut cuts.Output) kind = tt
output_kind _ kind = absurd kind

-- with these the output was written to
pub output_written : (why : Why) → IsOfOutput why → IsUnwritten (status_of why) → ⊥
output_written (whys.Finished finishes.Done) kind none = none
output_written (whys.Cut cuts.Output) kind none = none
output_written _ kind none = kind

-- a block may be gone where there is no undrawn status
pub output_drawn : (why : Why) → IsOfOutput why → IsUndrawn (status_of why) → ⊥
output_drawn (whys.Finished finishes.Done) kind none = none
output_drawn (whys.Cut cuts.Output) kind none = none
output_drawn _ kind none = kind

pub vault_unfailed : (why : Why) → IsOfVault why → why ≡ whys.Cut cuts.Folder → ⊥
vault_unfailed why kind at = subst IsOfVault at kind

-- the answer of a vault that isn't made anew
abbrev pub failed : RewrapFault → Result (Vec ℕ Global) RewrapFault
failed fault = Err fault

-- it draws no block but where a draw failed
pub fault_undrawn : {N : Type 0} {before after : N} (fault : RewrapFault)
    → ((document : ℕ) → failed fault ≡ failed (faults.Damaged document) → after ≡ before)
    → (failed fault ≡ failed faults.Memory → after ≡ before)
    → IsUndrawn (status_of (rewrap_why fault)) → after ≡ before
fault_undrawn (faults.Damaged document) same none undrawn = same document refl
fault_undrawn faults.EntropyFailed same none undrawn = absurd undrawn
fault_undrawn faults.Memory same none undrawn = none refl

-- a vault isn't made anew
pub rewrap_stops : {N : Type 0} (seen : N → EntropySeen) {before after : N} (now : ℕ) (held : RewrapFiles)
    (fault : RewrapFault) (input : SourceSeen) (files : FolderSeen) (out : SinkSeen) (time : ℕ) (bytes : List ℕ)
    → Rewraps (change held.from held.to time) bytes held.vault.keys (seen before) (seen after) (failed fault)
    → ((document : ℕ) → failed fault ≡ failed (faults.Damaged document) → after ≡ before)
    → (failed fault ≡ failed faults.Memory → after ≡ before)
    → (draws_of held.vault.keys ≤ (seen before).assured → failed fault ≡ failed faults.EntropyFailed → ⊥)
    → Acted AreAny (λ _. rewrap_held now held) one_document (objects input files out (seen before))
    (objects input files out (seen after)) (record { number = 0; why = rewrap_why fault })
rewrap_stops seen {before = before} now held (faults.Damaged document) input files out time bytes says same none sure =
    let plan = rewrap_plan (change held.from held.to now) held.vault.bytes held.vault.keys in
    let why = rewrap_why (faults.Damaged document) in
    rw (same document refl) (subst
    (λ (o : Option ℕ). Acted AreAny (λ _. unless_damaged o plan) one_document (objects input files out (seen before))
    (objects input files out (seen before)) (record { number = 0; why = why })) (sym says)
    (acts_fails (finishes.Key (reason_number reasons.KeyDamaged) document)))
rewrap_stops seen {before = before} {after = after} now held faults.EntropyFailed input files out time bytes says same
    none sure =
    let plan = rewrap_plan (change held.from held.to now) held.vault.bytes held.vault.keys in
    let short = says.1 in
    subst
    (λ (o : Option ℕ). Acted AreAny (λ _. unless_damaged o plan) one_document (objects input files out (seen before))
    (objects input files out (seen after)) (record { number = 0; why = whys.Cut cuts.Entropy })) (sym says.0)
    (acts_makes plan refl tt entropy_not_folder
    (λ told left is. did_undrawn plan short.blocks told left _ _ _ short.fewer short.draws is)
    (λ at. absurd (entropy_not_output at)) (λ _. entropy_not_output) (λ _. short.rose) (λ enough _. sure enough refl))
rewrap_stops seen now held faults.Memory input files out time bytes says same none sure = rw (none refl) acts_memory

-- ---- what the words and the files ask for

-- the files lead on to the vault that they hold
pub rewrap_is : (now : ℕ) (words : List (List ℕ)) (all : Files) (x : RewrapFiles) → IsRewrap words all x
    → task now words all ≡ rewrap_held now x
rewrap_is now words all x h =
    let third : List ℕ → List ℕ → KeysFile → Task =
    λ (from to : List ℕ) (keys : KeysFile). rewrap_held now (record { from = from; to = to; vault = keys }) in
    let second : List ℕ → List ℕ → Task =
    λ (from to : List ℕ). with_keys 3 (file_of all h.keys) (third from to) in
    let first : List ℕ → Task =
    λ (from : List ℕ). with_master 2 (file_of all h.to) (second from) in
    let keys : List ℕ → List KeyDoc → Task =
    λ (bytes : List ℕ) (keys : List KeyDoc). third x.from x.to (record { bytes = bytes; keys = keys }) in
    ap (λ (form : Option Form). task_of now form all) (ap form_of h.form
    ∙ rewrap_form_is h.from h.to h.keys h.others.0 h.others.1 h.others.2)
    ∙ leads 1 master_limit all h.from h.from_held.bytes (λ bytes. master_or 1 first (master_in bytes))
    h.from_held.file
    ∙ ap (master_or 1 first) h.from_held.says
    ∙ leads 2 master_limit all h.to h.to_held.bytes (λ bytes. master_or 2 (second x.from) (master_in bytes))
    h.to_held.file
    ∙ ap (master_or 2 (second x.from)) h.to_held.says
    ∙ leads 3 file_limit all h.keys x.vault.bytes (λ bytes. vault_or 3 (keys bytes) (vault bytes)) h.vault_file
    ∙ ap (vault_or 3 (keys x.vault.bytes)) h.vault_says

held_unread : (o : Option ℕ) (plan : Plan) → reads_input (unless_damaged o plan) ≡ false
held_unread None plan = refl
held_unread (Some document) plan = refl

-- and the input isn't read
pub rewrap_unread : (now : ℕ) (words : List (List ℕ)) (all : Files) (x : RewrapFiles) → IsRewrap words all x
    → reads_input (task now words all) ≡ false
rewrap_unread now words all x h =
    ap reads_input (rewrap_is now words all x h) ∙ held_unread (first_damaged x.from x.vault.keys) _

-- ---- a run that is done

abbrev NotRefused : Status → Type 0
NotRefused statuses.Refused = ⊥
NotRefused status = Unit {0}

-- a run that is done has no damaged key
undamaged : (o : Option ℕ) (plan : Plan) {told : List ℕ} {after : Option (List ℕ)}
    {entropy entropy_after : EntropySeen} {out out_after : SinkSeen} {number : ℕ} {why : Why}
    → Did (unless_damaged o plan) told after entropy entropy_after out out_after number why
    → status_of why ≡ statuses.Done → o ≡ None
undamaged None plan did done = refl
undamaged (Some document) plan did done =
    let same = settled_status did.ran (subst IsSettled (sym done) tt) in
    absurd (subst NotRefused (sym done ∙ same) tt)

-- the output has all blocks that were drawn
all_written : (plan : Plan) (drawn : List Block) → length drawn ≡ plan.draws
    → written (output_of plan ∷ []) drawn ≡ plan.bytes drawn
all_written plan drawn enough =
    append-nil (plan.bytes (take plan.draws drawn)) ∙ ap plan.bytes (take_all plan.draws drawn (omega (arith, enough)))

-- a run of `rewrap` that is done wrote the vault under the new master key
pub rewrites : (now : ℕ) (words : List (List ℕ)) (all : Files) (x : RewrapFiles) {told : List ℕ}
    {after : Option (List ℕ)} {entropy entropy_after : EntropySeen} {out out_after : SinkSeen} {number : ℕ} {why : Why}
    → IsRewrap words all x → All (λ b. b < 256) x.vault.bytes
    → Did (task now words all) told after entropy entropy_after out out_after number why
    → status_of why ≡ statuses.Done → RewritesVault now x entropy entropy_after out out_after
rewrites now words all x {told = told} {entropy = entropy} {entropy_after = entropy_after} {out = out}
    {out_after = out_after} h bytes ran done =
    let c = change x.from x.to now in
    let plan = rewrap_plan c x.vault.bytes x.vault.keys in
    let did = did_task (sym (rewrap_is now words all x h)) ran in
    let none = undamaged (first_damaged x.from x.vault.keys) plan did done in
    let is : rewrap_held now x ≡ makes plan = ap (λ (o : Option ℕ). unless_damaged o plan) none in
    let w : Whole (outcome_of (makes plan) told) entropy entropy_after out out_after =
    whole_of (did_task (sym is) did).ran (subst IsSettled (sym done) tt) in
    let number : length w.drawn ≡ draws_of x.vault.keys = omega (arith, w.enough) in
    record {
      blocks = w.drawn;
      number = number;
      draws = w.draws;
      undamaged = none;
      gains =
          subst (λ (more : List ℕ). Gains out.told out_after.told more) (all_written plan w.drawn number) w.gains;
      reloads =
          (file_renewed c x.vault.bytes x.vault.keys w.drawn bytes h.vault_says none w.draws.blocks
          (omega (arith, number))).reloads;
    }
