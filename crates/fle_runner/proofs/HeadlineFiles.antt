-- Where the files of the words say what commands are sealed and opened under, each command is sealed under it, and
-- opened again.
use Rattle.std.proofs.Common.{◌≡◌, ℕ, ◌∙◌, ◌^◌, false, nat_lt, Option, Some, List, [], ◌∷◌, length, refl, sym, ap}
use Rattle.std.proofs.Common.{subst, arith, ◌<◌}
use Rattle.std.specs.List.{All}
use Rattle.std.proofs.lemmas.Bool.Decides.{nat_tests}
use Rattle.bson_tree.specs.Tree.{Items}
use Rattle.encrypt_schema.specs.Language.Collection.{Collection}
use Rattle.context_machine.proofs.FoundKeys.{all_found}
use Rattle.context_machine.proofs.Vaults.{distinct_ids, loaded_distinct}
use Rattle.context_machine.specs.Rings.{Finder, finder, found_in, ring}
use Rattle.data_key.specs.declared.key_doc.KeyDoc.{KeyDoc}
use Rattle.doc_rewrite.specs.Opened.{HasAll, Keyring}
use Rattle.fle_outside.specs.Blocks.{Block}
use Rattle.fle_outside.specs.Files.{Files, file_of}
use Rattle.fle_outside.specs.Seen.{EntropySeen, Gains, SinkSeen}
use Rattle.fle_stream.specs.Codes.{status_of}
use Rattle.fle_stream.specs.Did.{Did}
use Rattle.fle_stream.specs.Ended.{Whole}
use Rattle.fle_stream.specs.declared.status.Status.{Status}
use Rattle.fle_stream.specs.declared.why.Why.{Why}
use Rattle.fle_stream.proofs.Programs.{did_task}
use Rattle.fle_stream.specs.Outcome.{Outcome}
use Rattle.fle_stream.specs.Plan.{draws_of, written}
use Rattle.fle_stream.specs.Task.{Task, each, outcome_of, with_file}
use Rattle.key_vault.specs.Loading.{vault}
use Rattle.local_kms.specs.Master.{master_in}
use Rattle.fle_runner.specs.Decrypt.{decrypt_task, decrypt_verdict}
use Rattle.fle_runner.specs.Encrypt.{encrypt_verdict}
use Rattle.fle_runner.specs.Headline.{AreByUuid, AreReadable, AreSealedUnder, OpensAgain, SealsFirst}
use Rattle.fle_runner.specs.Headline.{SealsStream, Setup, verdict_of}
use Rattle.fle_runner.specs.HeadlineFiles.{HoldKeys, HoldSetup, HoldsBytes, IsDecrypt, IsEncrypt, IsMark}
use Rattle.fle_runner.specs.Mark.{mark_verdict}
use Rattle.fle_files.specs.Infos.{infos_read}
use Rattle.fle_runner.specs.ReadBack.{outputs_back, read_whole, stream}
use Rattle.fle_files.specs.Limits.{file_limit, master_limit}
use Rattle.fle_files.specs.Setup.{infos_or, master_or, vault_or}
use Rattle.fle_files.specs.Setup.{with_infos, with_master, with_vault}
use Rattle.fle_runner.specs.Verbs.{task, task_of}
use Rattle.fle_words.specs.Words.{Form, decrypt, encrypt, form_of}
use Rattle.fle_words.proofs.Forms.{decrypt_form_is, encrypt_form_is}
use Rattle.fle_files.proofs.InfosRead.{infos_are}
use Rattle.fle_runner.proofs.Backs.{reads_back, writes_back}
use Rattle.fle_runner.proofs.HeadlineBack.{come_back}
use Rattle.fle_runner.proofs.HeadlineFronts.{seals_first, seals_stream}
use Rattle.fle_runner.proofs.HeadlineKeys.{vault_uuids}

-- a file that is there and within its limit leads on
pub leads : (number limit : ℕ) (all : Files) (name bytes : List ℕ) (next : List ℕ → Task)
    → HoldsBytes all name limit bytes → with_file number limit (file_of all name) next ≡ next bytes
leads number limit all name bytes next held =
    let within = held.within in
    let short : nat_lt limit (length bytes) ≡ false = grind (arith, nat_tests) in
    ap (λ (file : Option (List ℕ)). with_file number limit file next) held.there ∙ rw short refl

-- a task by what the files hold
pub files_lead_to : (all : Files) (keys schemas master : List ℕ) (x : Setup) (to : Finder → List Collection → Task)
    → HoldSetup all keys schemas master x
    → with_vault 1 (file_of all keys) (λ held. with_infos 2 (file_of all schemas) (λ infos.
    with_master 3 (file_of all master) (λ key. to (finder held key) infos)))
    ≡ to x.keys x.infos
files_lead_to all keys schemas master x to h =
    let k = h.held in
    let third : List KeyDoc → List Collection → List ℕ → Task =
    λ (held : List KeyDoc) (infos : List Collection) (key : List ℕ). to (finder held key) infos in
    let second : List KeyDoc → List Collection → Task =
    λ (held : List KeyDoc) (infos : List Collection). with_master 3 (file_of all master) (third held infos) in
    let first : List KeyDoc → Task =
    λ (held : List KeyDoc). with_infos 2 (file_of all schemas) (second held) in
    leads 1 file_limit all keys k.vault_bytes (λ bytes. vault_or 1 first (vault bytes)) k.vault_file
    ∙ ap (vault_or 1 first) k.vault_says
    ∙ leads 2 file_limit all schemas h.schemas_bytes (λ bytes. infos_or 2 (second k.vault_keys) (infos_read bytes))
    h.schemas_file
    ∙ ap (infos_or 2 (second k.vault_keys)) (infos_are h.schemas_bytes x.infos h.schemas_say)
    ∙ leads 3 master_limit all master k.master_bytes (λ bytes. master_or 3 (third k.vault_keys x.infos)
    (master_in bytes))
    k.master_file
    ∙ ap (master_or 3 (third k.vault_keys x.infos)) k.master_says
    ∙ ap (λ (ks : Finder). to ks x.infos) (sym k.finds)

-- what each command of the run comes to
pub files_lead : (all : Files) (keys schemas master : List ℕ) (x : Setup) → HoldSetup all keys schemas master x
    → with_vault 1 (file_of all keys) (λ held. with_infos 2 (file_of all schemas) (λ infos.
    with_master 3 (file_of all master) (λ key. each (encrypt_verdict (finder held key) infos x.db))))
    ≡ each (verdict_of x)
files_lead all keys schemas master x h =
    files_lead_to all keys schemas master x
    (λ (ks : Finder) (infos : List Collection). each (encrypt_verdict ks infos x.db)) h

-- the data keys are had by UUIDs
pub held_uuids : (all : Files) (keys schemas master : List ℕ) (x : Setup) → HoldSetup all keys schemas master x
    → AreByUuid x.keys
held_uuids all keys schemas master x h =
    let k = h.held in
    subst AreByUuid (sym k.finds) (vault_uuids k.vault_bytes k.master_key k.vault_keys k.vault_says)

-- the words have the form of `encrypt`
encrypt_asked : (words : List (List ℕ)) (all : Files) (x : Setup) (h : IsEncrypt words all x)
    → form_of words ≡ Some (encrypt x.db h.keys h.schemas h.master)
encrypt_asked words all x h =
    ap form_of h.form
    ∙ encrypt_form_is x.db h.keys h.schemas h.master h.database.0 h.database.1 h.others.0 h.others.1 h.others.2

-- words and files ask that each command be sealed
pub task_is : (now : ℕ) (words : List (List ℕ)) (all : Files) (x : Setup) → IsEncrypt words all x
    → task now words all ≡ each (verdict_of x)
task_is now words all x h =
    ap (λ (form : Option Form). task_of now form all) (encrypt_asked words all x h)
    ∙ files_lead all h.keys h.schemas h.master x h.files

-- or that each be marked
pub mark_is : (now : ℕ) (words : List (List ℕ)) (all : Files) (db : List ℕ) (infos : List Collection)
    → IsMark words all db infos → task now words all ≡ each (mark_verdict infos db)
mark_is now words all db infos h =
    let next : List Collection → Task = λ (held : List Collection). each (mark_verdict held db) in
    ap (λ (form : Option Form). task_of now form all) h.form
    ∙ leads 1 file_limit all h.schemas h.schemas_bytes (λ bytes. infos_or 1 next (infos_read bytes)) h.schemas_file
    ∙ ap (infos_or 1 next) (infos_are h.schemas_bytes infos h.schemas_say)

-- what a run of `encrypt` wrote whose outputs were all written
pub encrypts : (now : ℕ) (words : List (List ℕ)) (all : Files) (told : List ℕ) (x : Setup)
    (entropy entropy_after : EntropySeen) (out out_after : SinkSeen)
    → IsEncrypt words all x → All (λ b. b < 256) told
    → Whole (outcome_of (task now words all) told) entropy entropy_after out out_after
    → SealsStream x told entropy entropy_after out out_after
encrypts now words all told x entropy entropy_after out out_after h bytes w =
    seals_stream x told entropy entropy_after out out_after (held_uuids all h.keys h.schemas h.master x h.files) bytes
    (subst (λ (t : Task). Whole (outcome_of t told) entropy entropy_after out out_after) (task_is now words all x h) w)

-- and of one that something cut short
pub encrypts_first : (now : ℕ) (words : List (List ℕ)) (all : Files) (told : List ℕ) (x : Setup)
    {after : Option (List ℕ)} {entropy entropy_after : EntropySeen} {out out_after : SinkSeen} {number : ℕ} {why : Why}
    {status : Status} → IsEncrypt words all x → All (λ b. b < 256) told → status ≡ status_of why
    → Did (task now words all) told after entropy entropy_after out out_after number why
    → SealsFirst x told status entropy entropy_after out out_after
encrypts_first now words all told x h bytes is did =
    seals_first x told (held_uuids all h.keys h.schemas h.master x h.files) bytes is
    (did_task (sym (task_is now words all x h)) did).ran

-- words and files ask that each document be opened
keys_lead : (all : Files) (keys master : List ℕ) (x : Setup) → HoldKeys all keys master x
    → decrypt_task (file_of all keys) (file_of all master) ≡ each (decrypt_verdict x.opens)
keys_lead all keys master x h =
    let second : List KeyDoc → List ℕ → Task =
    λ (held : List KeyDoc) (key : List ℕ). each (decrypt_verdict (ring held key)) in
    let first : List KeyDoc → Task =
    λ (held : List KeyDoc). with_master 2 (file_of all master) (second held) in
    leads 1 file_limit all keys h.vault_bytes (λ bytes. vault_or 1 first (vault bytes)) h.vault_file
    ∙ ap (vault_or 1 first) h.vault_says
    ∙ leads 2 master_limit all master h.master_bytes (λ bytes. master_or 2 (second h.vault_keys) (master_in bytes))
    h.master_file
    ∙ ap (master_or 2 (second h.vault_keys)) h.master_says
    ∙ ap (λ (ks : Keyring). each (decrypt_verdict ks)) (sym h.opens)

-- the words have the form of `decrypt`
decrypt_asked : (words : List (List ℕ)) (all : Files) (x : Setup) (h : IsDecrypt words all x)
    → form_of words ≡ Some (decrypt h.keys h.master)
decrypt_asked words all x h = ap form_of h.form ∙ decrypt_form_is h.keys h.master h.others.0 h.others.1

opening_is : (now : ℕ) (words : List (List ℕ)) (all : Files) (x : Setup) → IsDecrypt words all x
    → task now words all ≡ each (decrypt_verdict x.opens)
opening_is now words all x h =
    ap (λ (form : Option Form). task_of now form all) (decrypt_asked words all x h)
    ∙ keys_lead all h.keys h.master x h.files

-- each data key that is had for sealing is had by its id for opening
pub opens_held : (all : Files) (keys master : List ℕ) (x : Setup) → HoldKeys all keys master x → OpensAgain x
opens_held all keys master x h =
    let again : HasAll (ring h.vault_keys h.master_key) (found_in (finder h.vault_keys h.master_key)) =
    all_found h.vault_keys h.master_key
    (distinct_ids h.vault_keys (loaded_distinct h.vault_bytes h.vault_keys h.vault_says)) in
    subst (λ (opened : Keyring). HasAll opened (found_in x.keys)) (sym h.opens)
    (subst (λ (found : Finder). HasAll (ring h.vault_keys h.master_key) (found_in found)) (sym h.finds) again)

-- what a run of `decrypt` over sealed commands comes to
pub decrypts : (now : ℕ) (words : List (List ℕ)) (all : Files) (x : Setup) (commands : List Items)
    (blocks : List Block) (sealed : List Items)
    → IsDecrypt words all x → AreSealedUnder x commands blocks sealed
    → AreReadable x commands sealed → length (stream sealed) < 2 ^ 40
    → outcome_of (task now words all) (stream sealed) ≡ read_whole commands sealed
decrypts now words all x commands blocks sealed h each_sealed readable few =
    ap (λ (t : Task). outcome_of t (stream sealed)) (opening_is now words all x h)
    ∙ reads_back (decrypt_verdict x.opens) commands sealed
    (come_back x commands blocks sealed (opens_held all h.keys h.master x h.files) each_sealed readable) few

-- opening draws no block
no_draws : (commands sealed : List Items) → draws_of (outputs_back commands sealed) ≡ 0
no_draws [] sealed = refl
no_draws (c ∷ cs) [] = refl
no_draws (c ∷ cs) (d ∷ ds) =
    let none = no_draws cs ds in
    omega (arith, none)

no_block : (blocks : List Block) → length blocks ≡ 0 → blocks ≡ []
no_block [] none = refl
no_block (b ∷ bs) none = absurd cc

-- so the commands are what is written
pub opened_gains : (x : Setup) (commands : List Items) (blocks : List Block) (sealed : List Items) (o : Outcome)
    (entropy entropy_after : EntropySeen) (out out_after : SinkSeen)
    → OpensAgain x → AreSealedUnder x commands blocks sealed → AreReadable x commands sealed
    → o ≡ read_whole commands sealed
    → Whole o entropy entropy_after out out_after → Gains out.told out_after.told (stream commands)
opened_gains x commands blocks sealed o entropy entropy_after out out_after had each_sealed readable is w =
    let comes = come_back x commands blocks sealed had each_sealed readable in
    let none : length w.drawn ≡ 0 =
    w.enough ∙ (ap (λ (p : Outcome). draws_of p.outputs) is ∙ no_draws commands sealed) in
    let bytes : written o.outputs w.drawn ≡ stream commands =
    ap (λ (p : Outcome). written p.outputs w.drawn) is
    ∙ (ap (λ (bs : List Block). written (read_whole commands sealed).outputs bs) (no_block w.drawn none)
    ∙ writes_back (decrypt_verdict x.opens) commands sealed comes) in
    subst (λ (more : List ℕ). Gains out.told out_after.told more) bytes w.gains
