-- What a run of `encrypt-with` wrote: the sealed form of each accepted command whose reply is right.
use Rattle.std.proofs.Common.{◌≡◌, ℕ, ◌+◌, ◌^◌, ◌<◌, ◌∙◌, Bool, true, false, cond, nat_lt, Option, Some, None, List, []}
use Rattle.std.proofs.Common.{◌∷◌, length, refl, sym, ap, subst, arith}
use Rattle.std.specs.Prelude.{◌&&◌, not, is_none}
use Rattle.std.proofs.lemmas.Bool.{false≢true}
use Rattle.std.proofs.lemmas.Bool.Decides.{nat_tests}
use Rattle.std.specs.List.{All}
use Rattle.bson_tree.specs.Spelling.{doc_bytes}
use Rattle.bson_tree.specs.Tree.{Items}
use Rattle.context_machine.specs.Rings.{Finder, first_keyless, needs_of}
use Rattle.doc_rewrite.specs.Sites.{at_front, grown}
use Rattle.encrypt_schema.specs.Commands.Targets.{rows_of, verdict}
use Rattle.encrypt_schema.specs.Commands.Visits.{Refusal}
use Rattle.encrypt_schema.specs.Language.Collection.{Collection}
use Rattle.fle_engine.specs.Checking.{wrong_to}
use Rattle.fle_outside.specs.Limits.{output_limit}
use Rattle.fle_outside.specs.Files.{Files}
use Rattle.fle_outside.specs.Seen.{EntropySeen, SinkSeen}
use Rattle.fle_stream.specs.Codes.{status_of}
use Rattle.fle_stream.specs.Did.{Did}
use Rattle.fle_stream.specs.Ended.{Whole}
use Rattle.fle_stream.specs.Outcome.{Outcome, finished}
use Rattle.fle_stream.specs.Pairs.{Pairing, Refused, answer_limit, answered, paired, unanswered, unless_refused}
use Rattle.fle_stream.specs.Pairs.{within_limit}
use Rattle.fle_stream.specs.Plan.{Output}
use Rattle.fle_stream.specs.Run.{Ran}
use Rattle.fle_stream.specs.Streams.{Docs, Rest, doc, document_limit, documents_within, ends, nothing, over, faulty}
use Rattle.fle_stream.specs.Task.{Task, outcome_of, pairs}
use Rattle.fle_stream.specs.declared.status.Status.{Status}
use Rattle.fle_stream.specs.declared.why.Bound.TheVariants as bounds
use Rattle.fle_stream.specs.declared.why.Finish.TheVariants as finishes
use Rattle.fle_stream.specs.declared.why.Number.{Number}
use Rattle.fle_stream.specs.declared.why.Why.{Why}
use Rattle.fle_stream.proofs.Programs.{did_task}
use Rattle.fle_runner.specs.EncryptWith.{encrypt_pairing, refused_as, wrong_as}
use Rattle.fle_runner.specs.Headline.{AreByUuid, SealsAllOf, SealsFirstOf, Setup}
use Rattle.fle_runner.specs.Headline.{sites_in, verdict_of}
use Rattle.fle_runner.specs.HeadlinePairs.{IsEncryptWith, accepted_pairs, commands_in, pairing_of}
use Rattle.fle_runner.specs.Verbs.{task, task_of}
use Rattle.fle_words.specs.Words.{Form, form_of}
use Rattle.fle_words.proofs.OtherForms.{encrypt_with_form_is}
use Rattle.fle_runner.proofs.Accepted.{one}
use Rattle.fle_runner.proofs.HeadlineFiles.{files_lead_to, held_uuids}
use Rattle.fle_runner.proofs.HeadlineOutputs.{AreOutputs, made_judged, made_within, seals_all_of, seals_first_of}
use Rattle.fle_runner.proofs.HeadlineReads.{AreRead, pairs_read}
use Rattle.fle_runner.proofs.IfAccepted.{if_accepted, in_time}
use Rattle.reply_check.specs.declared.wrong.WrongReply.{WrongReply}

-- ---- pairs that are accepted, by how they are judged

-- these commands, where this document isn't refused, which else ends the run
abbrev pub unless_stopped : Refused → List Items → List Items
unless_stopped (Some why) cs = []
unless_stopped None cs = cs

-- the commands of the pairs before the first one that a run refuses
unfoldable pub judged_pairs : Pairing → ℕ → Docs → List Items
judged_pairs w taken (ends rest) = []
judged_pairs w taken (doc n c (ends rest)) = []
judged_pairs w taken (doc n c (doc m r docs)) =
    in_time taken (unless_stopped (w.opens c) (in_time (taken + n) (unless_stopped (w.answers c r)
    (if_accepted (w.comes c) c (judged_pairs w (taken + (n + m)) docs)))))

-- one pair: whether the command is begun in time, and the reply; what refuses the command, and is wrong with the reply;
-- whether the command has its keys and isn't too long
by_pair : (early late : Bool) → (late ≡ true → early ≡ true) → (v : Option Refusal) (w : Option WrongReply)
    (keyed short : Bool) (c r : Items) (cs : List Items)
    → cond early (unless_stopped (refused_as c v) (cond late (unless_stopped (wrong_as r w)
    (cond (is_none v && keyed && short) cs [])) [])) []
    ≡ cond (late && (is_none v && keyed && short) && is_none w) cs []
by_pair false true before v w keyed short c r cs = absurd (false≢true (before refl))
by_pair false false before v w keyed short c r cs = refl
by_pair true false before (Some q) w keyed short c r cs = refl
by_pair true false before None w keyed short c r cs = refl
by_pair true true before (Some q) w keyed short c r cs = refl
by_pair true true before None (Some q) true true c r cs = refl
by_pair true true before None (Some q) true false c r cs = refl
by_pair true true before None (Some q) false short c r cs = refl
by_pair true true before None None true true c r cs = refl
by_pair true true before None None true false c r cs = refl
by_pair true true before None None false short c r cs = refl

-- a reply that is begun in time is behind a command that is
earlier : (taken n : ℕ) → nat_lt (taken + n) (2 ^ 40) ≡ true → nat_lt taken (2 ^ 40) ≡ true
earlier taken n late = grind (arith, nat_tests)

-- they are those that are accepted
pairs_are : (x : Setup) (taken : ℕ) (docs : Docs)
    → judged_pairs (pairing_of x) taken docs ≡ accepted_pairs x taken docs
unfolding judged_pairs accepted_pairs encrypt_pairing
pairs_are x taken (ends rest) = refl
pairs_are x taken (doc n c (ends rest)) = refl
pairs_are x taken (doc n c (doc m r docs)) =
    let rest = accepted_pairs x (taken + (n + m)) docs in
    ap (λ (cs : List Items). in_time taken (unless_stopped (refused_as c (verdict x.db x.infos 0 c)) (in_time
    (taken + n) (unless_stopped (wrong_as r (wrong_to x.infos c r)) cs))))
    (ap (if_accepted (verdict_of x c) c) (pairs_are x (taken + (n + m)) docs) ∙ one x c rest)
    ∙ by_pair (nat_lt taken (2 ^ 40)) (nat_lt (taken + n) (2 ^ 40)) (earlier taken n) (verdict x.db x.infos 0 c)
    (wrong_to x.infos c r) (is_none (first_keyless x.keys (needs_of (rows_of x.infos c) (at_front c))))
    (not (nat_lt output_limit (length (doc_bytes c) + grown (sites_in x c)))) c r (c ∷ rest)

-- ---- the outputs of accepted pairs

abbrev too_late : ℕ → ℕ → Outcome
too_late number used = finished (finishes.Limit bounds.Stream) number used

within_none : (taken number used : ℕ) (o : Outcome) → o.outputs ≡ [] → (within_limit taken number used o).outputs ≡ []
within_none taken number used o none =
    elim (nat_lt taken (2 ^ 40)) as (λ b. (cond b o (too_late number used)).outputs ≡ [])
    [ true ↦ none | false ↦ refl ]

refused_none : (r : Refused) (number used : ℕ) (o : Outcome) → o.outputs ≡ []
    → (unless_refused r number used o).outputs ≡ []
refused_none (Some why) number used o none = refl
refused_none None number used o none = none

unanswered_none : (missing : Number) (rest : Rest) (number n : ℕ) → (unanswered missing rest number n).outputs ≡ []
unanswered_none missing nothing number n = refl
unanswered_none missing over number n = refl
unanswered_none missing (faulty m fault) number n = refl

module _ (x : Setup) (w : Pairing) (same : (c : Items) → w.comes c ≡ verdict_of x c) where
  made_unless : (r : Refused) (number used : ℕ) (cs : List Items) (o : Outcome) → AreOutputs x cs o.outputs
      → AreOutputs x (unless_stopped r cs) (unless_refused r number used o).outputs
  made_unless (Some why) number used cs o made = tt
  made_unless None number used cs o made = made

  -- the commands of pairs that are accepted are those of the outputs
  pub pairs_made : (number taken : ℕ) (docs : Docs) → AreRead docs
      → AreOutputs x (judged_pairs w taken docs) (paired w number taken docs).outputs
  unfolding paired answered judged_pairs
  pairs_made number taken (ends rest) read =
      subst (λ (os : List Output). AreOutputs x [] os) (sym (within_none taken number 0 _ refl)) tt
  pairs_made number taken (doc n c (ends rest)) read =
      subst (λ (os : List Output). AreOutputs x [] os)
      (sym (within_none taken number 0 _ (refused_none (w.opens c) number n _
      (within_none (taken + n) (number + 1) n _ (unanswered_none w.missing rest number n))))) tt
  pairs_made number taken (doc n c (doc m r docs)) read =
      made_within x taken number 0 _ _ (made_unless (w.opens c) number n _ _
      (made_within x (taken + n) (number + 1) n _ _ (made_unless (w.answers c r) (number + 1) (n + m) _ _
      (made_judged x (w.comes c) number 2 (n + m) c _ _ (omega arith) read.0.bytes (sym (same c))
      (pairs_made (number + 2) (taken + (n + m)) docs read.1.1)))))

-- ---- the stream

comes_same : (x : Setup) (c : Items) → (pairing_of x).comes c ≡ verdict_of x c
unfolding encrypt_pairing
comes_same x c = refl

stream_made : (x : Setup) (told : List ℕ) → All (λ b. b < 256) told
    → AreOutputs x (commands_in x told) (outcome_of (pairs (pairing_of x)) told).outputs
stream_made x told all =
    let docs = documents_within document_limit answer_limit told in
    subst (λ (cs : List Items). AreOutputs x cs (outcome_of (pairs (pairing_of x)) told).outputs) (pairs_are x 0 docs)
    (pairs_made x (pairing_of x) (comes_same x) 1 0 docs (pairs_read told all))

-- what a run wrote whose outputs were all written whole
pub pairs_sealed : (x : Setup) (told : List ℕ) (entropy entropy_after : EntropySeen) (out out_after : SinkSeen)
    → AreByUuid x.keys → All (λ b. b < 256) told
    → Whole (outcome_of (pairs (pairing_of x)) told) entropy entropy_after out out_after
    → SealsAllOf x (commands_in x told) entropy entropy_after out out_after
pairs_sealed x told entropy entropy_after out out_after uuids all w =
    seals_all_of x (commands_in x told) (outcome_of (pairs (pairing_of x)) told) entropy entropy_after out out_after
    uuids (stream_made x told all) w

-- and one that something cut short
pub pairs_first : (x : Setup) (told : List ℕ) {after : Option (List ℕ)} {spans : List ℕ
    → List ℕ} {entropy entropy_after : EntropySeen} {out out_after : SinkSeen} {number : ℕ} {why : Why}
    {status : Status} → AreByUuid x.keys → All (λ b. b < 256) told → status ≡ status_of why
    → Ran (outcome_of (pairs (pairing_of x)) told) 1 told after spans entropy entropy_after out out_after number why
    → SealsFirstOf x (commands_in x told) status entropy entropy_after out out_after
pairs_first x told uuids all is ran =
    seals_first_of x (commands_in x told) (outcome_of (pairs (pairing_of x)) told) uuids (stream_made x told all) is ran

-- ---- the words and the files

-- they ask that pairs be judged
pub pairs_task : (now : ℕ) (words : List (List ℕ)) (all : Files) (x : Setup) → IsEncryptWith words all x
    → task now words all ≡ pairs (pairing_of x)
pairs_task now words all x h =
    ap (λ (form : Option Form). task_of now form all) (ap form_of h.form
    ∙ encrypt_with_form_is x.db h.keys h.schemas h.master h.database.0 h.database.1 h.others.0 h.others.1 h.others.2)
    ∙ files_lead_to all h.keys h.schemas h.master x
    (λ (ks : Finder) (infos : List Collection). pairs (encrypt_pairing ks infos x.db)) h.files

pub encrypts_pairs : (now : ℕ) (words : List (List ℕ)) (all : Files) (told : List ℕ) (x : Setup)
    (entropy entropy_after : EntropySeen) (out out_after : SinkSeen)
    → IsEncryptWith words all x → All (λ b. b < 256) told
    → Whole (outcome_of (task now words all) told) entropy entropy_after out out_after
    → SealsAllOf x (commands_in x told) entropy entropy_after out out_after
encrypts_pairs now words all told x entropy entropy_after out out_after h bytes w =
    pairs_sealed x told entropy entropy_after out out_after (held_uuids all h.keys h.schemas h.master x h.files) bytes
    (subst (λ (t : Task). Whole (outcome_of t told) entropy entropy_after out out_after) (pairs_task now words all x h)
    w)

pub encrypts_pairs_first : (now : ℕ) (words : List (List ℕ)) (all : Files) (told : List ℕ) (x : Setup)
    {after : Option (List ℕ)} {entropy entropy_after : EntropySeen} {out out_after : SinkSeen} {number : ℕ} {why : Why}
    {status : Status} → IsEncryptWith words all x → All (λ b. b < 256) told → status ≡ status_of why
    → Did (task now words all) told after entropy entropy_after out out_after number why
    → SealsFirstOf x (commands_in x told) status entropy entropy_after out out_after
encrypts_pairs_first now words all told x h bytes is did =
    pairs_first x told (held_uuids all h.keys h.schemas h.master x h.files) bytes is
    (did_task (sym (pairs_task now words all x h)) did).ran
