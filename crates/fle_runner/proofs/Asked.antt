-- What is so of a run by the words that were given.
use Rattle.std.proofs.Common.{◌≡◌, ℕ, ◌≤◌, ◌⊎◌, List, Option, Some, None, refl, subst, sym}
use Rattle.fle_outside.specs.Counts.{Rose}
use Rattle.fle_outside.specs.Files.{Files}
use Rattle.fle_outside.specs.Seen.{AsksOnly, EntropySeen, FolderSeen, SourceSeen}
use Rattle.fle_stream.specs.Acted.{Acted, Objects}
use Rattle.fle_stream.specs.Codes.{status_of}
use Rattle.fle_stream.specs.Turn.{IsOfStream}
use Rattle.fle_stream.specs.declared.end.End.{End}
use Rattle.fle_stream.specs.declared.status.Status.{Status}
use Rattle.fle_stream.specs.declared.status.Status.TheVariants as statuses
use Rattle.fle_stream.specs.declared.why.Cut.TheVariants as cuts
use Rattle.fle_stream.specs.declared.why.Finish.TheVariants as finishes
use Rattle.fle_stream.specs.declared.why.Why.{Why}
use Rattle.fle_stream.specs.declared.why.Why.TheVariants as whys
use Rattle.fle_words.specs.Words.{Form, mark, show, keys, keygen, encrypt, encrypt_with, decrypt, demo, rewrap}
use Rattle.fle_runner.specs.Keygen.{DrawsEight, IsOfKeygen}
use Rattle.fle_runner.specs.Keys.{IsOfKeys, IsOfText}
use Rattle.fle_runner.specs.Rewrap.{IsOfRewrap}
use Rattle.fle_runner.specs.Statuses.{EndsByVerb, IsUndrawn, IsUnwritten}
use Rattle.fle_runner.specs.Verbs.{AreShown, files_of, pace_for, task_of}
use Rattle.fle_runner.proofs.VerbEnds.{encrypt_status, keygen_status, keys_status, show_status, text_status}
use Rattle.fle_runner.proofs.VerbEnds.{rewrap_status, undrawn_status}

-- ---- statuses and the ends that have them

abbrev NotRead : Status → Type 0
NotRead statuses.ReadFault = ⊥
NotRead status = Unit {0}

-- with 5 a named file or the input failed
pub of_read : (why : Why) (P : Type 0) → (why ≡ whys.Cut cuts.Folder → P) → (why ≡ whys.Cut cuts.Input → P)
    → status_of why ≡ statuses.ReadFault → P
of_read (whys.Finished finishes.Done) P folder input at = absurd (subst NotRead at tt)
of_read (whys.Finished (finishes.Refused reason place)) P folder input at = absurd (subst NotRead at tt)
of_read (whys.Finished (finishes.Malformed fault)) P folder input at = absurd (subst NotRead at tt)
of_read (whys.Finished (finishes.Limit bound)) P folder input at = absurd (subst NotRead at tt)
of_read (whys.Finished finishes.Words) P folder input at = absurd (subst NotRead at tt)
of_read (whys.Finished (finishes.Setup file fault document)) P folder input at = absurd (subst NotRead at tt)
of_read (whys.Finished (finishes.Key reason document)) P folder input at = absurd (subst NotRead at tt)
of_read (whys.Cut cuts.Folder) P folder input at = folder refl
of_read (whys.Cut cuts.Input) P folder input at = input refl
of_read (whys.Cut cuts.Output) P folder input at = absurd (subst NotRead at tt)
of_read (whys.Cut cuts.Entropy) P folder input at = absurd (subst NotRead at tt)
of_read (whys.Cut cuts.Memory) P folder input at = absurd (subst NotRead at tt)

abbrev NotWrite : Status → Type 0
NotWrite statuses.WriteFault = ⊥
NotWrite status = Unit {0}

-- with 6 the output failed
pub of_write : (why : Why) → status_of why ≡ statuses.WriteFault → why ≡ whys.Cut cuts.Output
of_write (whys.Finished finishes.Done) at = absurd (subst NotWrite at tt)
of_write (whys.Finished (finishes.Refused reason place)) at = absurd (subst NotWrite at tt)
of_write (whys.Finished (finishes.Malformed fault)) at = absurd (subst NotWrite at tt)
of_write (whys.Finished (finishes.Limit bound)) at = absurd (subst NotWrite at tt)
of_write (whys.Finished finishes.Words) at = absurd (subst NotWrite at tt)
of_write (whys.Finished (finishes.Setup file fault document)) at = absurd (subst NotWrite at tt)
of_write (whys.Finished (finishes.Key reason document)) at = absurd (subst NotWrite at tt)
of_write (whys.Cut cuts.Folder) at = absurd (subst NotWrite at tt)
of_write (whys.Cut cuts.Input) at = absurd (subst NotWrite at tt)
of_write (whys.Cut cuts.Output) at = refl
of_write (whys.Cut cuts.Entropy) at = absurd (subst NotWrite at tt)
of_write (whys.Cut cuts.Memory) at = absurd (subst NotWrite at tt)

abbrev NotEntropy : Status → Type 0
NotEntropy statuses.EntropyFault = ⊥
NotEntropy status = Unit {0}

-- with 7 a block couldn't be drawn
pub of_entropy : (why : Why) → status_of why ≡ statuses.EntropyFault → why ≡ whys.Cut cuts.Entropy
of_entropy (whys.Finished finishes.Done) at = absurd (subst NotEntropy at tt)
of_entropy (whys.Finished (finishes.Refused reason place)) at = absurd (subst NotEntropy at tt)
of_entropy (whys.Finished (finishes.Malformed fault)) at = absurd (subst NotEntropy at tt)
of_entropy (whys.Finished (finishes.Limit bound)) at = absurd (subst NotEntropy at tt)
of_entropy (whys.Finished finishes.Words) at = absurd (subst NotEntropy at tt)
of_entropy (whys.Finished (finishes.Setup file fault document)) at = absurd (subst NotEntropy at tt)
of_entropy (whys.Finished (finishes.Key reason document)) at = absurd (subst NotEntropy at tt)
of_entropy (whys.Cut cuts.Folder) at = absurd (subst NotEntropy at tt)
of_entropy (whys.Cut cuts.Input) at = absurd (subst NotEntropy at tt)
of_entropy (whys.Cut cuts.Output) at = absurd (subst NotEntropy at tt)
of_entropy (whys.Cut cuts.Entropy) at = refl
of_entropy (whys.Cut cuts.Memory) at = absurd (subst NotEntropy at tt)

abbrev NotMemory : Status → Type 0
NotMemory statuses.Memory = ⊥
NotMemory status = Unit {0}

-- and with 8 memory ran out
pub of_memory : (why : Why) → status_of why ≡ statuses.Memory → why ≡ whys.Cut cuts.Memory
of_memory (whys.Finished finishes.Done) at = absurd (subst NotMemory at tt)
of_memory (whys.Finished (finishes.Refused reason place)) at = absurd (subst NotMemory at tt)
of_memory (whys.Finished (finishes.Malformed fault)) at = absurd (subst NotMemory at tt)
of_memory (whys.Finished (finishes.Limit bound)) at = absurd (subst NotMemory at tt)
of_memory (whys.Finished finishes.Words) at = absurd (subst NotMemory at tt)
of_memory (whys.Finished (finishes.Setup file fault document)) at = absurd (subst NotMemory at tt)
of_memory (whys.Finished (finishes.Key reason document)) at = absurd (subst NotMemory at tt)
of_memory (whys.Cut cuts.Folder) at = absurd (subst NotMemory at tt)
of_memory (whys.Cut cuts.Input) at = absurd (subst NotMemory at tt)
of_memory (whys.Cut cuts.Output) at = absurd (subst NotMemory at tt)
of_memory (whys.Cut cuts.Entropy) at = absurd (subst NotMemory at tt)
of_memory (whys.Cut cuts.Memory) at = refl

-- ---- the words that were given

-- the files that a folder tells are among those that they go by
pub told_shown : (form : Option Form) (files : FolderSeen) (all : Files) → files.told ≡ Some all
    → AreShown form files all
told_shown None files all has = tt
told_shown (Some (mark db schemas)) files all has = has
told_shown (Some show) files all has = tt
told_shown (Some (keys vault)) files all has = has
told_shown (Some (keygen master names)) files all has = has
told_shown (Some (encrypt db vault schemas master)) files all has = has
told_shown (Some (encrypt_with db vault schemas master)) files all has = has
told_shown (Some (decrypt vault master)) files all has = has
told_shown (Some (demo db n)) files all has = tt
told_shown (Some (rewrap from to vault)) files all has = has

-- what is so of a run of words that ask for this
pub acts_asked : {form asked : Option Form} {before after : Objects} {end : End} (time : ℕ) → form ≡ asked
    → Acted (AreShown asked) (task_of time asked) (pace_for asked) before after end
    → Acted (AreShown form) (task_of time form) (pace_for form) before after end
acts_asked {before = before} {after = after} {end = end} time is run =
    subst (λ (f : Option Form). Acted (AreShown f) (task_of time f) (pace_for f) before after end) (sym is) run

-- and which files were asked for
pub asks_asked : {form asked : Option Form} {before after : FolderSeen} → form ≡ asked
    → AsksOnly (files_of asked) before after → AsksOnly (files_of form) before after
asks_asked {before = before} {after = after} is asks =
    subst (λ (f : Option Form). AsksOnly (files_of f) before after) (sym is) asks

module _ {S F O N : Type 0} {reads : S → SourceSeen} {input input_after : S} {shows : F → FolderSeen}
    {files files_after : F} {out out_after : O} {seen : N → EntropySeen} {entropy entropy_after : N} where
  -- and how it ends
  pub ends_asked : {form asked : Option Form} {status : Status} → form ≡ asked
      → EndsByVerb asked status reads input input_after shows files files_after
      out out_after seen entropy entropy_after
      → EndsByVerb form status reads input input_after shows files files_after
      out out_after seen entropy entropy_after
  ends_asked {status = status} is ends =
      subst (λ (f : Option Form). EndsByVerb f status reads input input_after shows files files_after out out_after
      seen entropy entropy_after) (sym is) ends

  -- words without a form
  pub by_none : files_after ≡ files → entropy_after ≡ entropy
      → EndsByVerb None statuses.Words reads input input_after shows files files_after
      out out_after seen entropy entropy_after
  by_none closed same = record {
    undrawn = λ _ at. subst NotEntropy at tt;
    no_block = λ _. same;
    allowed = tt;
    no_file = λ _. closed;
    no_input = λ no. absurd no;
    by_folder = λ no. absurd no;
    by_source = λ no. absurd no;
    eight_assured = λ no. absurd no;
    none_or_eight = λ no. absurd no;
    rewrap_unwritten = λ no. absurd no;
    rewrap_undrawn = λ no. absurd no;
  }

  pub by_mark : {db schemas : List ℕ} (why : Why) → entropy_after ≡ entropy
      → (why ≡ whys.Finished finishes.Words → ⊥) → (why ≡ whys.Cut cuts.Entropy → ⊥)
      → EndsByVerb (Some (mark db schemas)) (status_of why) reads input input_after shows files files_after
      out out_after seen entropy entropy_after
  by_mark why same formed undrawn = record {
    undrawn = λ _ at. undrawn (of_entropy why at);
    no_block = λ _. same;
    allowed = undrawn_status why formed undrawn;
    no_file = λ no. absurd no;
    no_input = λ no. absurd no;
    by_folder = λ no. absurd no;
    by_source = λ no. absurd no;
    eight_assured = λ no. absurd no;
    none_or_eight = λ no. absurd no;
    rewrap_unwritten = λ no. absurd no;
    rewrap_undrawn = λ no. absurd no;
  }

  pub by_decrypt : {vault master : List ℕ} (why : Why) → entropy_after ≡ entropy
      → (why ≡ whys.Finished finishes.Words → ⊥) → (why ≡ whys.Cut cuts.Entropy → ⊥)
      → EndsByVerb (Some (decrypt vault master)) (status_of why) reads input input_after shows files files_after
      out out_after seen entropy entropy_after
  by_decrypt why same formed undrawn = record {
    undrawn = λ _ at. undrawn (of_entropy why at);
    no_block = λ _. same;
    allowed = undrawn_status why formed undrawn;
    no_file = λ no. absurd no;
    no_input = λ no. absurd no;
    by_folder = λ no. absurd no;
    by_source = λ no. absurd no;
    eight_assured = λ no. absurd no;
    none_or_eight = λ no. absurd no;
    rewrap_unwritten = λ no. absurd no;
    rewrap_undrawn = λ no. absurd no;
  }

  pub by_encrypt : {db vault schemas master : List ℕ} (why : Why) → (why ≡ whys.Finished finishes.Words → ⊥)
      → EndsByVerb (Some (encrypt db vault schemas master)) (status_of why) reads input input_after shows files
      files_after out out_after seen entropy entropy_after
  by_encrypt why formed = record {
    undrawn = λ no. absurd no;
    no_block = λ no. absurd no;
    allowed = encrypt_status why formed;
    no_file = λ no. absurd no;
    no_input = λ no. absurd no;
    by_folder = λ no. absurd no;
    by_source = λ no. absurd no;
    eight_assured = λ no. absurd no;
    none_or_eight = λ no. absurd no;
    rewrap_unwritten = λ no. absurd no;
    rewrap_undrawn = λ no. absurd no;
  }

  pub by_encrypt_with : {db vault schemas master : List ℕ} (why : Why) → (why ≡ whys.Finished finishes.Words → ⊥)
      → EndsByVerb (Some (encrypt_with db vault schemas master)) (status_of why) reads input input_after shows files
      files_after out out_after seen entropy entropy_after
  by_encrypt_with why formed = record {
    undrawn = λ no. absurd no;
    no_block = λ no. absurd no;
    allowed = encrypt_status why formed;
    no_file = λ no. absurd no;
    no_input = λ no. absurd no;
    by_folder = λ no. absurd no;
    by_source = λ no. absurd no;
    eight_assured = λ no. absurd no;
    none_or_eight = λ no. absurd no;
    rewrap_unwritten = λ no. absurd no;
    rewrap_undrawn = λ no. absurd no;
  }

  pub by_show : (why : Why) → files_after ≡ files → entropy_after ≡ entropy → IsOfStream why
      → (why ≡ whys.Cut cuts.Entropy → ⊥)
      → (why ≡ whys.Cut cuts.Input → Rose (reads input).faults (reads input_after).faults)
      → EndsByVerb (Some show) (status_of why) reads input input_after shows files files_after
      out out_after seen entropy entropy_after
  by_show why closed same kind undrawn cause = record {
    undrawn = λ _ at. undrawn (of_entropy why at);
    no_block = λ _. same;
    allowed = show_status why kind undrawn;
    no_file = λ _. closed;
    no_input = λ no. absurd no;
    by_folder = λ no. absurd no;
    by_source = λ _ at. of_read why _ (λ f. absurd (subst IsOfStream f kind)) cause at;
    eight_assured = λ no. absurd no;
    none_or_eight = λ no. absurd no;
    rewrap_unwritten = λ no. absurd no;
    rewrap_undrawn = λ no. absurd no;
  }

  pub by_keys : {vault : List ℕ} (why : Why) → input_after ≡ input → entropy_after ≡ entropy → IsOfKeys why
      → (why ≡ whys.Cut cuts.Folder → Rose (shows files).faults (shows files_after).faults)
      → EndsByVerb (Some (keys vault)) (status_of why) reads input input_after shows files files_after
      out out_after seen entropy entropy_after
  by_keys why still same kind cause = record {
    undrawn = λ _ at. subst IsOfKeys (of_entropy why at) kind;
    no_block = λ _. same;
    allowed = keys_status why kind;
    no_file = λ no. absurd no;
    no_input = λ _. still;
    by_folder = λ _ at. of_read why _ cause (λ i. absurd (subst IsOfKeys i kind)) at;
    by_source = λ no. absurd no;
    eight_assured = λ no. absurd no;
    none_or_eight = λ no. absurd no;
    rewrap_unwritten = λ no. absurd no;
    rewrap_undrawn = λ no. absurd no;
  }

  pub by_keygen : {master : List ℕ} {names : List (List ℕ)} (why : Why) → input_after ≡ input → IsOfKeygen why
      → (why ≡ whys.Cut cuts.Folder → Rose (shows files).faults (shows files_after).faults)
      → (8 ≤ (seen entropy).assured → why ≡ whys.Cut cuts.Entropy → ⊥)
      → (why ≡ whys.Cut cuts.Memory → (entropy_after ≡ entropy) ⊎ DrawsEight (seen entropy) (seen entropy_after))
      → EndsByVerb (Some (keygen master names)) (status_of why) reads input input_after shows files files_after
      out out_after seen entropy entropy_after
  by_keygen why still kind cause assured none_or = record {
    undrawn = λ no. absurd no;
    no_block = λ no. absurd no;
    allowed = keygen_status why kind;
    no_file = λ no. absurd no;
    no_input = λ _. still;
    by_folder = λ _ at. of_read why _ cause (λ i. absurd (subst IsOfKeygen i kind)) at;
    by_source = λ no. absurd no;
    eight_assured = λ _ enough at. assured enough (of_entropy why at);
    none_or_eight = λ _ at. none_or (of_memory why at);
    rewrap_unwritten = λ no. absurd no;
    rewrap_undrawn = λ no. absurd no;
  }

  pub by_demo : {db : List ℕ} {n : ℕ} (why : Why) → input_after ≡ input → files_after ≡ files → entropy_after ≡ entropy
      → IsOfText why → EndsByVerb (Some (demo db n)) (status_of why) reads input input_after shows files files_after
      out out_after seen entropy entropy_after
  by_demo why still closed same kind = record {
    undrawn = λ _ at. subst IsOfText (of_entropy why at) kind;
    no_block = λ _. same;
    allowed = text_status why kind;
    no_file = λ _. closed;
    no_input = λ _. still;
    by_folder = λ _ at. of_read why _ (λ f. absurd (subst IsOfText f kind)) (λ i. absurd (subst IsOfText i kind)) at;
    by_source = λ no. absurd no;
    eight_assured = λ no. absurd no;
    none_or_eight = λ no. absurd no;
    rewrap_unwritten = λ no. absurd no;
    rewrap_undrawn = λ no. absurd no;
  }

  pub by_rewrap : {from to vault : List ℕ} (why : Why) → input_after ≡ input → IsOfRewrap why
      → (why ≡ whys.Cut cuts.Folder → Rose (shows files).faults (shows files_after).faults)
      → (IsUnwritten (status_of why) → out_after ≡ out) → (IsUndrawn (status_of why) → entropy_after ≡ entropy)
      → EndsByVerb (Some (rewrap from to vault)) (status_of why) reads input input_after shows files files_after
      out out_after seen entropy entropy_after
  by_rewrap why still kind cause unwritten undrawn = record {
    undrawn = λ no. absurd no;
    no_block = λ no. absurd no;
    allowed = rewrap_status why kind;
    no_file = λ no. absurd no;
    no_input = λ _. still;
    by_folder = λ _ at. of_read why _ cause (λ i. absurd (subst IsOfRewrap i kind)) at;
    by_source = λ no. absurd no;
    eight_assured = λ no. absurd no;
    none_or_eight = λ no. absurd no;
    rewrap_unwritten = λ _. unwritten;
    rewrap_undrawn = λ _. undrawn;
  }
