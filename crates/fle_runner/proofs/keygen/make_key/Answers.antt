-- There was no memory, a draw failed, or the key is written.
use Rattle.std.proofs.Common.{◌∙◌, List, ℕ, ap, sym, subst, refl, inl, inr, Err, map}
use Rattle.std.specs.Prelude.{string_bytes}
use Rattle.fle_runner.specs.Keygen.{keygen_plan}
use Rattle.fle_stream.specs.Acted.{Acted, AreAny, objects}
use Rattle.fle_stream.specs.Task.{makes, one_document}
use Rattle.fle_stream.proofs.Acts.{acts_makes, acts_memory}
use Rattle.fle_stream.proofs.Outputs.{did_undrawn}
use Rattle.fle_stream.proofs.Turned.{entropy_not_folder, entropy_not_output, memory_not_entropy}
use Rattle.fle_runner.proofs.VerbEnds.{IsMemory}
use Rattle.fle_runner.proofs.keygen.make_key.Goals as goal

pub returns-in_default : goal.returns-in_default
returns-in_default g c =
    rw c.unread.ensures.unread
    (record {
      run = λ input files. acts_memory;
      kind = tt;
      eight_assured = λ _. memory_not_entropy;
      none_or_eight = λ _. inl refl;
    })

pub returns-in-Ok-new_key : goal.returns-in-Ok-new_key
returns-in-Ok-new_key g c =
    let made = c.in-Ok-new_key.ensures.made in
    let ends = c.write_new.ensures in
    record {
      run = λ input files.
          subst
          (λ (names : List (List ℕ)). Acted AreAny (λ _. makes (keygen_plan names c.args.time c.args.master.now))
          one_document (objects input files (g.O.Sink.seen c.args.out.now) (g.N.Entropy.seen c.args.entropy.now))
          (objects input files (g.O.Sink.seen c.write_new.new.out) (g.N.Entropy.seen c.new_key.new.entropy))
          c.write_new.result)
          c.in-Ok.ensures.names (ends.run _ _ made.blocks input files _ _ made.number made.is made.draws);
      kind = ends.kind;
      eight_assured = λ _. ends.drawn;
      none_or_eight = λ _. inr (record { blocks = made.blocks; eight = made.number; draws = made.draws });
    }

pub returns-in-Err-EntropyFailed : goal.returns-in-Err-EntropyFailed
returns-in-Err-EntropyFailed g c =
    let short = rw c.in-Err-EntropyFailed.field-0-is at c.in-Err-EntropyFailed.ensures.made in
    let plan = keygen_plan (map string_bytes c.args.names.now) c.args.time c.args.master.now in
    let failed = c.in-Err-EntropyFailed.is ∙ ap Err c.in-Err-EntropyFailed.field-0-is in
    rw c.unread-in-Err-EntropyFailed.ensures.unread (record {
      run = λ input files.
          acts_makes plan refl tt entropy_not_folder
          (λ told after is. did_undrawn plan short.blocks told after _ _ _ short.fewer short.draws is)
          (λ at. absurd (entropy_not_output at)) (λ _. entropy_not_output) (λ _. short.rose)
          (λ enough _. c.new_key.ensures.sure enough failed);
      kind = tt;
      eight_assured = λ enough _. c.new_key.ensures.sure enough failed;
      none_or_eight = λ at. absurd (subst IsMemory (sym at) tt);
    })

pub returns-in-Err-Memory : goal.returns-in-Err-Memory
returns-in-Err-Memory g c =
    let still = c.new_key.ensures.undrawn (c.in-Err-Memory.is ∙ ap Err c.in-Err-Memory.field-0-is) in
    rw c.unread-in-Err-Memory.ensures.unread
    (record {
      run = λ input files. rw still acts_memory;
      kind = tt;
      eight_assured = λ _. memory_not_entropy;
      none_or_eight = λ _. inl still;
    })
