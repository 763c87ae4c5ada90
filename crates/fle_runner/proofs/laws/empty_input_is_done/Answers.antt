-- An empty stream has nothing left.
use Rattle.std.proofs.Common.{[], ◌∙◌, ap, refl, arith}
use Rattle.fle_stream.specs.Outcome.{outcome}
use Rattle.fle_stream.specs.Streams.{Docs, document_limit, nothing}
use Rattle.fle_stream.specs.Task.{Task, outcome_of}
use Rattle.fle_stream.proofs.Judgings.{outcome_end}
use Rattle.fle_stream.proofs.Streams.{none_left}
use Rattle.fle_runner.proofs.laws.empty_input_is_done.Goals as goal

pub returns : goal.returns
returns c = record {
  done = λ now words all v is.
      ap (λ (t : Task). outcome_of t []) is
      ∙ (ap (λ (docs : Docs). outcome v 1 0 docs) (none_left document_limit document_limit [] refl)
      ∙ outcome_end v 1 0 nothing (omega arith));
}
