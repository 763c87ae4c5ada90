-- What commands with equal skeletons come to is alike.
use Rattle.std.proofs.Common.{subst, sym}
use Rattle.fle_stream.specs.Task.{Task, outcome_of}
use Rattle.fle_runner.specs.Encrypt.{encrypt_verdict}
use Rattle.fle_runner.specs.Mark.{mark_verdict}
use Rattle.fle_runner.specs.TwoStreams.{EndAlike}
use Rattle.fle_runner.proofs.HeadlineFiles.{mark_is, task_is}
use Rattle.fle_runner.proofs.HeadlineWorlds.{encrypt_alike, mark_alike}
use Rattle.fle_runner.proofs.TwoStreams.{streams_alike}
use Rattle.fle_runner.proofs.laws.two_streams.Goals as goal

pub returns : goal.returns
returns c = record {
  mark = λ now words all db infos told other asks bytes other_bytes e.
      subst (λ (t : Task). EndAlike (outcome_of t told) (outcome_of t other)) (sym
      (mark_is now words all db infos asks))
      (streams_alike infos (mark_verdict infos db) (mark_alike infos db) told other bytes other_bytes e);
  encrypt = λ now words all x told other asks bytes other_bytes e.
      subst (λ (t : Task). EndAlike (outcome_of t told) (outcome_of t other)) (sym (task_is now words all x asks))
      (streams_alike x.infos (encrypt_verdict x.keys x.infos x.db) (encrypt_alike x.keys x.infos x.db) told other bytes
      other_bytes e);
  marking = λ infos db told other bytes other_bytes e.
      streams_alike infos (mark_verdict infos db) (mark_alike infos db) told other bytes other_bytes e;
  sealing = λ keys infos db told other bytes other_bytes e.
      streams_alike infos (encrypt_verdict keys infos db) (encrypt_alike keys infos db) told other bytes other_bytes e;
}
