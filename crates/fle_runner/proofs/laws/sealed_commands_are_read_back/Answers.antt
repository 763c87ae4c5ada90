-- Each sealed command opens to its command.
use Rattle.context_machine.proofs.FoundKeys.{all_found, ids_found}
use Rattle.context_machine.proofs.Vaults.{distinct_ids, loaded_distinct}
use Rattle.fle_runner.specs.Decrypt.{decrypt_verdict}
use Rattle.fle_runner.specs.Headline.{accepted_in}
use Rattle.fle_stream.specs.Streams.{documents}
use Rattle.fle_runner.proofs.Backs.{reads_back, writes_back}
use Rattle.fle_runner.proofs.HeadlineBack.{all_readable, come_back, front_readable}
use Rattle.fle_runner.proofs.laws.sealed_commands_are_read_back.Goals as goal

pub returns : goal.returns
returns c = record {
  outcome = λ x cs blocks ds had sealed readable few.
      reads_back (decrypt_verdict x.opens) cs ds (come_back x cs blocks ds had sealed readable) few;
  bytes = λ x cs blocks ds had sealed readable.
      writes_back (decrypt_verdict x.opens) cs ds (come_back x cs blocks ds had sealed readable);
  readable = all_readable;
  first_readable = front_readable;
  run = λ x told entropy entropy_after out out_after had all s openable few.
      reads_back (decrypt_verdict x.opens) (accepted_in x 0 (documents told)) s.sealed
      (come_back x (accepted_in x 0 (documents told)) s.blocks s.sealed had s.each
      (all_readable x told s.sealed all openable)) few;
  by_ids = ids_found;
  vault = λ bytes master keys is. all_found keys master (distinct_ids keys (loaded_distinct bytes keys is));
}
