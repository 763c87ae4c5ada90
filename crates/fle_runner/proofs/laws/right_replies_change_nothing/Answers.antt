-- A right reply isn't refused, so its command comes to what it comes to alone.
use Rattle.fle_runner.proofs.RightPairs.{right_end, right_outputs}
use Rattle.fle_runner.proofs.laws.right_replies_change_nothing.Goals as goal

pub returns : goal.returns
returns c = record { outputs = right_outputs; end = right_end }
