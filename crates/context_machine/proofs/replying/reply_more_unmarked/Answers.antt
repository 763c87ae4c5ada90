-- Without an info nothing is marked and nothing refused.
use Rattle.std.proofs.Common.{List, [], None, refl, subst, sym, ℕ}
use Rattle.command_marker.specs.Reply.{RepliesAs}
use Rattle.command_marker.proofs.CommandVisits.{no_rows}
use Rattle.command_marker.proofs.Checked.{unruled_beyond}
use Rattle.command_marker.proofs.Unmarked.{reply_without_rules}
use Rattle.context_machine.proofs.Answered.{accepted_more}
use Rattle.context_machine.proofs.replying.reply_more_unmarked.Goals as goal

pub returns : goal.returns
returns c =
    let command = c.args.command.now in
    record {
      replies = c.more_or_stop.ensures.replies (record { command = command; info = None })
          (accepted_more [] command (no_rows [] command refl).1 (unruled_beyond [] command.start command.tree refl))
          (subst (λ (bytes : List ℕ). RepliesAs bytes c.reply_clear.result) (sym (reply_without_rules command.tree))
          c.reply_clear.ensures.replies);
    }
