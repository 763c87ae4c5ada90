-- Without an info nothing is marked and nothing refused.
use Rattle.std.proofs.Common.{List, [], None, refl, subst, sym, ℕ}
use Rattle.command_marker.specs.Reply.{RepliesAs}
use Rattle.command_marker.proofs.CommandVisits.{no_rows}
use Rattle.command_marker.proofs.Unmarked.{reply_without_rules}
use Rattle.context_machine.proofs.replying.reply_unmarked.Goals as goal

pub returns : goal.returns
returns c =
    let command = c.args.command.now in
    record {
      replies = c.reply_or_stop.ensures.replies (record { command = command; info = None }) (no_rows [] command refl).1
          (subst (λ (bytes : List ℕ). RepliesAs bytes c.reply_clear.result) (sym (reply_without_rules command.tree))
          c.reply_clear.ensures.replies);
    }
