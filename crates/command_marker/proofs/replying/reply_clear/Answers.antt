use Rattle.std.proofs.Common.{◌≡◌, ◌+◌, ◌∙◌, ◌≤◌, ℕ, List, length, ap, sym, subst, false}
use Rattle.bson_tree.specs.Spelling.{doc_bytes}
use Rattle.command_marker.specs.Reply.{reply_clear_to, reply_limit}
use Rattle.command_marker.proofs.Replies.{clear_is, refused, replied, reply_size}
use Rattle.command_marker.proofs.replying.reply_clear.Goals as goal

pub returns-in-Err : goal.returns-in-Err
returns-in-Err c =
    let command = c.args.command.now.tree in
    let long : length (reply_clear_to command) ≡ length (doc_bytes command) + 80 =
    ap length (clear_is command) ∙ reply_size false false command in
    record {
      replies = refused (reply_clear_to command)
          (length (doc_bytes command) + 80) c.in-Err.fault long c.in-Err.ensures.size;
    }

pub returns-in_ok-out-in-Ok : goal.returns-in_ok-out-in-Ok
returns-in_ok-out-in-Ok c =
    let command = c.args.command.now.tree in
    let told = replied false false command c.in-Ok.size c.in_ok-out-in-Ok.out.items c.in-Ok.ensures.size
    c.in_ok-out-in-Ok.ensures.parts in
    record {
      replies = (
        told.0 ∙ sym (clear_is command),
        subst (λ (bytes : List ℕ). length bytes ≤ reply_limit) (sym (clear_is command)) told.1,
      );
    }
