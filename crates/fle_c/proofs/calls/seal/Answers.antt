-- What a client replies is told, with the random bytes that the command takes.
use Rattle.std.proofs.Common.{◌≡◌, ◌∙◌, ℕ, Result, ap, length, subst}
use Rattle.bson_tree.specs.Tree.{Items}
use Rattle.fle_client.specs.Clients.{SealsAs}
use Rattle.fle_client.specs.declared.client.NoAnswer.{NoAnswer}
use Rattle.fle_engine.specs.declared.answer.Answer.{Answer}
use Rattle.fle_outside.specs.Seen.{EntropySeen}
use Rattle.fle_c.specs.Blocks.{handed_seen}
use Rattle.fle_c.specs.Calls.{ShowsReply, TellsReply, document_limit, random_by}
use Rattle.fle_c.specs.Telling.{reply_random}
use Rattle.fle_c.proofs.Judged.{judged}
use Rattle.fle_c.proofs.Replies.{reply_counted, reply_shown}
use Rattle.fle_c.proofs.calls.seal.Goals as goal

pub reply_random-random-requires : goal.reply_random-random-requires
reply_random-random-requires c =
    let client = c.args.client.now in
    record {
      counted = reply_counted client.commands client.rules client.keys c.args.db.now c.in-Ok.command.tree
          c.args.command.now _ _ c.seal-reply.result c.in-Ok.ensures.found.1 c.seal-reply.ensures.sealed;
    }

pub returns-in-Ok-clause-sealed : goal.returns-in-Ok-clause-sealed
returns-in-Ok-clause-sealed c =
    let client = c.args.client.now in
    let db = c.args.db.now in
    let reply = c.seal-reply.result in
    let blocks = c.args.blocks.now in
    let out = c.args.out.now in
    let after = c.tell_reply.new.out in
    let told = c.tell_reply.result in
    let bytes = c.seal-reply.new.entropy.bytes.now in
    let faults = c.seal-reply.new.entropy.faults in
    let is = subst
    (λ (e : EntropySeen). SealsAs client db c.in-Ok.command.tree e (handed_seen bytes faults) reply)
    c.new-entropy.ensures.seen c.seal-reply.ensures.sealed in
    let random : c.reply_random-random.result ≡ reply_random reply (length blocks) (length bytes) =
    c.reply_random-random.ensures.random ∙ ap (reply_random reply (length blocks)) c.left.ensures.left in
    judged document_limit
    (λ (d : Items). TellsReply
    (λ (r : Result Answer NoAnswer). (left : EntropySeen) × SealsAs client db d (handed_seen blocks 0) left r)
    (random_by client.commands client.rules client.keys db d) out after told)
    c.args.command.now out after told c.in-Ok.command.tree c.if-command-gt-DOCUMENT_LIMIT.false c.in-Ok.ensures.exact
    (record {
      reply = reply;
      replied = (handed_seen bytes faults, is);
      shown = reply_shown client.commands client.rules client.keys db c.in-Ok.command.tree blocks bytes faults reply
          out after told is (subst (λ (n : ℕ). ShowsReply n reply out after told) random c.tell_reply.ensures.shows);
    })
