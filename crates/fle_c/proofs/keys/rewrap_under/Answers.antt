-- What an opener answers is told, with the blocks that it took.
use Rattle.std.proofs.Common.{ℕ, length, subst}
use Rattle.bson_tree.specs.Tree.{Items}
use Rattle.fle_outside.specs.Seen.{EntropySeen}
use Rattle.fle_engine.specs.KeyRulings.{KeyAnswerIs, rewrap_ruling}
use Rattle.fle_c.specs.Blocks.{blocks_in, handed_seen}
use Rattle.fle_c.specs.Calls.{document_limit}
use Rattle.fle_c.specs.Keys.{KeyTold, ShowsKey}
use Rattle.fle_c.proofs.Judged.{judged}
use Rattle.fle_c.proofs.KeysTold.{key_told}
use Rattle.fle_c.proofs.keys.rewrap_under.Goals as goal

pub returns-in-Ok : goal.returns-in-Ok
returns-in-Ok c =
    let master = c.args.opener.now.cache.master in
    let v = rewrap_ruling master c.args.time c.args.new_master.now c.args.key.now in
    let bytes = c.rewrap_key-made.new.entropy.bytes.now in
    let faults = c.rewrap_key-made.new.entropy.faults in
    let answer = c.rewrap_key-made.result in
    let is = subst (λ (e : EntropySeen). KeyAnswerIs v e (handed_seen bytes faults) answer) c.new-entropy.ensures.seen
    c.rewrap_key-made.ensures.answers in
    let shows = subst (λ (left : ℕ). ShowsKey answer (length c.args.blocks.now) left c.args.out.now c.tell_key.new.out
    c.tell_key.result) c.left.ensures.left c.tell_key.ensures.shows in
    record {
      rewrapped = judged document_limit
          (λ (d : Items). KeyTold v (blocks_in c.args.blocks.now) c.args.out.now c.tell_key.new.out c.tell_key.result)
          c.args.key.now c.args.out.now c.tell_key.new.out c.tell_key.result c.in-Ok._document.tree
          c.if-key-gt-DOCUMENT_LIMIT.false c.in-Ok.ensures.exact
          (key_told v c.args.blocks.now bytes faults answer c.args.out.now c.tell_key.new.out c.tell_key.result is
          shows);
    }
