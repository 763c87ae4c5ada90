-- What an opener answers is told, with the blocks that it took.
use Rattle.std.proofs.Common.{ℕ, length, subst}
use Rattle.bson_tree.specs.Tree.{Items}
use Rattle.fle_outside.specs.Seen.{EntropySeen}
use Rattle.fle_engine.specs.KeyRulings.{KeyAnswerIs, new_key_ruling}
use Rattle.fle_c.specs.Blocks.{blocks_in, handed_seen}
use Rattle.fle_c.specs.Calls.{document_limit}
use Rattle.fle_c.specs.Keys.{KeyTold, ShowsKey}
use Rattle.fle_c.proofs.Judged.{judged}
use Rattle.fle_c.proofs.KeysTold.{key_told}
use Rattle.fle_c.proofs.keys.make_under.Goals as goal

pub returns-in-Ok : goal.returns-in-Ok
returns-in-Ok c =
    let master = c.args.opener.now.cache.master in
    let tree = c.in-Ok.names.tree in
    let bytes = c.make_key-made.new.entropy.bytes.now in
    let faults = c.make_key-made.new.entropy.faults in
    let answer = c.make_key-made.result in
    let v = new_key_ruling master c.args.time in
    let is = subst (λ (e : EntropySeen). KeyAnswerIs (v tree) e (handed_seen bytes faults) answer)
    c.new-entropy.ensures.seen c.make_key-made.ensures.answers in
    let shows = subst (λ (left : ℕ). ShowsKey answer (length c.args.blocks.now) left c.args.out.now c.tell_key.new.out
    c.tell_key.result) c.left.ensures.left c.tell_key.ensures.shows in
    record {
      made = judged document_limit
          (λ (d : Items). KeyTold (v d) (blocks_in c.args.blocks.now) c.args.out.now c.tell_key.new.out
          c.tell_key.result)
          c.args.names.now c.args.out.now c.tell_key.new.out c.tell_key.result tree
          c.if-names-gt-DOCUMENT_LIMIT.false c.in-Ok.ensures.exact
          (key_told (v tree) c.args.blocks.now bytes faults answer c.args.out.now c.tell_key.new.out c.tell_key.result
          is shows);
    }
