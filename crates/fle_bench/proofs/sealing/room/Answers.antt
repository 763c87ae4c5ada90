use Rattle.std.proofs.Common.{sym}
use Rattle.doc_rewrite.proofs.Stands.{marked_stand}
use Rattle.fle_bench.proofs.sealing.room.Goals as goal

pub plan_seal-requires : goal.plan_seal-requires
plan_seal-requires c = record {
  stands = marked_stand c.args.marked.now.rows c.rows.result.now c.args.marked.now.command
      c.marks.result.now c.command.result
      (sym c.command.ensures.command) c.rows.ensures.rows c.marks.ensures.marks
      c.marks.ensures.accepted;
}
