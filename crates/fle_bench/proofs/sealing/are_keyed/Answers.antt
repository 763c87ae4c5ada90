use Rattle.std.proofs.Common.{sym}
use Rattle.doc_rewrite.proofs.Stands.{marked_stand}
use Rattle.fle_bench.proofs.sealing.are_keyed.Goals as goal

pub sites_of-requires : goal.sites_of-requires
sites_of-requires c = record {
  ruled = (marked_stand c.args.marked.now.rows c.rows.result.now c.args.marked.now.command
      c.marks.result.now c.command-command.result
      (sym c.command-command.ensures.command) c.rows.ensures.rows c.marks.ensures.marks c.marks.ensures.accepted).ruled;
}
