-- The marks of a command are of rules that are there.
use Rattle.std.proofs.Common.{List, length, subst, sym}
use Rattle.encrypt_schema.specs.declared.command.marks.Mark.{Mark}
use Rattle.encrypt_schema.specs.Language.Row.{Row}
use Rattle.doc_rewrite.specs.Plans.{AreRuled}
use Rattle.doc_rewrite.proofs.Names.{clean_named}
use Rattle.doc_rewrite.proofs.Stands.{marks_stand}
use Rattle.context_machine.proofs.command_needs.wanted_by.Goals as goal

pub wanted_under-requires : goal.wanted_under-requires
wanted_under-requires c =
    let rows = c.args.marked.now.rows in
    let command = c.args.marked.now.command in
    let stand = marks_stand rows command (clean_named rows command c.marks.ensures.accepted) in
    record {
      ruled = subst (λ (rs : List Row). AreRuled (length rs) c.marks.result.now) (sym c.rows.ensures.rows)
          (subst (λ (ms : List Mark). AreRuled (length rows) ms) (sym c.marks.ensures.marks) stand.ruled);
    }
