-- A marked command draws for its marks; without an info nothing is drawn.
use Rattle.std.proofs.Common.{◌∙◌, ap, option_copied}
use Rattle.command_marker.specs.Commands.{Command}
use Rattle.context_machine.proofs.Readies.{clear_draws, marked_values}
use Rattle.doc_rewrite.proofs.Stands.{marked_stand}
use Rattle.doc_rewrite.specs.Sites.{draws_of}
use Rattle.context_machine.proofs.need_keys.draws_by.Goals as goal

pub sites_of-requires : goal.sites_of-requires
sites_of-requires c =
    let is = rw c.in-Some.is at c.requires.marked in
    let stands = marked_stand c.in-Some.marked.rows c.rows.result.now c.in-Some.marked.command c.marks.result.now
    c.args.command.now
    (ap (λ (m : Command). m.command) is) c.rows.ensures.rows c.marks.ensures.marks c.marks.ensures.accepted in
    record { ruled = stands.ruled }

pub returns-in-Some : goal.returns-in-Some
returns-in-Some c =
    let is = rw c.in-Some.is at c.requires.marked in
    record {
      draws = c.draws.ensures.draws
          ∙ ap draws_of (c.sites_of.ensures.sites
          ∙ marked_values (option_copied c.args.info) c.args.command.now c.in-Some.marked c.rows.result.now
          c.marks.result.now is c.rows.ensures.rows c.marks.ensures.marks);
    }

pub returns-in-None : goal.returns-in-None
returns-in-None c =
    let none = rw c.in-None.is at c.requires.marked in
    record { draws = clear_draws _ c.args.command.now none }
