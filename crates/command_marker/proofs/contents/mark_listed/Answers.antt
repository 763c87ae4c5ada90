use Rattle.std.proofs.Common.{Bool, subst, ◌≡◌}
use Rattle.encrypt_schema.specs.declared.command.reason.Reason.TheVariants.{BadField}
use Rattle.encrypt_schema.specs.Commands.Offences.{command_lacks, when}
use Rattle.encrypt_schema.specs.Commands.Stations.{Fields}
use Rattle.encrypt_schema.specs.Commands.Visits.{names_of}
use Rattle.command_marker.proofs.CommandVisits.{listed_complete, listed_lacking}
use Rattle.command_marker.proofs.contents.mark_listed.Goals as goal

pub returns-then-lacks_listed : goal.returns-then-lacks_listed
returns-then-lacks_listed c =
    let command = c.args.command.now in
    let listed = c.library_name-listed.result in
    record {
      marked =
          listed_lacking c.args.rows.now command.start command.tree listed c.library_name-listed.ensures.name
          (subst (λ (b : Bool). when b BadField ≡ command_lacks (Fields listed) (names_of command.tree))
          c.if-lacks_listed.true c.lacks_listed.ensures.lacks);
    }

pub returns : goal.returns
returns c =
    let command = c.args.command.now in
    let listed = c.library_name-listed.result in
    record {
      marked =
          listed_complete c.args.rows.now command listed c.args.marks.now c.mark_elements.new.marks
          c.mark_elements.result
          c.library_name-listed.ensures.name
          (subst (λ (b : Bool). when b BadField ≡ command_lacks (Fields listed) (names_of command.tree))
          c.if-lacks_listed.false c.lacks_listed.ensures.lacks)
          c.mark_elements.ensures.marked;
    }
