use Rattle.std.proofs.Common.{◌∙◌}
use Rattle.command_marker.proofs.places.judge_in_filter.Goals as goal

pub returns-in-Ok : goal.returns-in-Ok
returns-in-Ok c =
    let rows = c.args.rows.now in
    record {
      judged = (
        c.next_in_filter.ensures.station rows ∙ c.in-Ok.ensures.station,
        c.next_in_filter.ensures.stands rows,
        c.in-Ok.ensures.clean,
      );
    }
