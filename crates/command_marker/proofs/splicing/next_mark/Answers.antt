use Rattle.command_marker.proofs.Steps.{ruled_next}
use Rattle.command_marker.proofs.splicing.next_mark.Goals as goal

pub returns-clause-ruled : goal.returns-clause-ruled
returns-clause-ruled c = ruled_next c.args.rows.now c.args.marks.now c.args.next c.get.result c.get.ensures.mark
    c.requires.ruled
