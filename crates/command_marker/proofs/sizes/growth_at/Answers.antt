use Rattle.payload6.specs.Needs.{need_seen}
use Rattle.command_marker.proofs.Planned.{added_at, added_past}
use Rattle.command_marker.proofs.sizes.growth_at.Goals as goal

pub returns-in-Some-clause-growth : goal.returns-in-Some-clause-growth
returns-in-Some-clause-growth c =
    added_at c.args.rows.now c.args.command.now c.args.marks.now c.args.i c.in-Some.mark c.growth_of.result
    (need_seen c.key_of.result) c.in-Some.ensures.first c.growth_of.ensures.growth c.key_of.ensures.need

pub returns-in-None-clause-growth : goal.returns-in-None-clause-growth
returns-in-None-clause-growth c =
    added_past c.args.rows.now c.args.command.now c.args.marks.now c.args.i c.in-None.ensures.first
