-- What a command starts as says what it comes to.
use Rattle.context_machine.specs.Rings.{finder}
use Rattle.encrypt_schema.specs.Commands.Targets.{rows_of}
use Rattle.fle_engine.specs.More.{more_ruling}
use Rattle.fle_engine.proofs.MoreAnswers.{marking_sealed, passing_sealed, refused_sealed}
use Rattle.fle_engine.proofs.more.seal_more.Goals as goal

pub returns-in-Ok-Passing-clause-answers : goal.returns-in-Ok-Passing-clause-answers
returns-in-Ok-Passing-clause-answers g c =
    let keys = finder c.args.opener.now.keys c.args.opener.now.cache.master in
    let infos = c.args.infos.now in
    let tree = c.args.command.now.tree in
    let seen = g.N.Entropy.seen c.args.entropy.now in
    let start = rw c.in-Ok-Passing.field-0-is at c.in-Ok-Passing.ensures.starts in
    passing_sealed keys infos c.args.db.now tree c.pass_command.result seen start
    (c.pass_command.ensures.answers keys (rows_of infos tree) seen)

pub returns-in-Ok-Marking-clause-answers : goal.returns-in-Ok-Marking-clause-answers
returns-in-Ok-Marking-clause-answers g c =
    let keys = finder c.args.opener.now.keys c.args.opener.now.cache.master in
    let infos = c.args.infos.now in
    let command = c.args.command.now in
    let before = g.N.Entropy.seen c.args.entropy.now in
    let after = g.N.Entropy.seen c.seal_contents.new.entropy in
    let start = rw c.in-Ok-Marking.field-0-is at c.in-Ok-Marking.ensures.starts in
    marking_sealed keys infos c.args.db.now command c.in-Ok-Marking.state c.seal_contents.result before after start
    c.seal_contents.ensures.answers

pub returns-in-Err-clause-answers : goal.returns-in-Err-clause-answers
returns-in-Err-clause-answers g c =
    let keys = finder c.args.opener.now.keys c.args.opener.now.cache.master in
    let infos = c.args.infos.now in
    let command = c.args.command.now in
    c.refuse_fault.ensures.answers (more_ruling keys infos c.args.db.now command.tree)
    (g.N.Entropy.seen c.args.entropy.now)
    (refused_sealed keys infos c.args.db.now command c.in-Err.fault c.in-Err.ensures.starts)
