use Rattle.clear_commands.proofs.Walked.{clear_told}
use Rattle.clear_commands.proofs.judging.judge_clear.Goals as goal

pub returns-in-Ok : goal.returns-in-Ok
returns-in-Ok c = record {
  judged = clear_told c.args.command.now c.items.result c.next.new.self c.in-Some.first c.name-own.result.now
      c.in-Some-clear_command.clear _ c.items.ensures.elements c.in-Some.ensures.steps c.name-own.ensures.name
      c.in-Some-clear_command.ensures c.in-Ok.ensures;
}

pub returns-in-Err : goal.returns-in-Err
returns-in-Err c = record {
  judged = clear_told c.args.command.now c.items.result c.next.new.self c.in-Some.first c.name-own.result.now
      c.in-Some-clear_command.clear _ c.items.ensures.elements c.in-Some.ensures.steps c.name-own.ensures.name
      c.in-Some-clear_command.ensures c.in-Err.ensures;
}
