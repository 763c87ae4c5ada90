-- The filter of the keys that are lacking.
use Rattle.context_machine.specs.Waiting.{wanted_of}
use Rattle.fle_engine.proofs.Filters.{filter_made}
use Rattle.fle_engine.proofs.asking.ask_keys.Goals as goal

pub returns-in-Ok-clause-answers : goal.returns-in-Ok-clause-answers
returns-in-Ok-clause-answers c = λ d e.
    filter_made c.args.keys.now (wanted_of c.args.state.now.info c.args.state.now.command) d c.in-Ok.bytes e
    c.in-Ok.ensures.filter

pub returns-in-Ok-clause-draws : goal.returns-in-Ok-clause-draws
returns-in-Ok-clause-draws c = c.draws.ensures.draws
