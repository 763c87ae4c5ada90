-- The filter of the keys that are lacking.
use Rattle.context_machine.specs.Needs.{first_needs}
use Rattle.context_machine.specs.Rings.{needs_in}
use Rattle.fle_engine.proofs.Filters.{filter_made}
use Rattle.fle_engine.proofs.asking.ask_ids.Goals as goal

pub returns-in-Ok : goal.returns-in-Ok
returns-in-Ok c = record {
  answers = λ d e.
      filter_made c.args.keys.now (first_needs (needs_in c.args.state.now.document)) d c.in-Ok.bytes e
      c.in-Ok.ensures.filter;
}
