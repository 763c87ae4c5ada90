-- The filter of the key, where it is lacking.
use Rattle.std.proofs.Common.{[], ◌∷◌}
use Rattle.payload6.specs.Needs.{need_seen}
use Rattle.fle_engine.proofs.Filters.{filter_made}
use Rattle.fle_engine.proofs.asking.ask_for_key.Goals as goal

pub returns-in-Ok : goal.returns-in-Ok
returns-in-Ok c = record {
  answers = λ d e. filter_made c.args.keys.now (record { need = need_seen c.args.need; at = 0 } ∷ []) d c.in-Ok.bytes e
      c.in-Ok.ensures.filter;
}
