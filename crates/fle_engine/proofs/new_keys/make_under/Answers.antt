-- The names are such as a new key can have, or not.
use Rattle.std.proofs.Common.{◌∙◌, Some, ap, map, sym}
use Rattle.std.specs.Prelude.{string_bytes}
use Rattle.fle_engine.proofs.KeyAnswers.{nameless_few, names_missing, names_there}
use Rattle.fle_engine.proofs.new_keys.make_under.Goals as goal

pub returns-in-Err : goal.returns-in-Err
returns-in-Err g c =
    let seen = g.N.Entropy.seen c.args.entropy.now in
    record {
      answers = names_missing c.args.master.now c.args.time c.args.names.now.tree seen seen c.in-Err.stop
          c.in-Err.ensures.read;
      few = nameless_few _ c.in-Err.stop c.in-Err.ensures.read;
    }

pub returns-in-Ok-clause-answers : goal.returns-in-Ok-clause-answers
returns-in-Ok-clause-answers g c =
    names_there c.args.master.now c.args.time c.args.names.now.tree (g.N.Entropy.seen c.args.entropy.now)
    (g.N.Entropy.seen c.make_named.new.entropy) _ c.make_named.result
    (c.in-Ok.ensures.read ∙ ap Some (ap (map string_bytes) (sym c.deref.ensures.value))) c.make_named.ensures.answers
