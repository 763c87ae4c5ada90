-- The client of an engine has what the engine has.
use Rattle.std.proofs.Common.{◌∙◌, ap}
use Rattle.fle_client.specs.declared.client.Client.{Client}
use Rattle.fle_c.proofs.opening.open.Goals as goal

pub returns-in-Ok-new-clause-made : goal.returns-in-Ok-new-clause-made
returns-in-Ok-new-clause-made c = record {
  taken = ap (λ (k : Client). k.commands) c.in-Ok-new.ensures.ok ∙ c.of.ensures.commands;
  engine = c.in-Ok.engine;
  is = c.in-Ok.ensures.made;
  whole = ap (λ (k : Client). k.rules) c.in-Ok-new.ensures.ok ∙ c.of.ensures.rules;
  mastered = ap (λ (k : Client). k.keys) c.in-Ok-new.ensures.ok ∙ c.of.ensures.keys;
}
