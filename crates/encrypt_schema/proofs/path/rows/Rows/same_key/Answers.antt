-- The rule that is found has the key, since its own is the same.
use Rattle.std.proofs.Common.{◌∙◌, sym}
use Rattle.encrypt_schema.proofs.Commands.Lookups.{has_key}
use Rattle.encrypt_schema.proofs.path.rows.Rows.same_key.Goals as goal

pub returns-then-is_same : goal.returns-then-is_same
returns-then-is_same c = record {
  same = has_key c.in_ok-i.i c.args.self.now c.in_ok-policy.policy.now c.args.key.now c.in_ok-policy.ensures.rule
      (sym c.if-is_same.true ∙ c.is_same.ensures.same);
}
