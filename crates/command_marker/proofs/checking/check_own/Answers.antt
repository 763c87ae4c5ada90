use Rattle.std.proofs.Common.{◌∙◌, ℕ, Some, sym, ap}
use Rattle.encrypt_schema.specs.Commands.Visits.{refused_at}
use Rattle.command_marker.proofs.checking.check_own.Goals as goal

pub returns-in-Some : goal.returns-in-Some
returns-in-Some c = record {
  told = λ rows. ap (refused_at c.args.item.now.start) (sym (c.in-Some.ensures.beyond rows))
      ∙ ap (λ (n : ℕ). refused_at n (Some c.in-Some.reason)) (sym c.start.ensures.start);
}

pub returns : goal.returns
returns c = record {
  told = λ rows. ap (refused_at c.args.item.now.start) (sym (c.in_default.ensures.beyond rows));
}
