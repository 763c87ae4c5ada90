use Rattle.std.proofs.Common.{◌≡◌, ◌-◌, ◌/◌, ◌%◌, arith}
use Rattle.std.proofs.lemmas.Bool.{eq-eqb, eqb-true}
use Rattle.payload6.proofs.payload.is_payload_len.Goals as goal

pub returns-then-n-ge-LEAST : goal.returns-then-n-ge-LEAST
returns-then-n-ge-LEAST c = (
  λ t. let whole : (c.args.n - 18) % 16 ≡ 0 = eqb-true _ _ t in ((c.args.n - 18) / 16 - 3, omega arith, omega arith),
  λ l. let whole : (c.args.n - 18) % 16 ≡ 0 = omega (arith, l.2) in eq-eqb _ _ whole,
)
