use Rattle.std.proofs.Common.{◌≡◌, ◌↔◌}
use Rattle.fle_aead.proofs.Agreeing.{AgreeTo}
use Rattle.fle_aead.proofs.opening.tags_agree.Given as goal

abbrev pub invariant-loop-i : goal.invariant-loop-i
invariant-loop-i l = record { agree : (l.differences ≡ 0) ↔ AgreeTo l.found l.computed l.i }
