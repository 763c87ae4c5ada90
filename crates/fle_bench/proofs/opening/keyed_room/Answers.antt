use Rattle.std.proofs.Common.{map}
use Rattle.doc_rewrite.specs.Finding.{found_at}
use Rattle.doc_rewrite.specs.Founds.{payloads_of}
use Rattle.fle_bench.proofs.Asked.{asked}
use Rattle.fle_bench.proofs.opening.keyed_room.Goals as goal

pub returns-then-asking-clause-keyed : goal.returns-then-asking-clause-keyed
returns-then-asking-clause-keyed c =
    asked (λ a. a.keys.now) (λ a. a.all) _ c.tell_payloads.new.listener c.in-Ok.found
    (map found_at (payloads_of c.args.document.now)) c.in-Ok.ensures.found.all c.in-Ok.ensures.told c.if-asking.true
