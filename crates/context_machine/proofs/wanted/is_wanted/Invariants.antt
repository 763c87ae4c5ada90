use Rattle.std.proofs.Common.{◌≡◌, drop, map}
use denote.Ref.{Bor}
use Rattle.data_key.specs.declared.key_doc.KeyDoc.{KeyDoc}
use Rattle.context_machine.specs.Kept.{is_wanted}
use Rattle.context_machine.specs.Needs.{needs_seen}
use Rattle.context_machine.proofs.wanted.is_wanted.Given as goal

abbrev pub invariant-loop-n : goal.invariant-loop-n
invariant-loop-n l = is_wanted (needs_seen (drop l.n-index l.needs)) (map (λ (k : Bor KeyDoc). k.now) l.kept) l.key
    ≡ is_wanted (needs_seen l.needs) (map (λ (k : Bor KeyDoc). k.now) l.kept) l.key
