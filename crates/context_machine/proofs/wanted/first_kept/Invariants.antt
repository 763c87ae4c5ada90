use Rattle.std.proofs.Common.{◌≡◌, drop, map}
use denote.Ref.{Bor}
use Rattle.data_key.specs.declared.key_doc.KeyDoc.{KeyDoc}
use Rattle.payload6.specs.Needs.{need_seen}
use Rattle.context_machine.specs.Kept.{key_by}
use Rattle.context_machine.proofs.wanted.first_kept.Given as goal

abbrev pub invariant-loop-key : goal.invariant-loop-key
invariant-loop-key l = key_by (map (λ (k : Bor KeyDoc). k.now) (drop l.key-index l.kept)) (need_seen l.need)
    ≡ key_by (map (λ (k : Bor KeyDoc). k.now) l.kept) (need_seen l.need)
