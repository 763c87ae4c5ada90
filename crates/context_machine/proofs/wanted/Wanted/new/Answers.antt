use Rattle.std.proofs.Common.{◌≡◌, ◌+◌, ◌≤◌, [], List, ap, arith, length, map, rules, subst, sym}
use Rattle.std.specs.Prelude.{vec_len, vec_capacity}
use Rattle.std.proofs.lemmas.List.{length-map}
use denote.Ref.{Bor}
use Rattle.data_key.specs.declared.key_doc.KeyDoc.{KeyDoc}
use Rattle.context_machine.specs.Kept.{lacking}
use Rattle.context_machine.specs.Needs.{need_at_seen, needs_seen}
use Rattle.context_machine.specs.Slots.{AreManySlots}
use Rattle.context_machine.proofs.Kept.{lacks_all}
use Rattle.context_machine.proofs.wanted.Wanted.new.Goals as goal

pub invariant_of-result : goal.invariant_of-result
invariant_of-result c =
    let held = c.args.needs.items in
    let needs = needs_seen held in
    let none : c.in-Ok.kept.items ≡ [] = search rules in
    let empty : vec_len c.in-Ok.kept ≡ 0 = search rules in
    let wide : vec_capacity c.in-Ok.kept ≡ c.len.result = search rules in
    let number : length held ≡ c.len.result = search rules in
    let room : vec_len c.in-Ok.kept + lacking (map (λ (k : Bor KeyDoc). k.now) c.in-Ok.kept.items) needs
    ≤ vec_capacity c.in-Ok.kept =
    omega (
      arith,
      ap (λ (ks : List (Bor KeyDoc)). lacking (map (λ (k : Bor KeyDoc). k.now) ks) needs) none,
      lacks_all needs,
      length-map held need_at_seen,
      empty,
      wide,
      number,
    ) in (
      room,
      subst (λ (ks : List (Bor KeyDoc)). AreManySlots needs (map (λ (k : Bor KeyDoc). k.now) ks) c.args.slots)
          (sym none) c.requires.slots,
    )
