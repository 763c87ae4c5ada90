-- A key is wanted where a slot that it meets is free: there is room for it, and its number stands in the slots.
use Rattle.std.proofs.Common.{◌≡◌, ◌∙◌, ◌+◌, ◌≤◌, ◌<◌, ◌∷◌, [], ◌++◌, List, ap, arith, length, map, rules, subst}
use Rattle.std.proofs.Common.{sym, true, false}
use Rattle.std.specs.Prelude.{vec_len, vec_capacity}
use Rattle.std.proofs.lemmas.List.{length-map, map-append}
use denote.Ref.{Bor}
use Rattle.data_key.specs.declared.key_doc.KeyDoc.{KeyDoc}
use Rattle.context_machine.specs.Kept.{Wants, fed, is_wanted, lacking}
use Rattle.context_machine.specs.Needs.{needs_seen}
use Rattle.context_machine.specs.Slots.{AreManySlots}
use Rattle.context_machine.proofs.Filled.{fed_new, fed_old, key_more_many, wanted_slots}
use Rattle.context_machine.proofs.Kept.{lacks_less}
use Rattle.context_machine.proofs.wanted.Wanted.feed_many.Goals as goal

pub unreachable-requires : goal.unreachable-requires
unreachable-requires c =
    let keys = map (λ (k : Bor KeyDoc). k.now) c.self.inside.kept.items in
    let needs = needs_seen c.self.inside.needs.items in
    let many : 8 < length needs = subst (λ (w : Wants). 8 < length w.needs) (sym c.self.view_is) c.requires.many in
    let new : is_wanted needs keys c.args.key.now ≡ true =
    sym (wanted_slots needs keys c.self.inside.slots c.args.key.now (c.self.invariant.1.many many))
    ∙ sym c.if-has_free.ensures.free in
    let full : vec_capacity c.self.inside.kept ≤ vec_len c.self.inside.kept = search rules in
    absurd (omega (arith, lacks_less keys c.args.key.now needs new, c.self.invariant.0, full))

pub invariant_of-self : goal.invariant_of-self
invariant_of-self c =
    let keys = map (λ (k : Bor KeyDoc). k.now) c.self.inside.kept.items in
    let needs = needs_seen c.self.inside.needs.items in
    let key = c.args.key.now in
    let many : 8 < length needs = subst (λ (w : Wants). 8 < length w.needs) (sym c.self.view_is) c.requires.many in
    let are = c.self.invariant.1.many many in
    let new : is_wanted needs keys key ≡ true =
    sym (wanted_slots needs keys c.self.inside.slots key are) ∙ sym c.if-has_free.ensures.free in
    let put : c.push.new.self.items ≡ c.self.inside.kept.items ++ c.args.key ∷ [] = search rules in
    let long : vec_len c.push.new.self ≡ vec_len c.self.inside.kept + 1 = search rules in
    let now : map (λ (k : Bor KeyDoc). k.now) c.push.new.self.items ≡ keys ++ key ∷ [] =
    ap (map (λ (k : Bor KeyDoc). k.now)) put ∙ map-append (λ (k : Bor KeyDoc). k.now) c.self.inside.kept.items
    (c.args.key ∷ []) in
    let room : vec_len c.push.new.self + lacking (map (λ (k : Bor KeyDoc). k.now) c.push.new.self.items) needs
    ≤ vec_capacity c.push.new.self =
    omega (
      arith,
      lacks_less keys key needs new,
      ap (λ (ks : List KeyDoc). lacking ks needs) now,
      long,
      c.push.ensures.capacity,
      c.self.invariant.0,
    ) in
    let held : c.len.result ≡ length c.self.inside.kept.items = search rules in
    let count : c.len.result ≡ length keys =
    held ∙ sym (length-map c.self.inside.kept.items (λ (k : Bor KeyDoc). k.now)) in (
      room,
      subst (λ (ks : List KeyDoc). AreManySlots needs ks c.fill.new.self) (sym now)
          (key_more_many needs keys c.self.inside.slots c.fill.new.self key c.len.result many are
          c.fill.ensures.filled count),
    )

pub returns-else-is_err-clause-fed : goal.returns-else-is_err-clause-fed
returns-else-is_err-clause-fed c =
    let keys = map (λ (k : Bor KeyDoc). k.now) c.self.inside.kept.items in
    let needs = needs_seen c.self.inside.needs.items in
    let many : 8 < length needs = subst (λ (w : Wants). 8 < length w.needs) (sym c.self.view_is) c.requires.many in
    let put : c.push.new.self.items ≡ c.self.inside.kept.items ++ c.args.key ∷ [] = search rules in
    let new : is_wanted needs keys c.args.key.now ≡ true =
    sym (wanted_slots needs keys c.self.inside.slots c.args.key.now (c.self.invariant.1.many many))
    ∙ sym c.if-has_free.ensures.free in
    ap (map (λ (k : Bor KeyDoc). k.now)) put
    ∙ map-append (λ (k : Bor KeyDoc). k.now) c.self.inside.kept.items (c.args.key ∷ [])
    ∙ fed_new needs keys c.args.key.now new
    ∙ ap (λ (w : Wants). fed w.needs w.kept c.args.key.now) c.self.view_is

pub returns-else-has_free-clause-fed : goal.returns-else-has_free-clause-fed
returns-else-has_free-clause-fed c =
    let keys = map (λ (k : Bor KeyDoc). k.now) c.self.inside.kept.items in
    let needs = needs_seen c.self.inside.needs.items in
    let many : 8 < length needs = subst (λ (w : Wants). 8 < length w.needs) (sym c.self.view_is) c.requires.many in
    let old : is_wanted needs keys c.args.key.now ≡ false =
    sym (wanted_slots needs keys c.self.inside.slots c.args.key.now (c.self.invariant.1.many many))
    ∙ sym c.if-has_free.ensures.free in
    ap (λ (w : Wants). w.kept) (sym c.self.view_is) ∙ fed_old needs keys c.args.key.now old
    ∙ ap (λ (w : Wants). fed w.needs w.kept c.args.key.now) c.self.view_is
