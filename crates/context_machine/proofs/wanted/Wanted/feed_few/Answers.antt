-- A key that is wanted, where there are a few needs: there is room for it.
use Rattle.std.proofs.Common.{◌≡◌, ◌∙◌, ◌+◌, ◌≤◌, ◌∷◌, [], ◌++◌, List, ap, arith, length, map, rules}
use Rattle.std.proofs.Common.{subst, sym, true, false}
use Rattle.std.specs.Prelude.{vec_len, vec_capacity}
use Rattle.std.proofs.lemmas.List.{map-append}
use denote.Ref.{Bor}
use Rattle.data_key.specs.declared.key_doc.KeyDoc.{KeyDoc}
use Rattle.context_machine.specs.Kept.{Wants, fed, is_wanted, lacking}
use Rattle.context_machine.specs.Needs.{needs_seen}
use Rattle.context_machine.proofs.Filled.{fed_new, fed_old, no_more_slots}
use Rattle.context_machine.proofs.Kept.{lacks_less}
use Rattle.context_machine.proofs.wanted.Wanted.feed_few.Goals as goal

pub unreachable-requires : goal.unreachable-requires
unreachable-requires c =
    let keys = map (λ (k : Bor KeyDoc). k.now) c.self.inside.kept.items in
    let needs = needs_seen c.self.inside.needs.items in
    let new : is_wanted needs keys c.args.key.now ≡ true = search (rules, c.if-is_wanted.ensures.wanted) in
    let full : vec_capacity c.self.inside.kept ≤ vec_len c.self.inside.kept = search rules in
    absurd (omega (arith, lacks_less keys c.args.key.now needs new, c.self.invariant.0, full))

pub invariant_of-self : goal.invariant_of-self
invariant_of-self c =
    let keys = map (λ (k : Bor KeyDoc). k.now) c.self.inside.kept.items in
    let needs = needs_seen c.self.inside.needs.items in
    let key = c.args.key.now in
    let few : length needs ≤ 8 = subst (λ (w : Wants). length w.needs ≤ 8) (sym c.self.view_is) c.requires.few in
    let new : is_wanted needs keys key ≡ true = search (rules, c.if-is_wanted.ensures.wanted) in
    let put : c.push.new.self.items ≡ c.self.inside.kept.items ++ c.args.key ∷ [] = search rules in
    let long : vec_len c.push.new.self ≡ vec_len c.self.inside.kept + 1 = search rules in
    let now : map (λ (k : Bor KeyDoc). k.now) c.push.new.self.items ≡ keys ++ key ∷ [] =
    ap (map (λ (k : Bor KeyDoc). k.now)) put ∙ map-append (λ (k : Bor KeyDoc). k.now) c.self.inside.kept.items
    (c.args.key ∷ []) in
    let room : vec_len c.push.new.self + lacking (map (λ (k : Bor KeyDoc). k.now) c.push.new.self.items) needs
    ≤ vec_capacity c.push.new.self =
    omega (
      arith,
      lacks_less keys key needs new,
      ap (λ (ks : List KeyDoc). lacking ks needs) now,
      long,
      c.push.ensures.capacity,
      c.self.invariant.0,
    ) in
    (room, no_more_slots needs keys _ c.self.inside.slots few c.self.invariant.1)

pub returns-else-is_err-clause-fed : goal.returns-else-is_err-clause-fed
returns-else-is_err-clause-fed c =
    let keys = map (λ (k : Bor KeyDoc). k.now) c.self.inside.kept.items in
    let needs = needs_seen c.self.inside.needs.items in
    let new : is_wanted needs keys c.args.key.now ≡ true = search (rules, c.if-is_wanted.ensures.wanted) in
    let put : c.push.new.self.items ≡ c.self.inside.kept.items ++ c.args.key ∷ [] = search rules in
    ap (map (λ (k : Bor KeyDoc). k.now)) put
    ∙ map-append (λ (k : Bor KeyDoc). k.now) c.self.inside.kept.items (c.args.key ∷ [])
    ∙ fed_new needs keys c.args.key.now new
    ∙ ap (λ (w : Wants). fed w.needs w.kept c.args.key.now) c.self.view_is

pub returns-else-is_wanted-clause-fed : goal.returns-else-is_wanted-clause-fed
returns-else-is_wanted-clause-fed c =
    let keys = map (λ (k : Bor KeyDoc). k.now) c.self.inside.kept.items in
    let needs = needs_seen c.self.inside.needs.items in
    let old : is_wanted needs keys c.args.key.now ≡ false = search (rules, c.if-is_wanted.ensures.wanted) in
    ap (λ (w : Wants). w.kept) (sym c.self.view_is) ∙ fed_old needs keys c.args.key.now old
    ∙ ap (λ (w : Wants). fed w.needs w.kept c.args.key.now) c.self.view_is
