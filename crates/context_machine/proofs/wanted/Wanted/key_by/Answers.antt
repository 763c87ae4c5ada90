-- The number in the slot of a need is that of the first key that meets it.
use Rattle.std.proofs.Common.{◌≡◌, ◌∙◌, ◌<◌, List, Some, ap, arith, length, map, option_copied, rules, subst, sym, true}
use Rattle.std.specs.Prelude.{slice_get}
use Rattle.std.proofs.lemmas.List.{length-map}
use denote.Ref.{Bor}
use Rattle.data_key.specs.declared.key_doc.KeyDoc.{KeyDoc}
use Rattle.key_vault.specs.Keys.{place_from}
use Rattle.key_vault.proofs.Numbered.{found_at, found_none}
use Rattle.payload6.specs.Needs.{need_seen}
use Rattle.context_machine.specs.Kept.{Wants, meets}
use Rattle.context_machine.specs.Needs.{is_needed, need_at_seen, needs_seen}
use Rattle.context_machine.proofs.wanted.Wanted.key_by.Goals as goal

pub returns-in-Some : goal.returns-in-Some
returns-in-Some c =
    let need = need_seen c.args.need in
    let keys = map (λ (k : Bor KeyDoc). k.now) c.self.inside.kept.items in
    let held : 8 < length c.self.inside.needs.items = search rules in
    let many : 8 < length (needs_seen c.self.inside.needs.items) =
    omega (arith, held, length-map c.self.inside.needs.items need_at_seen) in
    let on : is_needed need (needs_seen c.self.inside.needs.items) ≡ true =
    subst (λ (w : Wants). is_needed need w.needs ≡ true) (sym c.self.view_is) c.requires.needed in
    let place : place_from 0 (meets need) keys ≡ Some c.in-Some.number =
    sym ((c.self.invariant.1.many many).numbered need on) ∙ sym c.in-Some.ensures.number in
    let here : option_copied c.kept_at.result ≡ slice_get keys c.in-Some.number =
    c.kept_at.ensures.found
    ∙ ap (λ (ks : List (Bor KeyDoc)). slice_get (map (λ (k : Bor KeyDoc). k.now) ks) c.in-Some.number)
    c.deref.ensures.value in
    rw (sym c.self.view_is) record { found = here ∙ found_at keys (meets need) c.in-Some.number place }

pub returns-in-None : goal.returns-in-None
returns-in-None c =
    let need = need_seen c.args.need in
    let keys = map (λ (k : Bor KeyDoc). k.now) c.self.inside.kept.items in
    let held : 8 < length c.self.inside.needs.items = search rules in
    let many : 8 < length (needs_seen c.self.inside.needs.items) =
    omega (arith, held, length-map c.self.inside.needs.items need_at_seen) in
    let on : is_needed need (needs_seen c.self.inside.needs.items) ≡ true =
    subst (λ (w : Wants). is_needed need w.needs ≡ true) (sym c.self.view_is) c.requires.needed in
    rw (sym c.self.view_is) record {
      found = sym (found_none keys (meets need)
          (sym ((c.self.invariant.1.many many).numbered need on) ∙ sym c.in-None.ensures.number));
    }
