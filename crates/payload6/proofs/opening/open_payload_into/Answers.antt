use Rattle.std.proofs.Common.{◌≡◌, ◌∙◌, ℕ, List, length, take, Err, Ok, ap, refl, rules, subst, sym}
use Rattle.fle_aead.specs.Sealed.{IsSealed, IsWronglyTagged}
use Rattle.payload6.specs.Opening.{IsOriginal}
use Rattle.payload6.proofs.PayloadForm.{blocks-of, found-is, message_in}
use Rattle.payload6.proofs.Verdicts.{padding_wrong, plain_is, plain_right, plain_spoilt, tag_wrong}
use Rattle.payload6.proofs.opening.open_payload_into.Goals as goal

pub unreachable-requires : goal.unreachable-requires
unreachable-requires g c =
    absurd ((c.open_into.ensures.short.0 (c.in-Err-Short.is ∙ ap Err c.in-Err-Short.field-0-is))
    (blocks-of _ c.args.payload.now.some c.args.payload.now.whole))

pub returns-in-Err-Tag-clause-opens : goal.returns-in-Err-Tag-clause-opens
returns-in-Err-Tag-clause-opens g c = λ iv p s o.
    let id : length c.args.payload.now.key_id ≡ 16 = search rules in
    let no = c.in-Err-Tag.ensures.opens iv p (message_in _ _ _ _ iv p _ _ id c.args.payload.now.front s) in absurd cc

pub returns-in-Err-Tag-clause-tag : goal.returns-in-Err-Tag-clause-tag
returns-in-Err-Tag-clause-tag g c = λ computed found. (
  λ e. let told : IsWronglyTagged c.args.key.now c.args.payload.now.head.now c.args.payload.now.sealed.now
      c.in-Err-Tag.computed c.in-Err-Tag.found =
      (c.open_into.ensures.tag c.in-Err-Tag.computed c.in-Err-Tag.found).0
      (c.in-Err-Tag.is ∙ ap Err c.in-Err-Tag.field-0-is) in
      let computed_is : c.in-Err-Tag.computed ≡ computed = cc in
      let found_is : c.in-Err-Tag.found ≡ found = cc in
      rw (computed_is, found_is) at told,
  λ w. let told = sym (c.in-Err-Tag.is ∙ ap Err c.in-Err-Tag.field-0-is)
      ∙ (c.open_into.ensures.tag computed found).1 w in
      let computed_is : c.in-Err-Tag.computed ≡ computed = cc in
      let found_is : c.in-Err-Tag.found ≡ found = cc in
      rw (computed_is, found_is) refl,
)

pub returns-in-Err-Padding-clause-opens : goal.returns-in-Err-Padding-clause-opens
returns-in-Err-Padding-clause-opens g c = λ iv p s o.
    let id : length c.args.payload.now.key_id ≡ 16 = search rules in
    let no = c.in-Err-Padding.ensures.opens iv p (message_in _ _ _ _ iv p _ _ id c.args.payload.now.front s) in absurd
    cc

pub returns-then-is_original-clause-opens : goal.returns-then-is_original-clause-opens
returns-then-is_original-clause-opens g c = λ iv p s o.
    let id : length c.args.payload.now.key_id ≡ 16 = search rules in
    let message : IsSealed c.args.key.now c.args.payload.now.head.now iv p c.args.payload.now.sealed.now =
    message_in _ _ _ _ iv p _ _ id c.args.payload.now.front s in
    let same : take c.in-Ok.n c.open_into.new.out ≡ p = found-is _ _ _ _ iv p _ c.in-Ok.ensures.ok message in
    let told = c.in-Ok.ensures.opens iv p message in
    let count : c.in-Ok.n ≡ length p = cc in
    (ap Ok count, ap (λ (n : ℕ). take n c.open_into.new.out) (sym count) ∙ same)

pub returns-then-is_original-clause-tag : goal.returns-then-is_original-clause-tag
returns-then-is_original-clause-tag g c = λ computed found. (
  λ e. absurd cc,
  λ w. let no = (c.in-Ok.ensures.tag computed found).1 w in absurd cc,
)

pub returns-then-is_original-clause-plain : goal.returns-then-is_original-clause-plain
returns-then-is_original-clause-plain g c = (
  λ e. absurd cc,
  λ w. absurd (w.not_original (subst (λ (p : List ℕ). IsOriginal c.args.levels c.args.payload.now.tag p)
      (found-is _ _ _ _ _ _ _ c.in-Ok.ensures.ok w.sealed) (c.if-is_original.ensures.0 refl))),
)

pub returns-else-is_original-clause-opens : goal.returns-else-is_original-clause-opens
returns-else-is_original-clause-opens g c = λ iv p s o.
    let id : length c.args.payload.now.key_id ≡ 16 = search rules in
    let message : IsSealed c.args.key.now c.args.payload.now.head.now iv p c.args.payload.now.sealed.now =
    message_in _ _ _ _ iv p _ _ id c.args.payload.now.front s in
    let same : take c.in-Ok.n c.open_into.new.out ≡ p = found-is _ _ _ _ iv p _ c.in-Ok.ensures.ok message in
    let no = c.if-is_original.ensures.1 (subst (λ (q : List ℕ). IsOriginal c.args.levels c.args.payload.now.tag q)
    (sym same) o) in
    absurd cc

pub returns-else-is_original-clause-tag : goal.returns-else-is_original-clause-tag
returns-else-is_original-clause-tag g c = λ computed found. (
  λ e. absurd cc,
  λ w. let no = (c.in-Ok.ensures.tag computed found).1 w in absurd cc,
)

pub returns-in-Err-Tag-clause-judged : goal.returns-in-Err-Tag-clause-judged
returns-in-Err-Tag-clause-judged g c =
    let p = c.args.payload.now in
    let long : length p.key_id ≡ 16 = search rules in
    tag_wrong p.kind p.key_id p.tag p.head.now p.sealed.now long p.front c.args.key.now c.args.levels
    c.in-Err-Tag.computed c.in-Err-Tag.found
    ((c.open_into.ensures.tag c.in-Err-Tag.computed c.in-Err-Tag.found).0
    (c.in-Err-Tag.is ∙ ap Err c.in-Err-Tag.field-0-is))

pub returns-in-Err-Padding-clause-judged : goal.returns-in-Err-Padding-clause-judged
returns-in-Err-Padding-clause-judged g c =
    let p = c.args.payload.now in
    let long : length p.key_id ≡ 16 = search rules in
    padding_wrong p.kind p.key_id p.tag p.head.now p.sealed.now long p.front c.args.key.now c.args.levels
    (c.open_into.ensures.padding.0 (c.in-Err-Padding.is ∙ ap Err c.in-Err-Padding.field-0-is))

pub returns-then-is_original-clause-judged : goal.returns-then-is_original-clause-judged
returns-then-is_original-clause-judged g c =
    let p = c.args.payload.now in
    let long : length p.key_id ≡ 16 = search rules in
    let plain = take c.in-Ok.n c.open_into.new.out in (
      plain_right p.kind p.key_id p.tag p.head.now p.sealed.now long p.front c.args.key.now plain c.args.levels
          c.in-Ok.ensures.ok.plain c.in-Ok.ensures.message (c.if-is_original.ensures.0 refl),
      plain_is p.kind p.key_id p.tag p.head.now p.sealed.now long p.front c.args.key.now plain c.in-Ok.ensures.message,
    )

pub returns-else-is_original-clause-judged : goal.returns-else-is_original-clause-judged
returns-else-is_original-clause-judged g c =
    let p = c.args.payload.now in
    let long : length p.key_id ≡ 16 = search rules in
    plain_spoilt p.kind p.key_id p.tag p.head.now p.sealed.now long p.front c.args.key.now
    (take c.in-Ok.n c.open_into.new.out) c.args.levels c.in-Ok.ensures.ok.plain c.in-Ok.ensures.message
    (λ o. let no = c.if-is_original.ensures.1 o in absurd cc)
