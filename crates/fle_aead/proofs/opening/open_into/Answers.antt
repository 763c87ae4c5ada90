use Rattle.std.proofs.Common.{◌≡◌, ◌-◌, ◌<◌, ◌∙◌, Ok, ap, sym, length, take, refl, arith, rules}
use Rattle.std.proofs.lemmas.List.{length-take-le}
use Rattle.std.proofs.lemmas.List.Elements.{All-from_get_or, All-take}
use Rattle.cbc_mode.proofs.Padded.{pad-injective}
use Rattle.fle_aead.proofs.SealedForm.{opened-body, sealed-is_sealed_length, sealed-opened, sealed-tagged, sealed_from}
use Rattle.fle_aead.proofs.SealedForm.{tagged_from, tags_agree_from}
use Rattle.fle_aead.proofs.OpenedMessage.{message-tagged, message-unpadded, message-untagged}
use Rattle.fle_aead.proofs.opening.open_into.Goals as goal

pub returns-then-not-is_sealed_len-clause-opens : goal.returns-then-not-is_sealed_len-clause-opens
returns-then-not-is_sealed_len-clause-opens g c = λ iv p s.
    let asked = c.if-not-is_sealed_len.ensures in
    let no = asked.1 (sealed-is_sealed_length _ _ iv p _ s) in cc

pub returns-then-not-tags_agree-clause-opens : goal.returns-then-not-tags_agree-clause-opens
returns-then-not-tags_agree-clause-opens g c = λ iv p s.
    let asked = c.if-not-tags_agree.ensures in
    let no = asked.1 (tags_agree_from _ _ _ _ _ _ _ c.split_at.ensures.front c.split_at.ensures.back
    c.tag-computed.ensures c.tag_in-found.ensures (sealed-tagged _ _ iv p _ s)) in cc

pub returns-in-Some-clause-ok : goal.returns-in-Some-clause-ok
returns-in-Some-clause-ok g c =
    let len = c.if-not-is_sealed_len.ensures in
    let same = c.if-not-tags_agree.ensures in
    sealed_from _ _ _ _
    (All-from_get_or (λ b. b < 256) c.args.sealed.now 0 (λ i _. search rules))
    (All-take (λ b. b < 256) c.in-Some.n c.open_body.new.out
    (All-from_get_or (λ b. b < 256) c.open_body.new.out 0 (λ i _. search rules)))
    (tagged_from _ _ _ _ _ _ _ (len.0 refl) c.split_at.ensures.front c.split_at.ensures.back
    c.tag-computed.ensures c.tag_in-found.ensures (same.0 refl))
    (opened-body _ _ _ c.split_at.ensures.front ∙ c.in-Some.ensures.plain)

pub returns-in-Some-clause-opens : goal.returns-in-Some-clause-opens
returns-in-Some-clause-opens g c = λ iv p s.
    let is : take c.in-Some.n c.open_body.new.out ≡ p =
    pad-injective _ p (sym c.in-Some.ensures.plain ∙ sym (opened-body _ _ _ c.split_at.ensures.front)
    ∙ sealed-opened _ _ iv p _ s) in
    let count : length (take c.in-Some.n c.open_body.new.out) ≡ c.in-Some.n =
    length-take-le c.in-Some.n c.open_body.new.out (omega (arith, c.in-Some.ensures.shorter)) in
    ap Ok (sym count ∙ ap length is)

pub returns-in-Some-clause-padding : goal.returns-in-Some-clause-padding
returns-in-Some-clause-padding g c = (
  λ e. cc,
  λ w. absurd (w.no_plain _ (opened-body _ _ _ c.split_at.ensures.front ∙ c.in-Some.ensures.plain)),
)

pub returns-in-Some-clause-blocks : goal.returns-in-Some-clause-blocks
returns-in-Some-clause-blocks g c = λ tagged.
    let long : length c.split_at.result.0.now - 16 ≡ length c.args.sealed.now - 48 = omega arith in
    rw long at c.open_body.ensures.opened ∙ sym (opened-body _ _ _ c.split_at.ensures.front)

pub returns-in-None-clause-opens : goal.returns-in-None-clause-opens
returns-in-None-clause-opens g c = λ iv p s.
    absurd (c.in-None.ensures.wrong p (sym (opened-body _ _ _ c.split_at.ensures.front) ∙ sealed-opened _ _ iv p _ s))

pub returns-in-None-clause-padding : goal.returns-in-None-clause-padding
returns-in-None-clause-padding g c =
    let len = c.if-not-is_sealed_len.ensures in
    let same = c.if-not-tags_agree.ensures in (
      λ _. record {
        tagged = tagged_from _ _ _ _ _ _ _ (len.0 refl) c.split_at.ensures.front c.split_at.ensures.back
            c.tag-computed.ensures c.tag_in-found.ensures (same.0 refl);
        no_plain = λ p is. c.in-None.ensures.wrong p (sym (opened-body _ _ _ c.split_at.ensures.front) ∙ is);
      },
      λ _. refl,
    )

pub returns-in-None-clause-blocks : goal.returns-in-None-clause-blocks
returns-in-None-clause-blocks g c = λ tagged.
    let long : length c.split_at.result.0.now - 16 ≡ length c.args.sealed.now - 48 = omega arith in
    rw long at c.open_body.ensures.opened ∙ sym (opened-body _ _ _ c.split_at.ensures.front)

pub returns-then-not-is_sealed_len-clause-message : goal.returns-then-not-is_sealed_len-clause-message
returns-then-not-is_sealed_len-clause-message g c = message-untagged _ _ _ (λ t.
    let asked = c.if-not-is_sealed_len.ensures in
    let no = asked.1 t.len in absurd cc)

pub returns-then-not-tags_agree-clause-message : goal.returns-then-not-tags_agree-clause-message
returns-then-not-tags_agree-clause-message g c = message-untagged _ _ _ (λ t.
    let asked = c.if-not-tags_agree.ensures in
    let no = asked.1 (tags_agree_from _ _ _ _ _ _ _ c.split_at.ensures.front c.split_at.ensures.back
    c.tag-computed.ensures c.tag_in-found.ensures t) in absurd cc)

pub returns-in-Some-clause-message : goal.returns-in-Some-clause-message
returns-in-Some-clause-message g c =
    let len = c.if-not-is_sealed_len.ensures in
    let same = c.if-not-tags_agree.ensures in
    message-tagged _ _ _ _
    (tagged_from _ _ _ _ _ _ _ (len.0 refl) c.split_at.ensures.front c.split_at.ensures.back
    c.tag-computed.ensures c.tag_in-found.ensures (same.0 refl))
    (opened-body _ _ _ c.split_at.ensures.front ∙ c.in-Some.ensures.plain)

pub returns-in-None-clause-message : goal.returns-in-None-clause-message
returns-in-None-clause-message g c =
    let len = c.if-not-is_sealed_len.ensures in
    let same = c.if-not-tags_agree.ensures in
    message-unpadded _ _ _
    (tagged_from _ _ _ _ _ _ _ (len.0 refl) c.split_at.ensures.front c.split_at.ensures.back
    c.tag-computed.ensures c.tag_in-found.ensures (same.0 refl))
    (λ p is. c.in-None.ensures.wrong p (sym (opened-body _ _ _ c.split_at.ensures.front) ∙ is))
