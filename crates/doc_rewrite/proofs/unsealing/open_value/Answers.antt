use Rattle.std.proofs.Common.{◌≡◌, ◌∙◌, ◌+◌, ◌++◌, ℕ, List, ap, sym, arith, rules, length, take, subst, Ok}
use Rattle.std.proofs.Math.Seq.{take-append-add}
use Rattle.fle_aead.specs.Sealed.{iv_of}
use Rattle.doc_rewrite.proofs.Unsealed.{shorter_is, value_bytes_are}
use Rattle.doc_rewrite.proofs.unsealing.open_value.Goals as goal

pub returns-in-Ok-clause-opened : goal.returns-in-Ok-clause-opened
returns-in-Ok-clause-opened g c =
    let p = c.args.payload.now in
    let n = c.in-Ok.n in
    let new = c.open_payload_into.new.out in
    let plain = take n new in
    let long : length p.key_id ≡ 16 = search rules in
    let value = value_bytes_are p.kind p.key_id c.args.key.now p.tag c.args.levels p.head.now p.sealed.now long p.front
    plain c.requires.levels c.in-Ok.ensures.judged.1 c.in-Ok.ensures.original in
    let front = c.split_at_mut-rest.result.0.now in
    let at_end : length front ≡ c.args.at = c.split_at_mut-rest.ensures.front_len in
    let taken : take (c.args.at + n) (front ++ new) ≡ front ++ plain =
    subst (λ (m : ℕ). take (m + n) (front ++ new) ≡ front ++ plain) at_end (take-append-add front new n) in
    let again : Ok n ≡ Ok (length plain) = (c.in-Ok.ensures.opens
    (iv_of p.sealed.now) plain c.in-Ok.ensures.ok c.in-Ok.ensures.original).0 in
    let size : n ≡ length plain = cc in
    let less = shorter_is p.kind p.key_id c.args.key.now p.tag c.args.levels p.head.now p.sealed.now long p.front plain
    c.in-Ok.ensures.ok in (
      c.in-Ok.ensures.judged.0,
      taken ∙ ap (λ (x : List ℕ). x ++ plain) c.split_at_mut-rest.ensures.front
          ∙ ap (λ (x : List ℕ). take c.args.at c.args.out.now ++ x) (sym value),
      omega (arith, size, less),
    )
