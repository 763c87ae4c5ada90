use Rattle.std.proofs.Common.{◌≡◌, ◌≤◌, ◌∙◌, ◌∷◌, ◌+◌, ℕ, List, Option, ap, arith, drop, get_or, length}
use Rattle.std.proofs.Common.{refl, rules, sym}
use Rattle.data_key.specs.Key.{key_in}
use Rattle.rewrap_keys.specs.Documents.{spelled}
use Rattle.rewrap_keys.specs.Opened.{data_keys_of}
use Rattle.rewrap_keys.specs.Seen.{seen}
use Rattle.rewrap_keys.proofs.DataKeys.{data_key_at, data_keys_length}
use Rattle.rewrap_keys.proofs.Written.{made_reloads, next_of, none_behind, not_read}
use Rattle.rewrap_keys.proofs.Written.{passing_ends, passing_fails, passing_front}
use Rattle.rewrap_keys.proofs.Written.{passing_next, passing_starts, same_read}
use Rattle.rewrap_keys.proofs.passes.rewrap_all.Goals as goal

pub loop-key-init : goal.loop-key-init
loop-key-init g c = record {
  passing = passing_starts (seen c.args.masters.now) c.args.bytes.now c.args.keys.now _ c.args.out.now
      (λ i. omega (arith, c.type_inv.bytes i)) c.requires.loaded c.requires.whole c.requires.room;
  index = refl;
}

pub bounds-opened-index : goal.bounds-opened-index
bounds-opened-index g c =
    omega (
      arith,
      c.loop-key.invariant.index,
      c.loop-key-test.true,
      ap length c.requires.opened,
      data_keys_length c.args.masters.now.from.now c.args.keys.now,
    )

pub rewrap_document-requires-clause-data_key : goal.rewrap_document-requires-clause-data_key
rewrap_document-requires-clause-data_key g c =
    let master : List ℕ = c.args.masters.now.from.now in
    let kept : Option (List ℕ) = c.index-opened-index.result in
    let step : drop c.loop-key.key-index c.args.keys.now
    ≡ c.key-item.result ∷ drop (c.loop-key.key-index + 1) c.args.keys.now =
    next_of c.args.keys.now c.loop-key.key-index c.key-item.result c.loop-key-test.true
    ∙ ap (λ k. k ∷ drop (c.loop-key.key-index + 1) c.args.keys.now) (sym c.key-item.is) in
    c.index-opened-index.is ∙ ap (λ (os : List (Option (List ℕ))). get_or os c.loop-key.index kept) c.requires.opened
    ∙ ap (λ (n : ℕ). get_or (data_keys_of master c.args.keys.now) n kept) c.loop-key.invariant.index
    ∙ data_key_at master c.args.keys.now c.loop-key.key-index kept c.key-item.result
    (drop (c.loop-key.key-index + 1) c.args.keys.now) step

pub rewrap_document-requires-clause-stated : goal.rewrap_document-requires-clause-stated
rewrap_document-requires-clause-stated g c =
    let p = c.loop-key.invariant.passing in
    let step : drop c.loop-key.key-index c.args.keys.now
    ≡ c.key-item.result ∷ drop (c.loop-key.key-index + 1) c.args.keys.now =
    next_of c.args.keys.now c.loop-key.key-index c.key-item.result c.loop-key-test.true
    ∙ ap (λ k. k ∷ drop (c.loop-key.key-index + 1) c.args.keys.now) (sym c.key-item.is) in
    let f =
    passing_front _ _ _ _ _ _ _ _ _ c.key-item.result (drop (c.loop-key.key-index + 1) c.args.keys.now) p step in
    ap key_in (same_read _ _ _ _ (c.in-Ok.ensures.only f.doc (spelled f.others) f.laid (p.parts ∙ ap spelled f.is)))
    ∙ f.says

pub unreachable-requires : goal.unreachable-requires
unreachable-requires g c =
    let p = c.loop-key.invariant.passing in
    let step : drop c.loop-key.key-index c.args.keys.now
    ≡ c.key-item.result ∷ drop (c.loop-key.key-index + 1) c.args.keys.now =
    next_of c.args.keys.now c.loop-key.key-index c.key-item.result c.loop-key-test.true
    ∙ ap (λ k. k ∷ drop (c.loop-key.key-index + 1) c.args.keys.now) (sym c.key-item.is) in
    let f =
    passing_front _ _ _ _ _ _ _ _ _ c.key-item.result (drop (c.loop-key.key-index + 1) c.args.keys.now) p step in
    not_read _ f.doc c.in-Err.field-0
    (c.in-Err.ensures.only f.doc (spelled f.others) f.laid (p.parts ∙ ap spelled f.is))

pub returns-in-Err-rewrap_document-clause-rewrapped : goal.returns-in-Err-rewrap_document-clause-rewrapped
returns-in-Err-rewrap_document-clause-rewrapped g c =
    let step : drop c.loop-key.key-index c.args.keys.now
    ≡ c.key-item.result ∷ drop (c.loop-key.key-index + 1) c.args.keys.now =
    next_of c.args.keys.now c.loop-key.key-index c.key-item.result c.loop-key-test.true
    ∙ ap (λ k. k ∷ drop (c.loop-key.key-index + 1) c.args.keys.now) (sym c.key-item.is) in
    passing_fails _ _ _ _ _ _ _ _ _ _ c.key-item.result (drop (c.loop-key.key-index + 1) c.args.keys.now)
    c.loop-key.invariant.passing step c.in-Err-rewrap_document.ensures.written

pub loop-key-preserved : goal.loop-key-preserved
loop-key-preserved g c =
    let p = c.loop-key.invariant.passing in
    let step : drop c.loop-key.key-index c.args.keys.now
    ≡ c.key-item.result ∷ drop (c.loop-key.key-index + 1) c.args.keys.now =
    next_of c.args.keys.now c.loop-key.key-index c.key-item.result c.loop-key-test.true
    ∙ ap (λ k. k ∷ drop (c.loop-key.key-index + 1) c.args.keys.now) (sym c.key-item.is) in
    let f =
    passing_front _ _ _ _ _ _ _ _ _ c.key-item.result (drop (c.loop-key.key-index + 1) c.args.keys.now) p step in
    record {
      passing = passing_next _ _ _ _ _ _ _ _ _ _ _ _ c.key-item.result
          (drop (c.loop-key.key-index + 1) c.args.keys.now) _ _ p step f
          (same_read _ _ _ _ (c.in-Ok.ensures.only f.doc (spelled f.others) f.laid (p.parts ∙ ap spelled f.is)))
          c.in-Ok.ensures.found.1 c.in-Ok-rewrap_document.ensures.size c.in-Ok-rewrap_document.ensures.written;
      index = omega (arith, c.loop-key.invariant.index);
    }

pub returns-clause-rewrapped : goal.returns-clause-rewrapped
returns-clause-rewrapped g c =
    let all : length c.args.keys.now ≤ c.loop-key.key-index = search rules in
    passing_ends _ _ _ _ _ _ _ _ _ c.loop-key.invariant.passing (none_behind c.args.keys.now c.loop-key.key-index all)

pub returns-clause-reloads : goal.returns-clause-reloads
returns-clause-reloads g c =
    let all : length c.args.keys.now ≤ c.loop-key.key-index = search rules in
    made_reloads (seen c.args.masters.now) c.args.bytes.now c.args.keys.now _ _ _
    (λ i. omega (arith, c.type_inv.bytes i)) c.requires.loaded c.requires.whole
    (passing_ends _ _ _ _ _ _ _ _ _ c.loop-key.invariant.passing (none_behind c.args.keys.now c.loop-key.key-index all))
