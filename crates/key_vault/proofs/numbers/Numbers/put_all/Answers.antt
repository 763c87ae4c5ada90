use Rattle.std.proofs.Common.{◌≡◌, ◌<◌, ◌+◌, ◌∙◌, ◌∷◌, ◌&&◌, bytes_eq, cond, Some, drop, get_or, length, sym, ap, rules}
use Rattle.key_vault.specs.Numbers.{number_of}
use Rattle.key_vault.proofs.Numbering.{next_numbered, next_of}
use Rattle.key_vault.proofs.Undone.{changed_next}
use Rattle.key_vault.proofs.numbers.Numbers.put_all.Goals as goal

pub loop-i-preserved : goal.loop-i-preserved
loop-i-preserved c =
    let names = c.args.key.now.names in
    let room : c.loop-i.i < length c.args.key.now.names = search rules in
    let item : get_or c.args.key.now.names c.loop-i.i c.index-names-i.result ≡ c.as_slice.result.now = search rules in (
      next_numbered c.put.new.self c.as_slice.result.now (drop (c.loop-i.i + 1) names) c.loop-i.invariant.0
          (next_of names c.loop-i.i c.index-names-i.result room ∙ ap (λ x. x ∷ drop (c.loop-i.i + 1) names) item)
          (sym c.if-not-branch.false ∙ c.in_ok-put.ensures.new)
          (λ other. c.in_ok-put.ensures.put other
          ∙ ap
          (λ b. cond (b && bytes_eq c.as_slice.result.now other) (Some c.args.number)
          (number_of c.args.keys.now c.loop-i.self other)) c.if-not-branch.false),
      (λ are. c.in_ok-put.ensures.of (c.loop-i.invariant.1 are)),
      changed_next c.put.new.self c.loop-i.i c.index-names-i.result c.as_slice.result.now c.loop-i.invariant.2 room item
          c.put.ensures.only,
    )

pub returns-in_err-put-clause-only : goal.returns-in_err-put-clause-only
returns-in_err-put-clause-only c =
    let room : c.loop-i.i < length c.args.key.now.names = search rules in
    let item : get_or c.args.key.now.names c.loop-i.i c.index-names-i.result ≡ c.as_slice.result.now = search rules in
    changed_next c.put.new.self c.loop-i.i c.index-names-i.result c.as_slice.result.now c.loop-i.invariant.2 room item
    c.put.ensures.only

pub returns-then-not-branch-clause-only : goal.returns-then-not-branch-clause-only
returns-then-not-branch-clause-only c =
    let room : c.loop-i.i < length c.args.key.now.names = search rules in
    let item : get_or c.args.key.now.names c.loop-i.i c.index-names-i.result ≡ c.as_slice.result.now = search rules in
    changed_next c.put.new.self c.loop-i.i c.index-names-i.result c.as_slice.result.now c.loop-i.invariant.2 room item
    c.put.ensures.only
