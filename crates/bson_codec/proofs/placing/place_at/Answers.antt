-- The way ends at the value, in a raw value, or at an offset that no element holds; else it goes on.
use Rattle.std.proofs.Common.{◌≡◌, ◌+◌, [], ◌∷◌, ◌++◌, sym, ◌∙◌, arith}
use Rattle.std.proofs.lemmas.Grind.{common_steps}
use Rattle.bson_tree.specs.Places.{place_of}
use Rattle.bson_codec.proofs.Turns.{place_is, ends_nowhere, ends_here, ends_in_leaf, goes_on, is_smaller}
use Rattle.bson_codec.proofs.placing.place_at.Goals as goal
use Rattle.bson_codec.proofs.placing.place_at.Goals.{in-Some+else-is_err+else-start-at+in-None, in_default}

pub loop-number-init : goal.loop-number-init
loop-number-init c =
    let whole = place_is c.args.at c.args.document.now.tree in
    let root : c.args.document.now.start + 4 ≡ 4 = omega (arith, c.requires.whole) in
    cc (c.again-inner.ensures.same, c.new-steps.ensures.items)

pub returns-then-start-at : goal.returns-then-start-at
returns-then-start-at c =
    let l = c.loop-number in
    let here = ends_here l.steps.items c.args.at 0
    (l.inner.start + 4) l.inner.tree c.in-Some.number c.in-Some.item c.in-Some.ensures.found
    (sym c.start.ensures.start ∙ c.if-start-at.true) in
    let pushed : c.push.new.self.items ≡ l.steps.items ++ c.in-Some.number ∷ [] = grind (arith, common_steps) in
    let whole : c.push.new.self.items ≡ place_of c.args.at c.args.document.now.tree = cc in
    record { place = c.from_vec.ensures.same ∙ whole }

pub loop-number-smaller : goal.loop-number-smaller
loop-number-smaller c =
    let l = c.loop-number in
    is_smaller l.steps.items c.args.at 0 (l.inner.start + 4) l.inner.tree c.in-Some.number c.in-Some.item
    c.in-Some.ensures.found _ _ c.in-Some-child.ensures.node

pub loop-number-preserved : goal.loop-number-preserved
loop-number-preserved c =
    let l = c.loop-number in
    let on = goes_on l.steps.items c.args.at 0 (l.inner.start + 4) l.inner.tree c.in-Some.number c.in-Some.item
    c.in-Some.ensures.found _ _
    (λ same. c.if-start-at.false (c.start.ensures.start ∙ same)) c.in-Some-child.ensures.node in
    let pushed : c.push.new.self.items ≡ l.steps.items ++ c.in-Some.number ∷ [] = grind (arith, common_steps) in
    cc (c.in-Some-child.ensures.start)

pub returns : goal.returns
returns c =
    let l = c.loop-number in
    let place = place_of c.args.at c.args.document.now.tree in
    let none : [] ≡ place =
    elim c.match-child_holding.branch [
      | in-Some+else-is_err+else-start-at+in-None w ↦
          sym (l.invariant ∙ ends_in_leaf l.steps.items c.args.at 0
          (l.inner.start + 4) l.inner.tree w.in-Some.number w.in-Some.item w.in-Some.ensures.found _ _
          (λ same. w.if-start-at.false (w.start.ensures.start ∙ same)) w.in-None.ensures.node)
      | in_default w ↦ sym (l.invariant ∙ ends_nowhere l.steps.items c.args.at 0
          (l.inner.start + 4) l.inner.tree w.in_default.ensures.found)
    ] in
    record { place = c.from_vec-2.ensures.same ∙ c.new.ensures.items ∙ none }
