-- Each step says what the document comes to.
use Rattle.std.proofs.Common.{◌∙◌, ap, sym}
use Rattle.context_machine.specs.Rings.{finder, found_key}
use Rattle.payload6.specs.Needs.{need_seen}
use Rattle.fle_engine.proofs.Explicits.{keyless_value, other_told, reason_told, value_told}
use Rattle.fle_engine.proofs.single.seal_value.Goals as goal

pub returns-in_default-clause-answers : goal.returns-in_default-clause-answers
returns-in_default-clause-answers g c =
    let opener = c.args.opener.now in
    let seen = g.N.Entropy.seen c.args.entropy.now in
    other_told (finder opener.keys opener.cache.master) (need_seen c.args.need) c.args.algorithm
    c.args.document.now.tree c.refuse.result seen seen c.in_default.ensures.only (c.refuse.ensures.answers seen)

pub returns-in-Some-value_reason-clause-answers : goal.returns-in-Some-value_reason-clause-answers
returns-in-Some-value_reason-clause-answers g c =
    let opener = c.args.opener.now in
    let seen = g.N.Entropy.seen c.args.entropy.now in
    reason_told (finder opener.keys opener.cache.master) (need_seen c.args.need) c.args.algorithm
    c.args.document.now.tree c.in-Some.item c.in-Some-value_reason.reason c.start.result
    c.refuse-in-Some-value_reason.result seen seen
    c.in-Some.ensures.only (sym c.in-Some-value_reason.ensures.reason) c.start.ensures.start
    (c.refuse-in-Some-value_reason.ensures.answers seen)

pub returns-in_default-key_by-clause-answers : goal.returns-in_default-key_by-clause-answers
returns-in_default-key_by-clause-answers g c =
    let opener = c.args.opener.now in
    let seen = g.N.Entropy.seen c.args.entropy.now in
    keyless_value (finder opener.keys opener.cache.master) (need_seen c.args.need) c.args.algorithm
    c.args.document.now.tree c.in-Some.item _ c.start-in_default-key_by.result c.refuse-in_default-key_by.result seen
    seen c.in-Some.ensures.only (sym c.in_default-value_reason.ensures.reason)
    (ap (found_key opener.cache.master) (sym c.in_default-key_by.ensures.found)) c.start-in_default-key_by.ensures.start
    (c.refuse-in_default-key_by.ensures.answers seen)

pub returns-in-Ok-clause-answers : goal.returns-in-Ok-clause-answers
returns-in-Ok-clause-answers g c =
    let opener = c.args.opener.now in
    value_told (finder opener.keys opener.cache.master) (need_seen c.args.need) c.args.algorithm
    c.args.document.now.tree c.in-Some.item _ c.seal_found.result (g.N.Entropy.seen c.args.entropy.now)
    (g.N.Entropy.seen c.seal_found.new.entropy)
    c.in-Some.ensures.only (sym c.in_default-value_reason.ensures.reason)
    (ap (found_key opener.cache.master) (sym c.in-Some-key_by.ensures.found) ∙ c.in-Ok.ensures.found)
    (c.seal_found.ensures.answers c.args.document.now.tree)

pub returns-in-Err-clause-answers : goal.returns-in-Err-clause-answers
returns-in-Err-clause-answers g c =
    let opener = c.args.opener.now in
    let seen = g.N.Entropy.seen c.args.entropy.now in
    keyless_value (finder opener.keys opener.cache.master) (need_seen c.args.need) c.args.algorithm
    c.args.document.now.tree c.in-Some.item c.in-Err.reason c.start-in-Err.result c.refuse-in-Err.result seen seen
    c.in-Some.ensures.only (sym c.in_default-value_reason.ensures.reason)
    (ap (found_key opener.cache.master) (sym c.in-Some-key_by.ensures.found) ∙ c.in-Err.ensures.found)
    c.start-in-Err.ensures.start
    (c.refuse-in-Err.ensures.answers seen)
