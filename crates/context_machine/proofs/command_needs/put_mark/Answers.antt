-- A text that stood before is needed already; else what was needed is needed still, and so is what the value needs.
use Rattle.std.proofs.Common.{◌∙◌, ap, sym}
use Rattle.doc_rewrite.specs.Sites.{site_of}
use Rattle.context_machine.specs.Needs.{NeedAt, need_at_seen, needs_seen}
use Rattle.context_machine.specs.Rings.{need_at}
use Rattle.context_machine.proofs.NamedAgain.{needed_more, needed_still, on_ok, stands_again}
use Rattle.context_machine.proofs.command_needs.put_mark.Goals as goal

pub returns-then-has-clause-put : goal.returns-then-has-clause-put
returns-then-has-clause-put c =
    let d = c.args.command.now in
    stands_again d (needs_seen c.args.needs.now.items) c.args.names.now
    (need_at (site_of c.args.rows.now d c.args.mark.now)) c.in-Some.span c.requires.names (c.in-Some.ensures.named d)
    (sym c.has.ensures.has ∙ c.if-has.true)

pub returns-in_ok-put_new-in-Some-clause-names : goal.returns-in_ok-put_new-in-Some-clause-names
returns-in_ok-put_new-in-Some-clause-names c =
    let d = c.args.command.now in
    let before = needs_seen c.args.needs.now.items in
    on_ok c.add.result
    (λ put. needed_more d before (needs_seen c.put_new.new.needs.items) c.args.names.now c.add.new.self
    (need_at_seen c.need_at.result) c.in-Some.span c.in_ok-put_new-in-Some.ensures.put
    (ap (λ (n : NeedAt). n.need) c.need_at.ensures.need ∙ c.in-Some.ensures.named d) put c.requires.names)
    c.add.ensures.put

pub returns-in-None-clause-names : goal.returns-in-None-clause-names
returns-in-None-clause-names c =
    on_ok c.put_new-in-None.result
    (λ put. needed_still c.args.command.now (needs_seen c.args.needs.now.items)
    (needs_seen c.put_new-in-None.new.needs.items) c.args.names.now (need_at_seen c.need_at-in-None.result) put
    c.requires.names)
    c.put_new-in-None.ensures.put
