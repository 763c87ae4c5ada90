-- The document is opened, or isn't.
use Rattle.std.proofs.Common.{◌∙◌, ◌≤◌, Err, Ok, ap, arith, length, subst, take}
use Rattle.bson_tree.specs.Spelling.{doc_bytes}
use Rattle.doc_rewrite.specs.Keys.{key_by_id}
use Rattle.doc_rewrite.specs.Opened.{ring_of}
use Rattle.context_machine.proofs.Finishing.{filled, opened_as, opens_as, opens_asked, short_as, stays_as}
use Rattle.context_machine.specs.States.{Opens}
use Rattle.context_machine.proofs.decrypt_ready.DecryptReady.finalize.Goals as goal

pub returns-in-Ok-clause-done : goal.returns-in-Ok-clause-done
returns-in-Ok-clause-done g c =
    opened_as c.self.inside.asked.document c.self.inside.asked.kept c.self.inside.table _ c.args.self c.new.result
    c.self.view_is c.new.ensures.done

pub returns-in-Ok-clause-opened : goal.returns-in-Ok-clause-opened
returns-in-Ok-clause-opened g c =
    opens_as c.self.inside.asked.document c.self.inside.asked.kept c.self.inside.table c.open_through.new.out _
    c.in-Ok.n c.args.self c.new.result c.self.view_is c.new.ensures.done
    (c.truncate.ensures.items ∙ ap (take c.in-Ok.n) (filled c.self.inside.out.items c.open_through.new.out
    c.self.inside.out.len (c.open_through.ensures.size ∙ ap length c.deref_mut.ensures.value)
    (omega (arith, c.deref_mut.ensures.len, ap length c.deref_mut.ensures.value))))
    (opens_asked c.asked.inside.document c.asked.inside.wanted.kept c.self.inside.asked
    (ring_of (key_by_id c.self.inside.table.ids)) c.open_through.new.out (Ok c.in-Ok.n) c.asked.view_is
    c.in-Ok.ensures.opened)

pub returns-in-Ok-clause-short : goal.returns-in-Ok-clause-short
returns-in-Ok-clause-short g c =
    short_as c.self.inside.asked.document c.self.inside.asked.kept c.self.inside.table c.open_through.new.out _
    c.in-Ok.n c.args.self c.new.result c.self.view_is c.new.ensures.done
    (c.truncate.ensures.items ∙ ap (take c.in-Ok.n) (filled c.self.inside.out.items c.open_through.new.out
    c.self.inside.out.len (c.open_through.ensures.size ∙ ap length c.deref_mut.ensures.value)
    (omega (arith, c.deref_mut.ensures.len, ap length c.deref_mut.ensures.value))))
    (subst (λ (a : Opens). c.in-Ok.n ≤ length (doc_bytes a.document.tree)) c.asked.view_is c.in-Ok.ensures.short)

pub returns-clause-refused : goal.returns-clause-refused
returns-clause-refused g c =
    stays_as c.self.inside.asked.document c.self.inside.asked.kept c.self.inside.table c.open_through.new.out
    c.in-Err.spot c.args.self c.self.view_is
    (opens_asked c.asked.inside.document c.asked.inside.wanted.kept c.self.inside.asked
    (ring_of (key_by_id c.self.inside.table.ids)) c.open_through.new.out (Err c.in-Err.spot) c.asked.view_is
    c.in-Err.ensures.opened)
