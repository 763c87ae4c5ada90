-- The database is another, or the command comes to the filter of its keys.
use Rattle.std.proofs.Common.{List, subst, ℕ}
use Rattle.encrypt_schema.specs.Commands.Targets.{rows_of}
use Rattle.fle_engine.specs.Answers.{AnswerIs}
use Rattle.fle_engine.specs.Asked.{command_draws, keys_ruling}
use Rattle.fle_engine.proofs.Sent.{sent_away, sent_home}
use Rattle.fle_engine.proofs.Unmade.{spot_undrawing}
use Rattle.fle_engine.proofs.engine.Engine.keys_wanted.Goals as goal

pub returns-then-not-is_own-clause-answers : goal.returns-then-not-is_own-clause-answers
returns-then-not-is_own-clause-answers c = λ e.
    let engine = c.args.self.now in
    let m = engine.marker in
    let tree = c.args.command.now.tree in
    sent_away m.db.items c.args.db.now (keys_ruling engine.opener.keys m.infos m.db.items tree) tree e c.refuse.result
    c.is_own.result c.is_own.ensures.own c.if-not-is_own.true (c.refuse.ensures.answers e)

pub returns-then-not-is_own-clause-draws : goal.returns-then-not-is_own-clause-draws
returns-then-not-is_own-clause-draws c =
    let tree = c.args.command.now.tree in
    spot_undrawing (command_draws (rows_of c.args.self.now.marker.infos tree) tree) tree _ c.refuse.result
    c.refuse.ensures.answers

pub returns-clause-answers : goal.returns-clause-answers
returns-clause-answers c = λ e.
    let engine = c.args.self.now in
    let m = engine.marker in
    let tree = c.args.command.now.tree in
    sent_home m.db.items c.args.db.now (keys_ruling engine.opener.keys m.infos m.db.items tree) tree e
    c.ask_for_command.result.answer c.is_own.result c.is_own.ensures.own c.if-not-is_own.false
    (subst
    (λ (own : List ℕ).
    AnswerIs (keys_ruling engine.opener.keys m.infos own tree) tree e e c.ask_for_command.result.answer)
    c.deref.ensures.value (c.ask_for_command.ensures.answers e))
