-- The words have no form, or that of a verb, whose clauses say all.
use Rattle.std.proofs.Common.{sym, refl, subst}
use Rattle.fle_outside.proofs.Asked.{asks_none}
use Rattle.fle_stream.proofs.Acts.{acts_fails}
use Rattle.fle_stream.specs.Turn.{IsOfStream}
use Rattle.fle_stream.specs.declared.why.Finish.TheVariants as finishes
use Rattle.fle_runner.specs.Keygen.{IsOfKeygen}
use Rattle.fle_runner.specs.Keys.{IsOfKeys, IsOfText}
use Rattle.fle_runner.specs.Rewrap.{IsOfRewrap}
use Rattle.fle_runner.proofs.Asked.{by_decrypt, by_demo, by_encrypt, by_encrypt_with}
use Rattle.fle_runner.proofs.Asked.{by_keygen, by_keys, by_mark, by_none, by_rewrap, by_show, ends_asked}
use Rattle.fle_runner.proofs.Promises.{does_form, does_none}
use Rattle.fle_runner.proofs.VerbEnds.{stream_reads, text_reads}
use Rattle.fle_runner.proofs.act.act.Goals as goal

pub returns-in-Nothing : goal.returns-in-Nothing
returns-in-Nothing g c =
    let asked = sym c.in-Nothing.ensures.asked in
    rw c.unread.ensures.unread (record {
      does = does_none c.args.request.time asked (acts_fails finishes.Words) refl (asks_none _ refl);
      unread = λ _. refl;
      untouched = λ _. (refl, refl, refl);
      verb = ends_asked asked (by_none refl refl);
    })

pub returns-in-Mark : goal.returns-in-Mark
returns-in-Mark g c =
    let asked = sym c.in-Mark.ensures.asked in
    let ends = c.mark.ensures in
    record {
      does = does_form c.args.request.time asked (ends.run _) ends.formed ends.asked;
      unread = λ at. absurd (ends.formed at);
      untouched = λ none. ((ends.untouched none).0, (ends.untouched none).1, refl);
      verb = ends_asked asked (by_mark _ refl ends.formed ends.undrawn);
    }

pub returns-in-Show : goal.returns-in-Show
returns-in-Show g c =
    let asked = sym c.in-Show.ensures.asked in
    let ends = c.show.ensures in
    let run = ends.run (g.F.Folder.seen c.args.files.now) (g.N.Entropy.seen c.args.entropy.now) in
    record {
      does = does_form c.args.request.time asked run (λ at. subst IsOfStream at ends.kind) (asks_none _ refl);
      unread = λ at. absurd (subst IsOfStream at ends.kind);
      untouched = λ none. absurd (stream_reads _ ends.kind none);
      verb = ends_asked asked (by_show _ refl refl ends.kind ends.undrawn run.in_cause);
    }

pub returns-in-Keys : goal.returns-in-Keys
returns-in-Keys g c =
    let asked = sym c.in-Keys.ensures.asked in
    let ends = c.keys.ensures in
    let run = ends.run (g.S.Source.seen c.args.input.now) (g.N.Entropy.seen c.args.entropy.now) in
    record {
      does = does_form c.args.request.time asked run (λ at. subst IsOfKeys at ends.kind) ends.asked;
      unread = λ at. absurd (subst IsOfKeys at ends.kind);
      untouched = λ none. (refl, ends.untouched none, refl);
      verb = ends_asked asked (by_keys _ refl refl ends.kind run.folder_cause);
    }

pub returns-in-Keygen : goal.returns-in-Keygen
returns-in-Keygen g c =
    let asked = sym c.in-Keygen.ensures.asked in
    let ends = c.keygen.ensures in
    let run = ends.run (g.S.Source.seen c.args.input.now) in
    record {
      does = does_form c.args.request.time asked run (λ at. subst IsOfKeygen at ends.kind) ends.asked;
      unread = λ at. absurd (subst IsOfKeygen at ends.kind);
      untouched = λ none. (refl, (ends.untouched none).0, (ends.untouched none).1);
      verb = ends_asked asked (by_keygen _ refl ends.kind run.folder_cause ends.eight_assured ends.none_or_eight);
    }

pub returns-in-Encrypt : goal.returns-in-Encrypt
returns-in-Encrypt g c =
    let asked = sym c.in-Encrypt.ensures.asked in
    let ends = c.encrypt.ensures in
    record {
      does = does_form c.args.request.time asked ends.run ends.formed ends.asked;
      unread = λ at. absurd (ends.formed at);
      untouched = ends.untouched;
      verb = ends_asked asked (by_encrypt _ ends.formed);
    }

pub returns-in-EncryptWith : goal.returns-in-EncryptWith
returns-in-EncryptWith g c =
    let asked = sym c.in-EncryptWith.ensures.asked in
    let ends = c.encrypt_with.ensures in
    record {
      does = does_form c.args.request.time asked ends.run ends.formed ends.asked;
      unread = λ at. absurd (ends.formed at);
      untouched = ends.untouched;
      verb = ends_asked asked (by_encrypt_with _ ends.formed);
    }

pub returns-in-Decrypt : goal.returns-in-Decrypt
returns-in-Decrypt g c =
    let asked = sym c.in-Decrypt.ensures.asked in
    let ends = c.decrypt.ensures in
    record {
      does = does_form c.args.request.time asked (ends.run _) ends.formed ends.asked;
      unread = λ at. absurd (ends.formed at);
      untouched = λ none. ((ends.untouched none).0, (ends.untouched none).1, refl);
      verb = ends_asked asked (by_decrypt _ refl ends.formed ends.undrawn);
    }

pub returns-in-Demo : goal.returns-in-Demo
returns-in-Demo g c =
    let asked = sym c.in-Demo.ensures.asked in
    let ends = c.demo.ensures in
    record {
      does = does_form c.args.request.time asked (ends.run _ _ _) (λ at. subst IsOfText at ends.kind)
          (asks_none _ refl);
      unread = λ at. absurd (subst IsOfText at ends.kind);
      untouched = λ none. absurd (text_reads _ ends.kind none);
      verb = ends_asked asked (by_demo _ refl refl refl ends.kind);
    }

pub returns-in-Rewrap : goal.returns-in-Rewrap
returns-in-Rewrap g c =
    let asked = sym c.in-Rewrap.ensures.asked in
    let ends = c.rewrap.ensures in
    let run = ends.run (g.S.Source.seen c.args.input.now) in
    record {
      does = does_form c.args.request.time asked run (λ at. subst IsOfRewrap at ends.kind) ends.asked;
      unread = λ at. absurd (subst IsOfRewrap at ends.kind);
      untouched = λ none. (refl, (ends.untouched none).0, (ends.untouched none).1);
      verb = ends_asked asked (by_rewrap _ refl ends.kind run.folder_cause ends.unwritten ends.undrawn);
    }
