-- Right replies change nothing: what comes of pairs is what comes of the commands.
use Rattle.std.proofs.Common.{◌≡◌, ℕ, ◌^◌, ◌<◌, List, Option, None, length, nat_lt, ap, arith}
use Rattle.bson_tree.specs.Tree.{Items}
use Rattle.command_marker.specs.Marked.{marked}
use Rattle.command_marker.specs.Reply.{is_ruled}
use Rattle.encrypt_schema.specs.Commands.Targets.{rows_of}
use Rattle.encrypt_schema.specs.Commands.Visits.{Refusal, roles}
use Rattle.encrypt_schema.specs.Language.Row.{Row}
use Rattle.fle_engine.specs.Rulings.{at_front}
use Rattle.fle_runner.specs.EncryptWith.{encrypt_pairing, refused_as, wrong_as}
use Rattle.fle_runner.specs.Headline.{Setup, verdict_of}
use Rattle.fle_runner.specs.HeadlinePairs.{AreRightPairs, pairing_of}
use Rattle.fle_stream.specs.Pairs.{AnswersFor, HaveOnePlan, answer_limit, docs_size}
use Rattle.fle_stream.specs.Streams.{Docs, doc, document_limit, documents, documents_within, ends}
use Rattle.fle_stream.specs.Task.{each, outcome_of, pairs}
use Rattle.fle_stream.proofs.Paired.{one_finish, one_plan}
use Rattle.reply_check.specs.Ordered.{ordered}
use Rattle.reply_check.specs.Right.{IsRight}
use Rattle.reply_check.specs.Same.{is_same}
use Rattle.reply_check.specs.Wrong.{wrong_reply}
use Rattle.reply_check.specs.declared.wrong.WrongReply.{WrongReply}
use Rattle.reply_check.proofs.Readings.{nothing_wrong}
use Rattle.reply_check.proofs.Trees.{items_are}

right_none : (rows : List Row) (c r : Items) → IsRight rows c r → wrong_reply rows c (at_front r) ≡ None
right_none rows c r right =
    nothing_wrong (nat_lt 0 (length (roles rows 0 c))) (is_ruled rows c)
    (λ d. is_same (ordered rows c d) (marked rows c)) (λ d. ordered rows c d ≡ marked rows c) (at_front r)
    (λ d same. items_are (ordered rows c d) (marked rows c) same) right

answers_for : (x : Setup) (docs es : Docs) → AreRightPairs x docs es → AnswersFor (pairing_of x) docs es
unfolding encrypt_pairing
answers_for x (ends rest) (ends other) h = h
answers_for x (ends rest) (doc k d es) h = absurd h
answers_for x (doc n c (ends rest)) es h = absurd h
answers_for x (doc n c (doc m r docs)) (ends other) h = absurd h
answers_for x (doc n c (doc m r docs)) (doc k d es) h = (
  h.0,
  h.1,
  ap (λ (v : Option Refusal). refused_as c v) h.2,
  ap (λ (v : Option WrongReply). wrong_as r v) (right_none (rows_of x.infos c) c r h.3),
  answers_for x docs es h.4,
)

pub right_outputs : (x : Setup) (told other : List ℕ)
    → AreRightPairs x (documents_within document_limit answer_limit told) (documents other)
    → docs_size (documents_within document_limit answer_limit told) < 2 ^ 40 → docs_size (documents other) < 2 ^ 40
    → HaveOnePlan (outcome_of (pairs (pairing_of x)) told).outputs (outcome_of (each (verdict_of x)) other).outputs
unfolding encrypt_pairing
right_outputs x told other right few less =
    let docs = documents_within document_limit answer_limit told in
    let es = documents other in
    one_plan (pairing_of x) docs es 1 0 1 0 (answers_for x docs es right) (omega (arith, few)) (omega (arith, less))

pub right_end : (x : Setup) (told other : List ℕ)
    → AreRightPairs x (documents_within document_limit answer_limit told) (documents other)
    → docs_size (documents_within document_limit answer_limit told) < 2 ^ 40 → docs_size (documents other) < 2 ^ 40
    → (outcome_of (pairs (pairing_of x)) told).finish ≡ (outcome_of (each (verdict_of x)) other).finish
unfolding encrypt_pairing
right_end x told other right few less =
    let docs = documents_within document_limit answer_limit told in
    let es = documents other in
    one_finish (pairing_of x) docs es 1 0 1 0 (answers_for x docs es right) (omega (arith, few)) (omega (arith, less))
