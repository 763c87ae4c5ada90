-- What an engine answers is what a judge says.
use Rattle.std.proofs.Common.{ℕ, List, Vec, Global, sym, ap}
use Rattle.bson_tree.specs.Tree.{Items}
use Rattle.context_machine.specs.Rings.{Finder}
use Rattle.doc_rewrite.specs.Opened.{Keyring}
use Rattle.encrypt_schema.specs.Language.Collection.{Collection}
use Rattle.fle_outside.specs.Seen.{EntropySeen}
use Rattle.fle_engine.specs.Answers.{AnswerIs}
use Rattle.fle_engine.specs.Opening.{open_ruling}
use Rattle.fle_engine.specs.Replies.{mark_ruling}
use Rattle.fle_engine.specs.Rulings.{Ruling, makes, refused, too_long}
use Rattle.fle_engine.specs.Sealing.{seal_ruling}
use Rattle.fle_engine.specs.declared.answer.Answer.TheVariants as answers
use Rattle.fle_engine.specs.declared.answer.Refused.{Refused}
use Rattle.fle_engine.specs.declared.answer.Wanted.{Wanted}
use Rattle.fle_files.specs.Numbers.{reason_number}
use Rattle.fle_runner.specs.Decrypt.{decrypt_verdict}
use Rattle.fle_runner.specs.Encrypt.{encrypt_verdict}
use Rattle.fle_runner.specs.Mark.{mark_verdict}
use Rattle.fle_runner.specs.Verdicts.{as_verdict}
use Rattle.fle_stream.specs.Judge.{JudgeIs}
use Rattle.fle_stream.specs.declared.judging.Judged.{Judged}
use Rattle.fle_stream.specs.declared.judging.Judged.TheVariants as judgements

module _ (c : Items) (before after : EntropySeen) where
  pub made_written : (v : Ruling) (output : Vec ℕ Global) → AnswerIs v c before after (answers.Made output)
      → JudgeIs (as_verdict c v) before after (judgements.Written output)
  made_written (makes plan) output is = is
  made_written (refused r) output is = absurd is
  made_written too_long output is = absurd is

  pub refused_as : (v : Ruling) (told : Refused) → AnswerIs v c before after (answers.Refused told)
      → JudgeIs (as_verdict c v) before after (judgements.Refused (reason_number told.reason) told.place)
  refused_as (makes plan) told is = absurd is
  refused_as (refused r) told is = (
    ap (λ (x : Refused). reason_number x.reason) (sym is.0),
    ap (λ (x : Refused). x.place) (sym is.0),
    is.1,
  )
  refused_as too_long told is = absurd is

  pub too_long_as : (v : Ruling) → AnswerIs v c before after answers.TooLong
      → JudgeIs (as_verdict c v) before after judgements.TooLong
  too_long_as (makes plan) is = absurd is
  too_long_as (refused r) is = absurd is
  too_long_as too_long is = is

  pub undrawn_as : (v : Ruling) (wanted : Wanted) → AnswerIs v c before after (answers.Undrawn wanted)
      → JudgeIs (as_verdict c v) before after judgements.Undrawn
  undrawn_as (makes plan) wanted is = record {
    drawn = is.0.drawn;
    fewer = is.0.fewer;
    first = is.0.draws;
    rose = is.0.rose;
    unassured = is.0.unassured;
  }
  undrawn_as (refused r) wanted is = absurd is
  undrawn_as too_long wanted is = absurd is

  pub memory_as : (v : Ruling) → AnswerIs v c before after answers.Memory
      → JudgeIs (as_verdict c v) before after judgements.Memory
  memory_as (makes plan) is = is
  memory_as (refused r) is = is
  memory_as too_long is = is

-- ---- the verdicts of the verbs

pub marks : (infos : List Collection) (db : List ℕ) (c : Items) (before after : EntropySeen) (j : Judged)
    → JudgeIs (as_verdict c (mark_ruling infos db c)) before after j → JudgeIs (mark_verdict infos db c) before after j
unfolding mark_verdict
marks infos db c before after j is = is

pub seals : (keys : Finder) (infos : List Collection) (db : List ℕ) (c : Items) (before after : EntropySeen)
    (j : Judged) → JudgeIs (as_verdict c (seal_ruling keys infos db c)) before after j
    → JudgeIs (encrypt_verdict keys infos db c) before after j
unfolding encrypt_verdict
seals keys infos db c before after j is = is

pub opens : (keys : Keyring) (d : Items) (before after : EntropySeen) (j : Judged)
    → JudgeIs (as_verdict d (open_ruling keys d)) before after j → JudgeIs (decrypt_verdict keys d) before after j
unfolding decrypt_verdict
opens keys d before after j is = is
