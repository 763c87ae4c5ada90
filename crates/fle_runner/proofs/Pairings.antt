-- What an engine answers of a pair is what is said of it in a stream.
use Rattle.std.proofs.Common.{◌≡◌, ℕ, List, Option, Some, None, Err, refl, sym, subst}
use Rattle.bson_tree.specs.Tree.{Items}
use Rattle.context_machine.specs.Rings.{Finder}
use Rattle.encrypt_schema.specs.Commands.Targets.{verdict}
use Rattle.encrypt_schema.specs.Commands.Visits.{Refusal}
use Rattle.encrypt_schema.specs.Language.Collection.{Collection}
use Rattle.fle_engine.specs.Checking.{AcceptsAs, TakesAs, wrong_to}
use Rattle.fle_engine.specs.Sealing.{seal_ruling}
use Rattle.fle_engine.specs.declared.answer.Refused.{Refused}
use Rattle.fle_engine.specs.declared.checking.Declined.TheVariants as declines
use Rattle.fle_engine.specs.declared.checking.Untaken.TheVariants as untaken
use Rattle.fle_files.specs.Numbers.{reason_number}
use Rattle.fle_outside.specs.Seen.{EntropySeen}
use Rattle.fle_runner.specs.Encrypt.{encrypt_verdict}
use Rattle.fle_runner.specs.EncryptWith.{encrypt_pairing, missing_number, refused_as, wrong_as, wrong_number}
use Rattle.fle_runner.specs.Verdicts.{as_verdict}
use Rattle.fle_stream.specs.Check.{CheckIs}
use Rattle.fle_stream.specs.Judge.{JudgeIs}
use Rattle.fle_stream.specs.Pairs.{Refused as Refusing}
use Rattle.fle_stream.specs.declared.judging.Judged.{Judged}
use Rattle.fle_stream.specs.declared.pairing.Checked.{Checked}
use Rattle.fle_stream.specs.declared.pairing.Checked.TheVariants as checks
use Rattle.reply_check.specs.declared.wrong.WrongReply.{WrongReply}

-- ---- a command by itself

pub accepted_passes : (refusal : Option Refusal) (c : Items) → refusal ≡ None
    → CheckIs (refused_as c refusal) checks.Passes
accepted_passes refusal c none =
    subst (λ (r : Option Refusal). CheckIs (refused_as c r) checks.Passes) (sym none) tt

pub declined_refused : (refusal : Option Refusal) (c : Items) (told : Refused)
    → AcceptsAs refusal c (Err (declines.Refused told))
    → CheckIs (refused_as c refusal) (checks.Refused (reason_number told.reason) told.place)
declined_refused refusal c told says =
    subst (λ (r : Option Refusal). CheckIs (refused_as c r) (checks.Refused (reason_number told.reason) told.place))
    (sym says.0) (refl, sym says.1)

pub check_memory : (r : Refusing) → CheckIs r checks.Memory
check_memory None = tt
check_memory (Some why) = tt

-- ---- its reply

pub taken_passes : (wrong : Option WrongReply) (r : Items) → wrong ≡ None → CheckIs (wrong_as r wrong) checks.Passes
taken_passes wrong r none =
    subst (λ (w : Option WrongReply). CheckIs (wrong_as r w) checks.Passes) (sym none) tt

pub untaken_refused : (wrong : Option WrongReply) (r : Items) (told : WrongReply) (place : List ℕ)
    → TakesAs wrong r (Err (untaken.Wrong told place))
    → CheckIs (wrong_as r wrong) (checks.Refused (wrong_number told) place)
untaken_refused wrong r told place says =
    subst (λ (w : Option WrongReply). CheckIs (wrong_as r w) (checks.Refused (wrong_number told) place))
    (sym says.0) (refl, sym says.1)

-- ---- the pairing of the verb

module _ (keys : Finder) (infos : List Collection) (db : List ℕ) where
  pub missing_is : missing_number ≡ (encrypt_pairing keys infos db).missing
  unfolding encrypt_pairing
  missing_is = refl

  pub opens_is : (c : Items) (answer : Checked) → CheckIs (refused_as c (verdict db infos 0 c)) answer
      → CheckIs ((encrypt_pairing keys infos db).opens c) answer
  unfolding encrypt_pairing
  opens_is c answer is = is

  pub answers_is : (c r : Items) (answer : Checked) → CheckIs (wrong_as r (wrong_to infos c r)) answer
      → CheckIs ((encrypt_pairing keys infos db).answers c r) answer
  unfolding encrypt_pairing
  answers_is c r answer is = is

  unrefused : (c : Items) (refusal : Option Refusal) → refused_as c refusal ≡ None → refusal ≡ None
  unrefused c None none = refl
  unrefused c (Some r) none = cc

  pub opened_is : (c : Items) → (encrypt_pairing keys infos db).opens c ≡ None → verdict db infos 0 c ≡ None
  unfolding encrypt_pairing
  opened_is c none = unrefused c (verdict db infos 0 c) none

  pub comes_is : (c : Items) (before after : EntropySeen) (j : Judged)
      → JudgeIs (as_verdict c (seal_ruling keys infos db c)) before after j
      → JudgeIs ((encrypt_pairing keys infos db).comes c) before after j
  unfolding encrypt_pairing encrypt_verdict
  comes_is c before after j is = is
