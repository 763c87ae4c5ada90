-- What is said of a command by itself, and of a reply to it that came from elsewhere.
use Rattle.std.specs.Prelude.{◌≡◌, ℕ, List, Option, Some, None, Result, Ok, Err}
use Rattle.bson_tree.specs.Places.{place_of}
use Rattle.bson_tree.specs.Tree.{Items}
use Rattle.encrypt_schema.specs.Commands.Targets.{rows_of}
use Rattle.encrypt_schema.specs.Commands.Visits.{Refusal}
use Rattle.encrypt_schema.specs.Language.Collection.{Collection}
use Rattle.reply_check.specs.Wrong.{wrong_reply}
use Rattle.reply_check.specs.declared.wrong.WrongReply.{WrongReply}
use Rattle.reply_check.specs.declared.wrong.WrongReply.TheVariants as wrongs
use Rattle.fle_engine.specs.Rulings.{at_front}
use Rattle.fle_engine.specs.declared.checking.Declined.{Declined}
use Rattle.fle_engine.specs.declared.checking.Declined.TheVariants as declines
use Rattle.fle_engine.specs.declared.checking.Untaken.{Untaken}
use Rattle.fle_engine.specs.declared.checking.Untaken.TheVariants as untaken

-- the command is accepted, or this refuses it, with the place of the value that begins at its offset; want of memory
-- may come at any time
abbrev pub AcceptsAs : Option Refusal → Items → Result (Unit {0}) Declined → Type 0
AcceptsAs refusal c (Ok _) = refusal ≡ None
AcceptsAs refusal c (Err (declines.Refused told)) =
    (refusal ≡ Some (record { reason = told.reason; at = told.at })) × (told.place ≡ place_of told.at c)
AcceptsAs refusal c (Err declines.Memory) = Unit {0}

-- what is wrong with a reply to a command of this database under these infos
abbrev pub wrong_to : List Collection → Items → Items → Option WrongReply
wrong_to infos c r = wrong_reply (rows_of infos c) c (at_front r)

-- the offset at which a reply is wrong
abbrev pub offset_of : WrongReply → ℕ
offset_of (wrongs.Shape at) = at
offset_of (wrongs.Differs at) = at

-- the reply is right, or this is wrong, with the place of the value that begins at its offset; want of memory may come
-- at any time
abbrev pub TakesAs : Option WrongReply → Items → Result (Unit {0}) Untaken → Type 0
TakesAs wrong r (Ok _) = wrong ≡ None
TakesAs wrong r (Err (untaken.Wrong told place)) = (wrong ≡ Some told) × (place ≡ place_of (offset_of told) r)
TakesAs wrong r (Err untaken.Memory) = Unit {0}
