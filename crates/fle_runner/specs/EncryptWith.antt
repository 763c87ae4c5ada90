-- `encrypt-with DB KEYS SCHEMAS MASTER`: each command with its protected values sealed, once the marking reply behind
-- it was found right.
use Rattle.std.specs.Prelude.{ℕ, Option, option_map, List}
use Rattle.bson_tree.specs.Places.{place_of}
use Rattle.bson_tree.specs.Tree.{Items}
use Rattle.context_machine.specs.Rings.{Finder, finder}
use Rattle.encrypt_schema.specs.Commands.Targets.{verdict}
use Rattle.encrypt_schema.specs.Commands.Visits.{Refusal}
use Rattle.encrypt_schema.specs.Language.Collection.{Collection}
use Rattle.fle_engine.specs.Checking.{offset_of, wrong_to}
use Rattle.fle_files.specs.Numbers.{reason_number}
use Rattle.fle_stream.specs.Pairs.{Pairing, Refused}
use Rattle.fle_stream.specs.Task.{Task, pairs}
use Rattle.fle_stream.specs.declared.why.Number.{Number}
use Rattle.reply_check.specs.declared.wrong.WrongReply.{WrongReply}
use Rattle.reply_check.specs.declared.wrong.WrongReply.TheVariants as wrongs
use Rattle.fle_runner.specs.Encrypt.{encrypt_verdict, with_sealing}

-- the reason of a reply whose shape is wrong, and of one that differs from the right one
abbrev pub wrong_number : WrongReply → Number
wrong_number (wrongs.Shape at) = record { value = 25 }
wrong_number (wrongs.Differs at) = record { value = 26 }

-- that of none at all
abbrev pub missing_number : Number
missing_number = record { value = 27 }

-- a refusal of a command, with the number of its reason, and the place of the value that begins at its offset
abbrev pub refused_as : Items → Option Refusal → Refused
refused_as c refusal = option_map (λ r. (reason_number r.reason, place_of r.at c)) refusal

-- what is wrong with a reply, likewise
abbrev pub wrong_as : Items → Option WrongReply → Refused
wrong_as r wrong = option_map (λ w. (wrong_number w, place_of (offset_of w) r)) wrong

-- a command is refused by itself as `encrypt` refuses it; its reply where it isn't the right one; else the command
-- comes to what it comes to with `encrypt`
unfoldable pub encrypt_pairing : Finder → List Collection → List ℕ → Pairing
encrypt_pairing keys infos db = record {
  opens = λ c. refused_as c (verdict db infos 0 c);
  answers = λ c r. wrong_as r (wrong_to infos c r);
  comes = encrypt_verdict keys infos db;
  missing = missing_number;
}

-- each command is sealed, once its reply is right
abbrev pub encrypt_with_task : List ℕ → Option (List ℕ) → Option (List ℕ) → Option (List ℕ) → Task
encrypt_with_task db keys schemas master =
    with_sealing keys schemas master (λ held. pairs (encrypt_pairing (finder held.keys held.master) held.infos db))
