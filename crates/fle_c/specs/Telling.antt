-- What a call tells its caller: statuses, reasons, places, lengths and random bytes.
use Rattle.std.specs.Prelude.{◌≡◌, ℕ, ◌-◌, ◌*◌, ◌/◌, ◌<◌, ◌^◌, List, ◌++◌, length, drop, nat_lt, if◌then◌else◌}
use Rattle.std.specs.Prelude.{Result, Ok, Err}
use Rattle.bson_codec.specs.Fault.{kind_number}
use Rattle.bson_codec.specs.declared.fault.BsonFault.{BsonFault}
use Rattle.encrypt_schema.specs.Commands.Reasons.{reason_code}
use Rattle.encrypt_schema.specs.declared.command.reason.Reason.{Reason}
use Rattle.fle_client.specs.declared.client.NoAnswer.{NoAnswer}
use Rattle.fle_client.specs.declared.client.NoAnswer.TheVariants as unanswered
use Rattle.fle_engine.specs.declared.answer.Answer.{Answer}
use Rattle.fle_engine.specs.declared.answer.Answer.TheVariants as answers
use Rattle.fle_engine.specs.declared.loading.EngineFault.{EngineFault}
use Rattle.fle_engine.specs.declared.loading.EngineFault.TheVariants as faults
use Rattle.fle_stream.specs.Codes.{setup_code}
use Rattle.fle_c.specs.declared.told.Told.{Told}

-- a status that has nothing else to tell
abbrev pub bare : ℕ → Told
bare status = record { status = status; reason = 0; file = 0; place = 0; length = 0; random = 0 }

-- a status with an output's length, and with the random bytes that it takes
abbrev pub sized : ℕ → ℕ → ℕ → Told
sized status n random =
    record { status = status; reason = 0; file = 0; place = 0; length = n; random = random }

-- an output of so many bytes is written, and so many random bytes were used
abbrev pub done : ℕ → ℕ → Told
done n random = sized 0 n random

-- too few random bytes were handed in: an output of so many bytes wants so many
abbrev pub random_wanted : ℕ → ℕ → Told
random_wanted n random = sized 7 n random

-- an output of so many bytes, which wants so many random bytes, has too little room
abbrev pub room_wanted : ℕ → ℕ → Told
room_wanted n random = sized 10 n random

-- the limit of this number is passed
abbrev pub passed : ℕ → Told
passed limit = record { status = 9; reason = limit; file = 0; place = 0; length = 0; random = 0 }

-- the bytes are no document
abbrev pub malformed : BsonFault → Told
malformed fault = record {
  status = 3;
  reason = kind_number fault.kind;
  file = 0;
  place = fault.offset;
  length = 0;
  random = 0;
}

-- there is no client, or a document doesn't fill one
abbrev pub fault_told : EngineFault → Told
fault_told faults.Database = bare 2
fault_told (faults.File file fault document) = record {
  status = 4;
  reason = setup_code fault;
  file = file;
  place = document;
  length = 0;
  random = 0;
}
fault_told faults.Memory = bare 8

-- a client has no answer to a command: it has no master key, which is told as where none is open; or it wasn't told of
-- the command's collection
abbrev pub unanswered_told : NoAnswer → Told
unanswered_told unanswered.NoMaster = bare 11
unanswered_told unanswered.NoInfo = bare 13

-- an output that takes so many random bytes, for which there is this room, is told by its length, or by the length
-- that is wanted
abbrev pub made_told : ℕ → List ℕ → List ℕ → Told
made_told random room output =
    if nat_lt (length room) (length output) then room_wanted (length output) random else done (length output) random

-- an output that has room stands in front; else nothing is written
abbrev pub made_out : List ℕ → List ℕ → List ℕ
made_out room output = if nat_lt (length room) (length output) then room else output ++ drop (length output) room

-- a document is refused, for a reason, at an offset
abbrev pub refused_told : Reason → ℕ → Told
refused_told reason at = record {
  status = 1;
  reason = reason_code reason;
  file = 0;
  place = at;
  length = 0;
  random = 0;
}

-- what is told of an answer with so many random bytes, for which there is this room
abbrev pub answer_told : ℕ → List ℕ → Answer → Told
answer_told random room (answers.Made output) = made_told random room output.items
answer_told random room (answers.Refused r) = refused_told r.reason r.at
answer_told random room answers.TooLong = passed 2
answer_told random room (answers.Undrawn wanted) = random_wanted wanted.size random
answer_told random room answers.Memory = bare 8

-- what is written there of an answer: a whole output, or nothing
abbrev pub answer_out : List ℕ → Answer → List ℕ
answer_out room (answers.Made output) = made_out room output.items
answer_out room _ = room

-- an answer is told with so many random bytes, and written as far as it may be
pub record Shows (random : ℕ) (answer : Answer) (before after : List ℕ) (told : Told) : Type 0 where
  pub numbers : told ≡ answer_told random before answer
  pub out : after ≡ answer_out before answer

-- the random bytes of an answer: of an output those that were used, by the number of bytes that were handed in and of
-- those that are left; 16 for each block that is wanted where there were too few; else none
abbrev pub random_of : Answer → ℕ → ℕ → ℕ
random_of (answers.Made output) handed left = 16 * (handed / 16 - left / 16)
random_of (answers.Undrawn wanted) handed left = 16 * wanted.draws
random_of _ handed left = 0

-- the random bytes of what a client answers, where it does; else none
abbrev pub reply_random : Result Answer NoAnswer → ℕ → ℕ → ℕ
reply_random (Ok answer) handed left = random_of answer handed left
reply_random (Err why) handed left = 0

-- so many random bytes can be counted
abbrev pub AreCounted : Answer → Type 0
AreCounted (answers.Undrawn wanted) = 16 * wanted.draws < 2 ^ 64
AreCounted _ = Unit {0}
