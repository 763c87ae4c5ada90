-- What the words and the files ask for.
use Rattle.std.specs.Prelude.{ℕ, Bool, true, false, Option, Some, None, List, [], ◌∷◌, length, nat_lt}
use Rattle.std.specs.Prelude.{if◌then◌else◌}
use Rattle.bson_tree.specs.Tree.{Items}
use Rattle.fle_stream.specs.Plan.{Plan, Verdict}
use Rattle.fle_stream.specs.Outcome.{Course, Outcome, finished, outcome}
use Rattle.fle_stream.specs.Pairs.{Pairing, answer_limit, pair_spans, paired}
use Rattle.fle_stream.specs.Streams.{document_limit, documents, documents_within, first_size}
use Rattle.fle_stream.specs.Turn.{Pace}
use Rattle.fle_stream.specs.declared.why.Finish.{Finish}
use Rattle.fle_stream.specs.declared.why.Finish.TheVariants as finishes
use Rattle.fle_stream.specs.declared.why.SetupFault.TheVariants as setups

-- nothing, for this reason; one output that reads no input; each document of the input judged; or pair by pair
pub data Task : Type 0 where
  fails : Finish → Task
  makes : Plan → Task
  each : (Items → Verdict) → Task
  pairs : Pairing → Task

-- what a task comes to over an input
abbrev pub outcome_of : Task → List ℕ → Outcome
outcome_of (fails finish) told = finished finish 0 0
outcome_of (makes plan) told = record {
  finish = finishes.Done;
  number = 0;
  outputs = record { read = 0; documents = 0; plan = plan } ∷ [];
  used = 0;
}
outcome_of (each v) told = outcome v 1 0 (documents told)
outcome_of (pairs w) told = paired w 1 0 (documents_within document_limit answer_limit told)

-- the same from a document on: by its number, the bytes that were taken before and those that are left
abbrev pub course_of : Task → Course
course_of (fails finish) number taken told = outcome_of (fails finish) told
course_of (makes plan) number taken told = outcome_of (makes plan) told
course_of (each v) number taken told = outcome v number taken (documents told)
course_of (pairs w) number taken told = paired w number taken (documents_within document_limit answer_limit told)

-- the task reads the input
abbrev pub reads_input : Task → Bool
reads_input (fails finish) = false
reads_input (makes plan) = false
reads_input (each v) = true
reads_input (pairs w) = true

-- the number of the first document that a task reads; 0 where it reads none
abbrev pub start_of : Task → ℕ
start_of (fails finish) = 0
start_of (makes plan) = 0
start_of (each v) = 1
start_of (pairs w) = 1

-- the bytes of the documents that one step of a task reads of those that are left
abbrev pub spans_of : Task → List ℕ → List ℕ
spans_of (fails finish) told = []
spans_of (makes plan) told = []
spans_of (each v) told = first_size (documents told) (length told) ∷ []
spans_of (pairs w) told = pair_spans (documents_within document_limit answer_limit told) (length told)

-- the most bytes of the second document of a task's input, of the fourth and so on; of the others it is document_limit
abbrev pub other_limit : Task → ℕ
other_limit (fails finish) = document_limit
other_limit (makes plan) = document_limit
other_limit (each v) = document_limit
other_limit (pairs w) = answer_limit

-- one document a step
abbrev pub one_document : Pace
one_document = record { documents = 1; bytes = document_limit }

-- two documents a step
abbrev pub two_documents : Pace
two_documents = record { documents = 2; bytes = answer_limit }

-- how many documents a step of a task reads at most, and how many bytes each of them has at most
abbrev pub pace_of : Task → Pace
pace_of (fails finish) = record { documents = 0; bytes = 0 }
pace_of (makes plan) = record { documents = 0; bytes = 0 }
pace_of (each v) = one_document
pace_of (pairs w) = two_documents

-- the file of this number in the order of the words, of at most `limit` bytes: missing, too long, or what its bytes
-- lead to
abbrev pub with_file : ℕ → ℕ → Option (List ℕ) → (List ℕ → Task) → Task
with_file number limit None next = fails (finishes.Setup number setups.Missing 0)
with_file number limit (Some bytes) next = if nat_lt limit (length bytes) then fails
    (finishes.Setup number setups.TooLong 0) else next bytes
