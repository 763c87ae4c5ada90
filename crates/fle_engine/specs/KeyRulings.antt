-- MongoDB Client Side Encryption, "rewrapManyDataKey" and "Data key creation": what a key document comes to.
use Rattle.std.specs.Prelude.{◌≡◌, ◌<◌, ◌≤◌, ℕ, List, length, Option, Some, None, Result, Ok, Err, Vec}
use Rattle.std.specs.Global.{Global}
use Rattle.bson_tree.specs.Tree.{Items}
use Rattle.data_key.specs.declared.key_doc.KeyDoc.{KeyDoc}
use Rattle.fle_outside.specs.Seen.{EntropySeen}
use Rattle.fle_stream.specs.Plan.{Plan}
use Rattle.local_kms.specs.Document.{document_size, new_document}
use Rattle.local_kms.specs.Drawn.{Made}
use Rattle.rewrap_keys.specs.Rewrapped.{Change, change, draws_of, first_damaged, rewrapped_file}
use Rattle.fle_engine.specs.Loading.{keys_in, master_key_in}
use Rattle.fle_engine.specs.NewNames.{new_names}
use Rattle.fle_engine.specs.declared.key_stop.KeyStop.{KeyStop}
use Rattle.fle_engine.specs.declared.key_stop.KeyStop.TheVariants as key_stops
use Rattle.fle_engine.specs.declared.loading.EngineFault.{EngineFault}
use Rattle.fle_engine.specs.declared.loading.EngineFault.TheVariants as faults
use Rattle.rewrap_keys.specs.declared.rewrapping.RewrapFault.{RewrapFault}
use Rattle.rewrap_keys.specs.declared.rewrapping.RewrapFault.TheVariants as rewrap_faults

-- what a key document comes to: one is made, whose bytes are a function of the random blocks that it draws; or why none
-- is
pub data KeyRuling : Type 0 where
  makes_key : Plan → KeyRuling
  stops : KeyStop → KeyRuling

-- what is made of a file of key documents: the file under the new master key, as long as it was, of a block for each
-- local key
abbrev pub rewrap_plan : Change → List ℕ → List KeyDoc → Plan
rewrap_plan c bytes keys = record { draws = draws_of keys; size = length bytes; bytes = rewrapped_file c bytes }

-- a new key: eight random blocks become its document
abbrev pub keygen_plan : List (List ℕ) → ℕ → List ℕ → Plan
keygen_plan names now master = record {
  draws = 8;
  size = document_size names now;
  bytes = new_document master names now;
}

-- keys of which one doesn't open come to nothing
abbrev pub whole_ruling : Option ℕ → Plan → KeyRuling
whole_ruling None plan = makes_key plan
whole_ruling (Some document) plan = stops key_stops.Damaged

-- the key documents in these bytes under a new master key, by what both are read as: the first fault is that of the key
-- documents
abbrev pub rewrap_by : List ℕ → ℕ → List ℕ → Result (List KeyDoc) EngineFault → Result (List ℕ) EngineFault
    → KeyRuling
rewrap_by from time bytes (Err fault) to = stops (key_stops.Faulty fault)
rewrap_by from time bytes (Ok keys) (Err fault) = stops (key_stops.Faulty fault)
rewrap_by from time bytes (Ok keys) (Ok to) =
    whole_ruling (first_damaged from keys) (rewrap_plan (change from to time) bytes keys)

-- the key documents in these bytes, which are under this master key, at this time under the one in the other bytes
unfoldable pub rewrap_ruling : List ℕ → ℕ → List ℕ → List ℕ → KeyRuling
rewrap_ruling from time master bytes = rewrap_by from time bytes (keys_in bytes) (master_key_in master)

-- a new key with these names, where they are such as a new key can have
abbrev pub named_ruling : List ℕ → ℕ → Option (List (List ℕ)) → KeyRuling
named_ruling master time None = stops key_stops.Names
named_ruling master time (Some names) = makes_key (keygen_plan names time master)

-- a new key under this master key, made at this time, with the names in a document
unfoldable pub new_key_ruling : List ℕ → ℕ → Items → KeyRuling
new_key_ruling master time d = named_ruling master time (new_names d)

-- what is answered: the document of the blocks that were drawn; that fewer blocks were to be had, with what is wanted;
-- or why there is none. Want of memory may come at any time
abbrev pub KeyAnswerIs : KeyRuling → EntropySeen → EntropySeen → Result (Vec ℕ Global) KeyStop → Type 0
KeyAnswerIs (makes_key plan) before after (Ok output) =
    Made before after plan.draws plan.bytes output.items × (length output.items ≡ plan.size)
KeyAnswerIs (makes_key plan) before after (Err (key_stops.Undrawn wanted)) =
    (before.assured < plan.draws) × (wanted ≡ record { size = plan.size; draws = plan.draws })
KeyAnswerIs (makes_key plan) before after (Err key_stops.Memory) = Unit {0}
KeyAnswerIs (stops why) before after (Err key_stops.Memory) = Unit {0}
KeyAnswerIs (stops why) before after (Err (key_stops.Faulty fault)) = why ≡ key_stops.Faulty fault
KeyAnswerIs (stops why) before after (Err key_stops.Damaged) = why ≡ key_stops.Damaged
KeyAnswerIs (stops why) before after (Err key_stops.Names) = why ≡ key_stops.Names
KeyAnswerIs _ before after _ = ⊥

-- why there is no key document where the bytes of one, or of a master key, are at fault
abbrev pub stop_of : EngineFault → KeyStop
stop_of faults.Database = key_stops.Faulty faults.Database
stop_of (faults.File file fault document) = key_stops.Faulty (faults.File file fault document)
stop_of faults.Memory = key_stops.Memory

-- why a file of so many bytes, whose keys draw so many blocks, isn't rewrapped
abbrev pub stop_for : ℕ → ℕ → RewrapFault → KeyStop
stop_for size draws (rewrap_faults.Damaged document) = key_stops.Damaged
stop_for size draws rewrap_faults.EntropyFailed = key_stops.Undrawn (record { size = size; draws = draws })
stop_for size draws rewrap_faults.Memory = key_stops.Memory

-- no more blocks are wanted than a file has bytes
abbrev pub WantsFew : Result (Vec ℕ Global) KeyStop → Type 0
WantsFew (Err (key_stops.Undrawn wanted)) = wanted.draws ≤ 67108864
WantsFew _ = Unit {0}
