-- What rewrapping a vault answers.
use Rattle.std.specs.Prelude.{◌≡◌, ℕ, ◌+◌, List, ◌++◌, take, length, Vec, Some, None, Result, Ok, Err}
use Rattle.std.specs.Global.{Global}
use Rattle.bson_tree.specs.Tree.{Items}
use Rattle.bson_tree.specs.Spelling.{doc_bytes}
use Rattle.data_key.specs.declared.key_doc.KeyDoc.{KeyDoc}
use Rattle.fle_outside.specs.Blocks.{Block}
use Rattle.fle_outside.specs.Seen.{Draws, EntropySeen}
use Rattle.fle_outside.specs.declared.answers.Failed.{Failed}
use Rattle.local_kms.specs.Drawn.{Made, FellShort}
use Rattle.rewrap_keys.specs.Rewrapped.{Change, draws_by, draws_of, first_damaged, new_document}
use Rattle.rewrap_keys.specs.Rewrapped.{rewrapped_file}
use Rattle.rewrap_keys.specs.declared.rewrapping.RewrapFault.{RewrapFault}
use Rattle.rewrap_keys.specs.declared.rewrapping.RewrapFault.TheVariants as faults

-- MongoDB Client Side Encryption, "rewrapManyDataKey": `Damaged` exactly where a key is, with the first one; else the
-- file made of a block for each local key; or a draw failed, after fewer blocks; or there was no memory
abbrev pub Rewraps : Change → List ℕ → List KeyDoc → EntropySeen → EntropySeen → Result (Vec ℕ Global) RewrapFault
    → Type 0
Rewraps c bytes keys before after (Ok out) =
    (first_damaged c.from keys ≡ None) × Made before after (draws_of keys) (rewrapped_file c bytes) out.items
Rewraps c bytes keys before after (Err (faults.Damaged document)) = first_damaged c.from keys ≡ Some document
Rewraps c bytes keys before after (Err faults.EntropyFailed) =
    (first_damaged c.from keys ≡ None) × FellShort before after (draws_of keys)
Rewraps c bytes keys before after (Err faults.Memory) = first_damaged c.from keys ≡ None

-- the same for the pass that draws and writes, where no key is damaged
abbrev pub RewrapsAll : Change → List ℕ → List KeyDoc → EntropySeen → EntropySeen → List ℕ → Result (Unit {0}) Failed
    → Type 0
RewrapsAll c bytes keys before after out (Ok _) = Made before after (draws_of keys) (rewrapped_file c bytes) out
RewrapsAll c bytes keys before after out (Err _) = FellShort before after (draws_of keys)

-- one document was written behind `at`, with the blocks that its key draws
pub record WroteOne (c : Change) (d : Items) (k : KeyDoc) (before after : EntropySeen) (old new : List ℕ)
    (at end : ℕ) : Type 0 where
  pub drawn : List Block
  pub number : length drawn ≡ draws_by k.provider
  pub draws : Draws before after drawn
  pub written : take end new ≡ take at old ++ doc_bytes (new_document c drawn d k.provider k.material)
  pub ends : end ≡ at + length (doc_bytes d)

-- a document was written, or a draw failed
abbrev pub WritesOne : Change → Items → KeyDoc → EntropySeen → EntropySeen → List ℕ → List ℕ → ℕ → Result ℕ Failed
    → Type 0
WritesOne c d k before after old new at (Ok end) = WroteOne c d k before after old new at end
WritesOne c d k before after old new at (Err _) = FellShort before after (draws_by k.provider)
