-- Vaults whose keys are sealed under one IV.
use Rattle.std.proofs.Common.{◌≡◌, ◌∙◌, ℕ, List, length, replicate, Some, ap}
use Rattle.local_kms.specs.Drawn.{Made}
use Rattle.data_key.specs.declared.key_doc.KeyDoc.{KeyDoc}
use Rattle.fle_outside.specs.Blocks.{Block}
use Rattle.fle_outside.specs.Seen.{EntropySeen}
use Rattle.rewrap_keys.specs.Rewrapped.{change, draws_of, rewrapped_file}
use Rattle.fle_bench.proofs.SameBlocks.{first_same}
use Rattle.fle_bench.specs.Vaults.{rewrapped_by}
use Rattle.fle_bench.specs.declared.payload.TheConstants.{IV}

-- a file made with blocks that are all the same
pub rewrapped_same : (from to bytes file : List ℕ) (keys : List KeyDoc) (before after : EntropySeen) (n : ℕ)
    → before.told ≡ Some (replicate n IV)
    → Made before after (draws_of keys) (rewrapped_file (change from to 0) bytes) file
    → file ≡ rewrapped_by from to keys bytes
unfolding rewrapped_by
rewrapped_same from to bytes file keys before after n told made =
    let first = made.draws.first (replicate n IV) told in
    let same : made.blocks ≡ replicate (length made.blocks) IV = first_same n IV made.blocks first.0 first.1 in
    made.is ∙ ap (rewrapped_file (change from to 0) bytes)
    (same ∙ ap (λ (k : ℕ). replicate k IV) made.number)
