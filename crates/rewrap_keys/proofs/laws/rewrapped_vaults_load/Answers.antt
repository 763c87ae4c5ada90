use Rattle.std.proofs.Common.{List, ℕ}
use Rattle.data_key.specs.declared.key_doc.KeyDoc.{KeyDoc}
use Rattle.fle_outside.specs.Blocks.{Block}
use Rattle.rewrap_keys.specs.Reloaded.{CanRewrap}
use Rattle.rewrap_keys.specs.Rewrapped.{Change}
use Rattle.rewrap_keys.proofs.Renewed.{FileRenewed, file_renewed}
use Rattle.rewrap_keys.proofs.laws.rewrapped_vaults_load.Goals as goal

renewed : (c : Change) (bytes : List ℕ) (keys : List KeyDoc) (blocks : List Block) → CanRewrap c bytes keys blocks
    → FileRenewed c blocks bytes keys
renewed c bytes keys blocks can =
    file_renewed c bytes keys blocks can.are_bytes can.loaded can.whole can.are_blocks can.enough

pub returns : goal.returns
returns c = record {
  loads = λ change bytes keys blocks can. (renewed change bytes keys blocks can).loads;
  size = λ change bytes keys blocks can. (renewed change bytes keys blocks can).size;
  reloads = λ change bytes keys blocks can. (renewed change bytes keys blocks can).reloads;
}
