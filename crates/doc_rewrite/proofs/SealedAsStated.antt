-- What is written of a command's marks is a sealed command.
use Rattle.std.proofs.Common.{List, []}
use Rattle.bson_tree.specs.Tree.{Tree}
use Rattle.bson_tree.specs.Spelling.{items_bytes}
use Rattle.bson_codec.specs.Borrowed.{At}
use Rattle.encrypt_schema.specs.Commands.Pointers.{pointed}
use Rattle.encrypt_schema.specs.Commands.Stations.{Outside, station}
use Rattle.encrypt_schema.specs.Commands.Visits.{command_entry, roles}
use Rattle.encrypt_schema.specs.Language.Policies.{policy_at}
use Rattle.encrypt_schema.specs.Language.Row.{Row}
use Rattle.fle_outside.specs.Blocks.{Block, AreBlocks}
use Rattle.payload6.specs.Needs.{need_by}
use Rattle.doc_rewrite.specs.Keys.{Lookup}
use Rattle.doc_rewrite.specs.Sealed.{sealed}
use Rattle.doc_rewrite.specs.SealedCommand.{HasRuleKeys, IsSealedCommand}
use Rattle.doc_rewrite.specs.SealedTrees.{Use, IsSealedUse}
use Rattle.doc_rewrite.specs.Sites.{sites_of}
use Rattle.doc_rewrite.proofs.ByStations.{command_sealed}
use Rattle.doc_rewrite.proofs.MadePayloads.{any_is, need_made}
use Rattle.doc_rewrite.proofs.ToPlaces.{to_places}
use Rattle.bson_tree.proofs.PartBytes.{Bytes}
use Rattle.doc_rewrite.proofs.WithinBytes.{Given, items_given}

pub as_stated : (keys : Lookup) (rows : List Row) (d : At) (blocks : List Block) → Bytes (items_bytes d.tree)
    → AreBlocks blocks
    → HasRuleKeys keys rows d (roles rows d.start d.tree)
    → IsSealedCommand keys rows d.tree (sealed keys (sites_of rows d (roles rows d.start d.tree)) blocks d)
as_stated keys rows d blocks bytes are had =
    let S : Use → Tree → Tree → Type 0 = IsSealedUse keys in
    let s = station rows Outside (command_entry d.tree) in
    let js = sealed keys (sites_of rows d (roles rows d.start d.tree)) blocks d in
    let given = command_sealed keys rows d (Given S rows) any_is
    (λ i start end text t block named b all. need_made keys (policy_at i rows).algorithm
    (need_by (policy_at i rows).key text) start end t block named b all) blocks are had in
    to_places S rows d.tree js (items_given S rows s (pointed rows s [] 0 d.tree) 4 d.tree js bytes given)
