-- What the walks of a client's address share: the rows of a box of a client.
use Rattle.std.proofs.Common.{◌≡◌, [], true, Option, Some, None, refl, sym}
use Rattle.std.proofs.Common.{true≢false}
use Rattle.fle_c.specs.Holding.{is_full}
use mir.Syntax.{impl, tnil, dnil}
use denote.Signature.{Slot, plain}
use Rattle.std.proofs.BoxSteps.Form.{Bx}
use Rattle.std.specs.contracts.alloc.Global as Heap
use Rattle.std.specs.contracts.impls.GlobalAllocator.TheImpl.{ghosts, dict}
use Rattle.std.proofs.alloc.Global.TheLaws as heap
use Rattle.fle_client.specs.contracts.client.Client as Client
use Rattle.fle_client.proofs.client.Client.TheLaws as client
use Rattle.fle_c.specs.contracts.kept.Kept as Kept
use Rattle.fle_c.specs.contracts.parts.Parts as Parts

-- a box of a client
abbrev pub E : Bx
E = record {
  row = Client.the_row;
  laws = client.the_row_laws;
  al = record { row = Heap.the_row; laws = heap.the_row_laws; g = ghosts; d = dict; drops = impl [] tnil dnil };
}

-- the parameters of the conversions
abbrev pub FromParts : Slot 0
FromParts = plain (λ _. Parts.the_row Client.the_row Heap.the_row ghosts)

abbrev pub FromKept : Slot 0
FromKept = plain (λ _. Kept.the_row)

abbrev pub FromHeap : Slot 0
FromHeap = plain (λ _. Heap.the_row)

-- where a client is kept there is one
pub kept_some : (value : Option Client.the_row.Denot) → is_full value ≡ true → (client : Client.the_row.Denot) ×
    (value ≡ Some client)
kept_some (Some client) e = (client, refl)
kept_some None e = absurd (true≢false (sym e))
