-- Any thread may own a client by its address: the client itself, and its block of the heap.
use base.Fraction.{full_share}
use base.Shift.{Keyless}
use denote.Memory.{lone}
use denote.Param.Send.{IsSend, AllSend, owning_send, part_keyless, sendable}
use denote.RawPtr.{Ptr, block_ptr, null_ptr}
use denote.Struct.Owning.{fields}
use mir.Raw.{raw}
use Rattle.std.proofs.Common.{Option, Some, None}
use Rattle.std.proofs.Crossing.{frees}
use Rattle.std.proofs.alloc.Global.TheSendSync as heap
use Rattle.std.specs.Global.{Global}
use Rattle.fle_client.specs.contracts.client.Client as Client
use Rattle.fle_client.proofs.client.Client.TheSendSync.{the_send}
use Rattle.fle_c.specs.Holding.{kept_owns}
use Rattle.fle_c.specs.contracts.kept.Kept.{the_row, the_type}

kept_keyless : (alloc : Global) (at : Ptr) (value : Option Client.the_row.Denot) → Keyless (kept_owns alloc at value)
kept_keyless alloc (block_ptr b o) (Some client) = (
  part_keyless Client.the_row the_send full_share client b o,
  frees.frees alloc (raw (lone Client.the_row.mir)) (block_ptr b o),
)
kept_keyless alloc null_ptr (Some client) = (tt, frees.frees alloc (raw (lone Client.the_row.mir)) null_ptr)
kept_keyless alloc at None = tt

pub send : IsSend the_row
send =
    let all : AllSend (fields the_type) = (search sendable, (heap.the_field_send, tt)) in
    owning_send the_type all (λ k. kept_keyless k.alloc k.at k.value) (λ k x w. tt)
