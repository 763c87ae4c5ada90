-- What is owned where a client is kept.
use base.Fml.{Fml, ftrue}
use base.Stored.{Coded}
use denote.RawPtr.{Ptr}
use Rattle.std.specs.Prelude.{Bool, true, false, Option, None, Some}
use Rattle.std.specs.Coded.{coded_option}
use Rattle.std.specs.Box.Ownership.{box_owns}
use Rattle.std.specs.Global.{Global}
use Rattle.std.specs.contracts.impls.GlobalAllocator.TheImpl.{ghosts}
use Rattle.fle_client.specs.contracts.client.Client.{the_row}

-- what a box of a client owns, or nothing where none is kept
abbrev pub kept_owns : Global → Ptr → Option the_row.Denot → Fml
kept_owns alloc at (Some client) = box_owns (ghosts.dealloc_token alloc) the_row at client
kept_owns alloc at None = ftrue

-- a client is kept
abbrev pub is_full : Option the_row.Denot → Bool
is_full (Some client) = true
is_full None = false

-- a client, or none, is stored by the client's code
abbrev pub kept_coded : Coded (Option the_row.Denot)
kept_coded = coded_option the_row.coded
