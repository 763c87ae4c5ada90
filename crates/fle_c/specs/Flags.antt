-- What the flags say with which a client is opened, or started.
use Rattle.std.specs.Prelude.{◌≡◌, ℕ, ◌==◌, Option, Some, None, if◌then◌else◌}
use Rattle.fle_client.specs.declared.client.Client.{Client}
use Rattle.fle_client.specs.declared.commands.CommandSet.{CommandSet}
use Rattle.fle_client.specs.declared.commands.CommandSet.TheVariants as sets
use Rattle.fle_c.specs.Telling.{bare}
use Rattle.fle_c.specs.declared.told.Told.{Told}

-- the commands that a client takes by its flags: the four where none is set; more of them by the flag 1,
-- FLE_COMMANDS_MORE; no other flag has a meaning
abbrev pub set_of_flags : ℕ → Option CommandSet
set_of_flags flags = if flags == 0 then Some sets.Four else if flags == 1 then Some sets.More else None

-- a client, or none, is made so that takes these commands; or a flag has no meaning, which is told, and there is none
abbrev pub FlagsAs : (CommandSet → Option Client → Told → Type 0) → Option CommandSet → Option Client → Told → Type 0
FlagsAs is (Some set) after told = is set after told
FlagsAs is None after told = (after ≡ None) × (told ≡ bare 15)
