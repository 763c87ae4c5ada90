-- No 00 is before the end exactly in a name.
use Rattle.std.proofs.Common.{sym}
use Rattle.bson_codec.proofs.Names.{name_if_none, no_name_if_some}
use Rattle.bson_codec.proofs.measuring.is_name.Goals as goal

pub returns-in-None : goal.returns-in-None
returns-in-None c = record { name = name_if_none c.args.bytes.now (sym c.in-None.ensures.found) }

pub returns-in-Some : goal.returns-in-Some
returns-in-Some c = record { name = no_name_if_some c.args.bytes.now c.in-Some.field-0 (sym c.in-Some.ensures.found) }
