-- A command is no stored document, nor do the rules settle what is in it.
use Rattle.std.proofs.Common.{◌≡◌, false, refl}
use Rattle.encrypt_schema.specs.Commands.More.{is_settled}
use Rattle.encrypt_schema.specs.Commands.Pointers.{is_whole}
use Rattle.command_marker.specs.Places.{name_station}
use Rattle.command_marker.specs.declared.places.CommandName.{CommandName}
use Rattle.command_marker.specs.declared.places.CommandName.TheVariants as names

pub whole_command : (n : CommandName) → is_whole (name_station n) ≡ false
whole_command names.Insert = refl
whole_command names.Update = refl
whole_command names.Delete = refl
whole_command names.Find = refl

pub settled_command : (n : CommandName) → is_settled (name_station n) ≡ false
settled_command names.Insert = refl
settled_command names.Update = refl
settled_command names.Delete = refl
settled_command names.Find = refl
