-- What an object stands for, as the code tells it.
use Rattle.std.specs.Prelude.{◌≡◌, Option, Some, None}
use Rattle.serde_json.specs.View.{view}
use Rattle.ext_json.specs.declared.binaries.Wrapper.{Wrapper}
use Rattle.ext_json.specs.declared.binaries.Wrapper.TheVariants as wrappers
use Rattle.ext_json.specs.Binaries.{Contents, binary_of, uuid_of}

abbrev pub IsWrapper : Option (Option Contents) → Wrapper → Type 0
IsWrapper wrapped wrappers.Plain = wrapped ≡ None
IsWrapper wrapped (wrappers.Binary found) = wrapped ≡ Some (binary_of (view found.now))
IsWrapper wrapped (wrappers.Uuid found) = wrapped ≡ Some (uuid_of (view found.now))
