-- What a document comes to in a stream: what it comes to by itself, a refusal by its number and its place.
use Rattle.bson_tree.specs.Tree.{Items}
use Rattle.bson_tree.specs.Places.{place_of}
use Rattle.fle_engine.specs.Rulings.{Ruling, makes}
use Rattle.fle_engine.specs.Rulings as rulings
use Rattle.fle_files.specs.Numbers.{reason_number}
use Rattle.fle_stream.specs.Plan.{Verdict, writes, refused, too_long}
pub use Rattle.fle_engine.specs.Rulings.{plain_plan}

-- an output is written; a refusal has the number of its reason, and the place of the value that begins at its offset
abbrev pub as_verdict : Items → Ruling → Verdict
as_verdict c (makes plan) = writes plan
as_verdict c (rulings.refused r) = refused (reason_number r.reason) (place_of r.at c)
as_verdict c rulings.too_long = too_long
