-- The steps that are left become fewer.
use Rattle.std.proofs.Common.{length}
use Rattle.bson_tree.proofs.place.+below.Given as goal

abbrev pub decreases-below : goal.decreases-below
decreases-below l = length l.steps.now
