-- The commands that are accepted, by the verdicts on them.
use Rattle.std.proofs.Common.{ℕ, ◌^◌, cond, nat_lt, List, [], ◌∷◌}
use Rattle.bson_tree.specs.Tree.{Items}
use Rattle.fle_stream.specs.Plan.{Verdict, writes, refused, too_long}

-- a command that is accepted, before these; one that isn't ends the run
abbrev pub if_accepted : Verdict → Items → List Items → List Items
if_accepted (writes plan) c cs = c ∷ cs
if_accepted (refused reason place) c cs = []
if_accepted too_long c cs = []

-- these commands, where a document is begun before 2^40 bytes were taken
abbrev pub in_time : ℕ → List Items → List Items
in_time taken cs = cond (nat_lt taken (2 ^ 40)) cs []
