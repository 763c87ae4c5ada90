-- MongoDB Client Side Encryption: a command with no payload outside its protected values, told in one descent by the
-- stations of its places
use Rattle.std.specs.Prelude.{◌≡◌, ℕ, true, false, List, Option, Some, None}
use Rattle.bson_tree.specs.Places.{value_at}
use Rattle.bson_tree.specs.Tree.{Tree, leaf, node, Items, no_items, item}
use Rattle.encrypt_schema.specs.Commands.Chains.{is_shown}
use Rattle.encrypt_schema.specs.Language.Row.{Row}
use Rattle.encrypt_schema.specs.Commands.Stations.{Station, Outside, station}
use Rattle.encrypt_schema.specs.Commands.Visits.{entry, command_entry}
use Rattle.doc_rewrite.specs.Founds.{is_sealed, opens_here}
use Rattle.doc_rewrite.specs.SealedCommand.{rule_at}
use Rattle.doc_rewrite.specs.SealedTrees.{rule_of}

-- of a value that isn't protected P holds; of a protected one, and of what is inside it, nothing is asked
abbrev pub FreeBy : Option ℕ → Type 0 → Type 0
FreeBy (Some i) P = Unit {0}
FreeBy None P = P

abbrev mutual
  -- a value of this station is no payload, and none is inside it
  pub IsFreeIn : List Row → Station → Tree → Type 0
  IsFreeIn rows s (leaf tag bytes) = FreeBy (rule_of s) (is_sealed tag bytes ≡ false)
  IsFreeIn rows s (node tag is) = FreeBy (rule_of s) (AreFree rows s is)

  -- the same for elements of a document of this station
  pub AreFree : List Row → Station → Items → Type 0
  AreFree rows s no_items = Unit {0}
  AreFree rows s (item name t is) = IsFreeIn rows (station rows s (entry name t)) t × AreFree rows s is

-- a command with no payload outside its protected values
abbrev pub IsPayloadFree : List Row → Items → Type 0
IsPayloadFree rows c = AreFree rows (station rows Outside (command_entry c)) c

-- the same by places: no payload at a place that isn't protected and has no protected ancestor
abbrev pub IsPayloadFreeByPlaces : List Row → Items → Type 0
IsPayloadFreeByPlaces rows c =
    (place : List ℕ) (t : Tree) → is_shown rows c place ≡ true → rule_at rows c place ≡ None
    → value_at place c ≡ Some t → opens_here t ≡ false
