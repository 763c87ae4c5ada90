-- MongoDB listCollections; libmongocrypt, MONGOCRYPT_CTX_NEED_MONGO_COLLINFO: collection infos that are told one by
-- one.
use Rattle.std.specs.Prelude.{◌≡◌, ℕ, Bool, false, not, ◌&&◌, List, [], is_none, unwrap_or, Result, Ok, Err}
use Rattle.std.specs.Prelude.{Vec, bytes_eq}
use Rattle.std.specs.BTreeMap.{BTreeMap, get_by}
use Rattle.std.specs.Cmp.Lexicographic.{slice_cmp}
use Rattle.std.specs.Global.{Global}
use Rattle.std.specs.Ordering.{nat_cmp}
use Rattle.bson_tree.specs.Tree.{Items}
use Rattle.command_marker.specs.Commands.{collection_in, passes}
use Rattle.encrypt_schema.specs.Language.Collection.{Collection, collection_of}
use Rattle.encrypt_schema.specs.declared.schema.faults.InfoFault.{InfoFault}
use Rattle.encrypt_schema.specs.declared.schema.faults.InfoFault.TheVariants as faults
use Rattle.fle_client.specs.CommandSets.{target_by}
use Rattle.fle_client.specs.declared.commands.CommandSet.{CommandSet}

-- infos by the names of their databases
abbrev pub Told : Type 0
Told = BTreeMap (Vec ℕ Global) (List Collection)

-- the infos that were told of a database; none where nothing was
abbrev pub told_of : Told → List ℕ → List Collection
told_of told db = unwrap_or (get_by (λ k. slice_cmp nat_cmp db k.items) told) []

-- the infos of other databases stay
abbrev pub OthersStay : List ℕ → Told → Told → Type 0
OthersStay db before after =
    (other : List ℕ) → bytes_eq db other ≡ false → told_of after other ≡ told_of before other

-- the infos of a database are put; or memory ran out, and those stay that were told of it
abbrev pub PutsDatabase : List ℕ → List Collection → Told → Told → Result Unit InfoFault → Type 0
PutsDatabase db infos before after (Ok _) = told_of after db ≡ infos
PutsDatabase db infos before after (Err faults.Memory) = told_of after db ≡ told_of before db
PutsDatabase db infos before after (Err (faults.Bad document kind)) = ⊥

-- a command of this database is one whose info is asked for: no field of it is refused by itself, and it doesn't pass
abbrev pub asks_info : CommandSet → List ℕ → Items → Bool
asks_info set db c = is_none (target_by set db 0 c) && not (passes c)

-- a command of this database asks for an info that isn't among these
abbrev pub is_untold : CommandSet → List Collection → List ℕ → Items → Bool
is_untold set infos db c = asks_info set db c && is_none (collection_of infos (collection_in c))
