-- MongoDB listCollections: collection infos that are put and forgotten one by one
use Rattle.std.specs.Prelude.{◌≡◌, ℕ, List, [], ◌∷◌, Option, None, option_map, Result, Ok, Err}
use Rattle.std.specs.Prelude.{if◌then◌else◌}
use Rattle.bson_tree.specs.Tree.{Items}
use Rattle.encrypt_schema.specs.declared.schema.faults.InfoFault.{InfoFault}
use Rattle.encrypt_schema.specs.declared.schema.faults.InfoFault.TheVariants as info_faults
use Rattle.encrypt_schema.specs.declared.schema.faults.InfoKind.{InfoKind}
use Rattle.encrypt_schema.specs.Language.Collection.{Collection, collection_of}
use Rattle.encrypt_schema.specs.Language.Collections.{collection_in}
use Rattle.encrypt_schema.specs.Language.Names.{named}

-- no two collections have one name
abbrev pub AreDistinct : List Collection → Type 0
AreDistinct [] = Unit {0}
AreDistinct (collection ∷ others) = (collection_of others collection.name ≡ None) × AreDistinct others

-- the collections with one that is put: in the place of the one of its name, or else behind the others
abbrev pub put_collection : Collection → List Collection → List Collection
put_collection new [] = new ∷ []
put_collection new (collection ∷ others) =
    if named collection.name new.name then new ∷ others else collection ∷ put_collection new others

-- the same for one that was read, or for its fault
abbrev pub with_collection : List Collection → Result Collection InfoKind → Result (List Collection) InfoKind
with_collection before (Err kind) = Err kind
with_collection before (Ok collection) = Ok (put_collection collection before)

-- the collections with the one that an info states, or what is wrong with it by itself
abbrev pub put_info : List Collection → Items → Result (List Collection) InfoKind
put_info before is = with_collection before (collection_in [] is)

-- what putting an info answers, as reading a file of it alone does, and the collections before and after: what comes of
-- it; where it is faulty, and where memory runs out, as it may at any time, nothing changes
abbrev pub Puts : List Collection → List Collection → Result Unit InfoFault → Result (List Collection) InfoKind → Type 0
Puts before now (Ok _) put = put ≡ Ok now
Puts before now (Err (info_faults.Bad document kind)) put = (document ≡ 1) × (put ≡ Err kind) × (now ≡ before)
Puts before now (Err info_faults.Memory) put = now ≡ before

-- the last of collections that begin with this one
abbrev pub last_of : Collection → List Collection → Collection
last_of collection [] = collection
last_of collection (next ∷ others) = last_of next others

-- those before it
abbrev pub before_last : Collection → List Collection → List Collection
before_last collection [] = []
before_last collection (next ∷ others) = collection ∷ before_last next others

-- collections with the last one in front
abbrev pub last_first : List Collection → List Collection
last_first [] = []
last_first (collection ∷ others) = last_of collection others ∷ before_last collection others

-- the collections without the first of a name: the last one takes its place
abbrev pub forgotten : List ℕ → List Collection → List Collection
forgotten name [] = []
forgotten name (collection ∷ others) =
    if named collection.name name then last_first others else collection ∷ forgotten name others

-- the number that there may be is another
abbrev pub renumbered : ℕ → Option ℕ → Option ℕ
renumbered number there = option_map (λ _. number) there
