-- MongoDB listCollections; Client Side Encryption, "Key vault": what a client knows as infos are put and forgotten.
use Rattle.std.specs.Prelude.{◌≡◌, ℕ, false, List, Some, None, Result, Ok, Err, bytes_eq, if◌then◌else◌}
use Rattle.bson_tree.specs.Tree.{Items}
use Rattle.encrypt_schema.specs.Language.Collection.{Collection}
use Rattle.encrypt_schema.specs.Language.Putting.{forgotten, put_info}
use Rattle.encrypt_schema.specs.declared.schema.faults.InfoKind.{InfoKind}
use Rattle.encrypt_schema.specs.declared.command.reason.Reason.TheVariants as reasons
use Rattle.fle_client.specs.Known.{foreign, infos_of, own_of}
use Rattle.fle_client.specs.declared.filling.InfoUnput.{InfoUnput}
use Rattle.fle_client.specs.declared.filling.InfoUnput.TheVariants as unput
use Rattle.fle_client.specs.declared.rules.Rules.{Rules}

-- what is known of each database stays
pub record SameInfos (before after : Rules) : Type 0 where
  pub own : own_of after ≡ own_of before
  pub infos : (db : List ℕ) → infos_of after db ≡ infos_of before db

-- an info is put into what is known of a database, and nothing else changes
pub record PutsInto (before after : Rules) (db : List ℕ) (info : Items) : Type 0 where
  pub there : foreign before db ≡ None
  pub own : own_of after ≡ own_of before
  pub put : put_info (infos_of before db) info ≡ Ok (infos_of after db)
  pub others : (other : List ℕ) → bytes_eq db other ≡ false → infos_of after other ≡ infos_of before other

-- what putting an info answers: it is put; or the database isn't the client's, the info is faulty by itself, or memory
-- ran out, as it may at any time, and what is known stays
abbrev pub PutsInfo : Rules → Rules → List ℕ → Items → Result Unit InfoUnput → Type 0
PutsInfo before after db info (Ok _) = PutsInto before after db info
PutsInfo before after db info (Err unput.WrongDb) =
    (foreign before db ≡ Some (record { reason = reasons.WrongDb; at = 0 })) × SameInfos before after
PutsInfo before after db info (Err (unput.Bad kind)) =
    (foreign before db ≡ None) × (put_info (infos_of before db) info ≡ Err kind) × SameInfos before after
PutsInfo before after db info (Err unput.Memory) = SameInfos before after

-- the same of the infos of one database
abbrev pub UnputIs : List Collection → List Collection → Result (List Collection) InfoKind → Result Unit InfoUnput
    → Type 0
UnputIs before after put (Ok _) = put ≡ Ok after
UnputIs before after put (Err unput.WrongDb) = ⊥
UnputIs before after put (Err (unput.Bad kind)) = (put ≡ Err kind) × (after ≡ before)
UnputIs before after put (Err unput.Memory) = after ≡ before

-- the info of a name is forgotten in a database, and nothing else changes
pub record ForgetsInfo (before after : Rules) (db name : List ℕ) : Type 0 where
  pub own : own_of after ≡ own_of before
  pub infos : (other : List ℕ) → infos_of after other
      ≡ (if bytes_eq db other then forgotten name (infos_of before other) else infos_of before other)
