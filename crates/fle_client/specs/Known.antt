-- MongoDB Client Side Encryption, "JSON Schema": the infos by which a client judges a command.
use Rattle.std.specs.Prelude.{◌≡◌, ℕ, Bool, true, false, List, [], Option, Some, None, bytes_eq, if◌then◌else◌}
use Rattle.bson_tree.specs.Tree.{Items}
use Rattle.encrypt_schema.specs.Commands.Visits.{Refusal}
use Rattle.encrypt_schema.specs.Language.Collection.{Collection}
use Rattle.encrypt_schema.specs.declared.command.reason.Reason.TheVariants as reasons
use Rattle.fle_engine.specs.Rulings.{wrong_db}
use Rattle.fle_client.specs.Told.{is_untold, told_of}
use Rattle.fle_client.specs.declared.commands.CommandSet.{CommandSet}
use Rattle.fle_client.specs.declared.rules.Rules.{Rules}
use Rattle.fle_client.specs.declared.rules.Rules.TheVariants as rules
use Rattle.fle_client.specs.declared.rules.Unjudged.{Unjudged}
use Rattle.fle_client.specs.declared.rules.Unjudged.TheVariants as unjudged

-- the one database of a client that has one
abbrev pub own_of : Rules → Option (List ℕ)
own_of (rules.Whole marker) = Some marker.db.items
own_of (rules.Told told) = None

-- the infos that are known of a database
abbrev pub infos_of : Rules → List ℕ → List Collection
infos_of (rules.Whole marker) db = if bytes_eq db marker.db.items then marker.infos else []
infos_of (rules.Told told) db = told_of told db

-- a command that is sent to another database than the one of the client is refused
abbrev pub foreign : Rules → List ℕ → Option Refusal
foreign (rules.Whole marker) db = wrong_db marker.db.items db
foreign (rules.Told told) db = None

-- nothing is known of the collection of a command, which is asked for; of its one database a client knows each
abbrev pub lacks_info : CommandSet → Rules → List ℕ → Items → Bool
lacks_info set (rules.Whole marker) db c = false
lacks_info set (rules.Told told) db c = is_untold set (told_of told db) db c

-- a command is judged by these infos
pub record Judged (set : CommandSet) (rules : Rules) (db : List ℕ) (c : Items) (infos : List Collection) : Type 0 where
  pub own : foreign rules db ≡ None
  pub told : lacks_info set rules db c ≡ false
  pub known : infos ≡ infos_of rules db

-- a command isn't judged
abbrev pub Unjudges : CommandSet → Rules → List ℕ → Items → Unjudged → Type 0
Unjudges set rules db c unjudged.WrongDb =
    (foreign rules db ≡ Some (record { reason = reasons.WrongDb; at = 0 })) × (lacks_info set rules db c ≡ false)
Unjudges set rules db c unjudged.Untold = (foreign rules db ≡ None) × (lacks_info set rules db c ≡ true)
