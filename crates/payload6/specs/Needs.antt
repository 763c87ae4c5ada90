-- MongoDB Client Side Encryption: what names the key of a protected value
use Rattle.std.specs.Prelude.{ℕ, ◌+◌, List, [], Option, Some, None, option_map}
use Rattle.bson_codec.specs.Borrowed.{At}
use Rattle.bson_tree.specs.Spelling.{items_bytes}
use Rattle.encrypt_schema.specs.declared.command.marks.Mark.{Mark}
use Rattle.encrypt_schema.specs.declared.schema.policy.KeyRef.{KeyRef}
use Rattle.encrypt_schema.specs.declared.schema.policy.KeyRef.TheVariants as keys
use Rattle.encrypt_schema.specs.Commands.Visits.{text_in}
use Rattle.encrypt_schema.specs.Language.Policies.{policy_at}
use Rattle.encrypt_schema.specs.Language.Row.{Row}
use Rattle.payload6.specs.declared.needs.Need.{Need as HeldNeed}
use Rattle.payload6.specs.declared.needs.Need.TheVariants as held

-- a key, by its id or by an alternate name
pub data Need : Type 0 where
  Id : List ℕ → Need
  Name : List ℕ → Need

-- the bytes of the id, or of the name
abbrev pub need_bytes : Need → List ℕ
need_bytes (Id id) = id
need_bytes (Name name) = name

-- an alternate name; no byte for an id
abbrev pub alternate_name : Need → List ℕ
alternate_name (Id id) = []
alternate_name (Name name) = name

-- what the code holds
abbrev pub need_seen : HeldNeed → Need
need_seen (held.Id id) = Id id
need_seen (held.Name name) = Name name.now

-- by a rule's key, and by the text to which its pointer leads; none where that isn't there
abbrev pub need_by : KeyRef → Option (List ℕ) → Option Need
need_by (keys.Id id) name = Some (Id id)
need_by (keys.Pointer names) name = option_map (λ text. Name text) name

-- the text that a mark's `name` spans among the elements of its command, which begin behind a length of four bytes
abbrev pub name_text : At → Mark → Option (List ℕ)
name_text d m = option_map (text_in (d.start + 4) (items_bytes d.tree)) m.name

-- the key of a mark's value, by the mark's rule
abbrev pub need_of : List Row → At → Mark → Option Need
need_of rows d m = need_by (policy_at m.policy rows).key (name_text d m)
