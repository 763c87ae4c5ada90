-- MongoDB Client Side Encryption: a command whose protected values are sealed, told by its places
use Rattle.std.specs.Prelude.{◌≡◌, ℕ, true, List, [], ◌∷◌, length, is_some, Option, Some, None, option_and_then}
use Rattle.std.specs.Prelude.{option_map}
use Rattle.bson_codec.specs.Borrowed.{At}
use Rattle.bson_tree.specs.Tree.{Tree, Items}
use Rattle.bson_tree.specs.Places.{value_at}
use Rattle.bson_tree.specs.Filled.{filled}
use Rattle.encrypt_schema.specs.declared.command.marks.Mark.{Mark}
use Rattle.encrypt_schema.specs.Commands.Chains.{station_at, targets_at}
use Rattle.encrypt_schema.specs.Language.Row.{Row}
use Rattle.payload6.specs.Needs.{Need, need_of}
use Rattle.doc_rewrite.specs.Keys.{Found, Lookup}
use Rattle.doc_rewrite.specs.SealedTrees.{Use, rule_of, use_of, IsSealedUse}

-- the number of the rule under which a place of a command is protected; none where it isn't
abbrev pub rule_at : List Row → Items → List ℕ → Option ℕ
rule_at rows c place = option_and_then rule_of (station_at rows c place)

-- under what the value at a place of a command is protected: its rule's policy, and by it what names the key, where
-- that is a pointer the text to which it leads in the stored document around the place; none where it isn't protected
abbrev pub use_at : List Row → Items → List ℕ → Option Use
use_at rows c place = option_map (use_of rows (targets_at rows 0 c place)) (rule_at rows c place)

-- at a place that isn't protected nothing is put in; at one that is stands what its value is sealed to
abbrev pub SealsAt : (Use → Tree → Tree → Type 0) → Option Use → Option Tree → Option Tree → Type 0
SealsAt S None t u = u ≡ None
SealsAt S (Some usage) (Some t) (Some u) = S usage t u
SealsAt S (Some usage) _ _ = ⊥

-- the command filled at exactly its protected places, each value and what stands for it related by S under its use
pub record IsFilledCommand (S : Use → Tree → Tree → Type 0) (rows : List Row) (c d : Items) : Type 0 where
  pub f : List ℕ → Option Tree
  pub made : d ≡ filled f c
  pub exactly : (place : List ℕ) → SealsAt S (use_at rows c place) (value_at place c) (f place)

-- a sealed command: each protected value is a payload of it by its rule's policy and what names its key, and nothing
-- else changed
abbrev pub IsSealedCommand : Lookup → List Row → Items → Items → Type 0
IsSealedCommand keys rows c d = IsFilledCommand (IsSealedUse keys) rows c d

-- the key that a need leads to is there, with an id of 16 bytes
abbrev pub HasKey : Lookup → Need → Type 0
HasKey keys need = (key : Found) × (keys need ≡ Some key) × (length key.id ≡ 16)

-- a key is named, and is there
abbrev pub HasNamed : Lookup → Option Need → Type 0
HasNamed keys None = ⊥
HasNamed keys (Some need) = HasKey keys need

-- the key of the value of each mark of a document is there
abbrev pub HasRuleKeys : Lookup → List Row → At → List Mark → Type 0
HasRuleKeys keys rows d [] = Unit {0}
HasRuleKeys keys rows d (m ∷ ms) = HasNamed keys (need_of rows d m) × HasRuleKeys keys rows d ms

-- the key of the value of each mark of a document is named: by its rule's id, or by a text in the document
abbrev pub AreNeeded : List Row → At → List Mark → Type 0
AreNeeded rows d [] = Unit {0}
AreNeeded rows d (m ∷ ms) = (is_some (need_of rows d m) ≡ true) × AreNeeded rows d ms
