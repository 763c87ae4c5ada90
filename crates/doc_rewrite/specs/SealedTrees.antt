-- MongoDB Client Side Encryption: a command whose protected values are sealed, told in one descent by the stations
-- of its places
use Rattle.std.specs.Prelude.{◌≡◌, ℕ, ◌+◌, List, [], length, Option, Some, None, option_map}
use Rattle.bson_tree.specs.Tree.{Tree, leaf, node, Items, no_items, item, tag_of}
use Rattle.bson_tree.specs.Spelling.{value_bytes}
use Rattle.encrypt_schema.specs.declared.schema.policy.Algorithm.{Algorithm}
use Rattle.encrypt_schema.specs.declared.schema.policy.Policy.{Policy}
use Rattle.encrypt_schema.specs.Language.Policies.{policy_at}
use Rattle.encrypt_schema.specs.Language.Row.{Row}
use Rattle.encrypt_schema.specs.Commands.Pointers.{Targets, nth_target, pointed}
use Rattle.encrypt_schema.specs.Commands.Stations.{Station, Store, Compare, Outside, station}
use Rattle.encrypt_schema.specs.Commands.Visits.{entry, command_entry}
use Rattle.payload6.specs.Marking.{binary}
use Rattle.payload6.specs.Needs.{Need, need_by}
use Rattle.payload6.specs.Payload.{IsPayload}
use Rattle.doc_rewrite.specs.Keys.{Found, Lookup}

-- a value sealed by an algorithm under the key that a need leads to: a binary of subtype 06 with a payload of it, whose
-- id is that of the key
pub record IsSealedValue (keys : Lookup) (algorithm : Algorithm) (need : Need) (t u : Tree) : Type 0 where
  pub key : Found
  pub found : keys need ≡ Some key
  pub bytes : List ℕ
  pub payload : IsPayload algorithm key.id key.key (tag_of t) (value_bytes t) bytes
  pub whole : u ≡ binary 6 bytes

-- under what a value is protected: its rule's policy, and what names its key; none where the policy's pointer leads
-- nowhere, as it does at no place of an accepted command
pub record Use : Type 0 where
  pub policy : Policy
  pub need : Option Need

-- the use of a rule of a number at a place with these targets of pointers
abbrev pub use_of : List Row → Targets → ℕ → Use
use_of rows ts i = record {
  policy = policy_at i rows;
  need = need_by (policy_at i rows).key (option_map (λ t. t.text) (nth_target i ts));
}

-- a value sealed under what names its key
abbrev pub IsSealedBy : Lookup → Algorithm → Option Need → Tree → Tree → Type 0
IsSealedBy keys algorithm None t u = ⊥
IsSealedBy keys algorithm (Some need) t u = IsSealedValue keys algorithm need t u

-- a value sealed as its use says
abbrev pub IsSealedUse : Lookup → Use → Tree → Tree → Type 0
IsSealedUse keys usage t u = IsSealedBy keys usage.policy.algorithm usage.need t u

-- the number of the rule under which a place of this station is protected; none where it isn't
abbrev pub rule_of : Station → Option ℕ
rule_of (Store i) = Some i
rule_of (Compare i) = Some i
rule_of _ = None

-- a protected value t and what stands for it are related by S under its use; of another value P holds
abbrev pub SealedBy : (Use → Tree → Tree → Type 0) → List Row → Targets → Option ℕ → Tree → Tree → Type 0 → Type 0
SealedBy S rows ts (Some i) t u P = S (use_of rows ts i) t u
SealedBy S rows ts None t u P = P

abbrev mutual
  -- a value of this station that begins at `at`, by the targets of pointers around it, and what stands for it: the
  -- value itself but for what is sealed inside it
  pub SealedIn : (Use → Tree → Tree → Type 0) → List Row → Station → Targets → ℕ → Tree → Tree → Type 0
  SealedIn S rows s ts at (leaf tag bytes) u =
      SealedBy S rows ts (rule_of s) (leaf tag bytes) u (u ≡ leaf tag bytes)
  SealedIn S rows s ts at (node tag is) u =
      SealedBy S rows ts (rule_of s) (node tag is) u
      ((js : Items) × (u ≡ node tag js) × AreSealed S rows s (pointed rows s ts at is) (at + 4) is js)

  -- the same for elements that begin at `at`, of a document of this station
  pub AreSealed : (Use → Tree → Tree → Type 0) → List Row → Station → Targets → ℕ → Items → Items → Type 0
  AreSealed S rows s ts at no_items js = js ≡ no_items
  AreSealed S rows s ts at (item name t is) js =
      (u : Tree)
      × (ks : Items)
      × (js ≡ item name u ks)
      × SealedIn S rows (station rows s (entry name t)) ts (at + (2 + length name)) t u
      × AreSealed S rows s ts (at + (2 + length name) + length (value_bytes t)) is ks

-- a sealed command, read by the stations of its places
abbrev pub IsSealedByStations : Lookup → List Row → Items → Items → Type 0
IsSealedByStations keys rows c d =
    let s = station rows Outside (command_entry c) in
    AreSealed (IsSealedUse keys) rows s (pointed rows s [] 0 c) 4 c d
