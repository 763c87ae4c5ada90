-- The keys of sites are the keys of the rules of their marks.
use Rattle.std.proofs.Common.{◌≡◌, ℕ, ◌+◌, true, List, [], ◌∷◌, Option, Some, None, refl, unwrap_or}
use Rattle.std.specs.Prelude.{is_some, option_map}
use Rattle.bson_codec.specs.Borrowed.{At}
use Rattle.bson_tree.specs.Spelling.{items_bytes}
use Rattle.encrypt_schema.specs.declared.command.marks.Mark.{Mark}
use Rattle.encrypt_schema.specs.declared.command.marks.Span.{Span}
use Rattle.encrypt_schema.specs.declared.schema.policy.KeyRef.{KeyRef}
use Rattle.encrypt_schema.specs.declared.schema.policy.KeyRef.TheVariants as refs
use Rattle.encrypt_schema.specs.Commands.Offences.{is_pointer}
use Rattle.encrypt_schema.specs.Commands.Visits.{text_in}
use Rattle.encrypt_schema.specs.Language.Policies.{policy_at}
use Rattle.encrypt_schema.specs.Language.Row.{Row}
use Rattle.payload6.specs.Needs.{Need, Name, need_by, need_of}
use Rattle.doc_rewrite.specs.Keys.{Found, GivesLongIds, IsLong, Lookup}
use Rattle.doc_rewrite.specs.Plans.{AreLong, AreNamed}
use Rattle.doc_rewrite.specs.SealedCommand.{AreNeeded, HasKey, HasNamed, HasRuleKeys}
use Rattle.doc_rewrite.specs.Sealing.{HasKeys}
use Rattle.doc_rewrite.specs.Sites.{sites_of}

found : (o : Option Found) → is_some o ≡ true → (key : Found) × (o ≡ Some key)
found None e = absurd cc
found (Some key) e = (key, refl)

has_key : (keys : Lookup) → GivesLongIds keys → (need : Need) → IsLong need → is_some (keys need) ≡ true
    → HasKey keys need
has_key keys gives need long there =
    let k = found (keys need) there in
    (k.0, k.1, gives need k.0 long k.1)

has_named : (keys : Lookup) → GivesLongIds keys → (need : Option Need) → is_some need ≡ true
    → IsLong (unwrap_or need (Name [])) → is_some (keys (unwrap_or need (Name []))) ≡ true → HasNamed keys need
has_named keys gives None named long there = absurd cc
has_named keys gives (Some need) named long there = has_key keys gives need long there

pub rule_keys : (keys : Lookup) (rows : List Row) (d : At) (ms : List Mark) → AreNeeded rows d ms
    → HasKeys keys (sites_of rows d ms) → AreLong (sites_of rows d ms) → GivesLongIds keys → HasRuleKeys keys rows d ms
rule_keys keys rows d [] named h long gives = tt
rule_keys keys rows d (m ∷ ms) named h long gives = (
  has_named keys gives (need_of rows d m) named.0 long.0 h.0,
  rule_keys keys rows d ms named.1 h.1 long.1 gives,
)

-- what names the key of a mark that has a name exactly where its rule's key is a pointer
named_by : (key : KeyRef) (name : Option Span) (read : Span → List ℕ) → is_some name ≡ is_pointer key
    → is_some (need_by key (option_map read name)) ≡ true
named_by (refs.Id id) name read e = refl
named_by (refs.Pointer names) None read e = absurd cc
named_by (refs.Pointer names) (Some span) read e = refl

pub are_needed : (rows : List Row) (d : At) (ms : List Mark) → AreNamed rows d ms → AreNeeded rows d ms
are_needed rows d [] h = tt
are_needed rows d (m ∷ ms) h = (
  named_by (policy_at m.policy rows).key m.name (text_in (d.start + 4) (items_bytes d.tree)) h.0.0,
  are_needed rows d ms h.1,
)
