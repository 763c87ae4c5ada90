-- Under rules whose keys are ids a command is sealed by ids alone.
use Rattle.std.proofs.Common.{◌≡◌, ◌∙◌, ℕ, zero, suc, false, List, [], ◌∷◌, map, Option, Some, None, option_map, refl}
use Rattle.std.proofs.Common.{ap, unwrap_or}
use Rattle.bson_codec.specs.Borrowed.{At}
use Rattle.bson_tree.specs.Tree.{Tree, Items}
use Rattle.bson_tree.specs.Places.{value_at}
use Rattle.data_key.specs.declared.key_doc.KeyDoc.{KeyDoc}
use Rattle.encrypt_schema.specs.Commands.Chains.{targets_at}
use Rattle.encrypt_schema.specs.Commands.Visits.{roles}
use Rattle.encrypt_schema.specs.declared.command.marks.Mark.{Mark}
use Rattle.encrypt_schema.specs.Commands.Offences.{is_pointer}
use Rattle.encrypt_schema.specs.Commands.Pointers.{Targets, nth_target}
use Rattle.encrypt_schema.specs.Language.Policies.{policy_at}
use Rattle.encrypt_schema.specs.Language.Row.{Row}
use Rattle.encrypt_schema.specs.declared.schema.policy.Algorithm.{Algorithm}
use Rattle.encrypt_schema.specs.declared.schema.policy.KeyRef.{KeyRef}
use Rattle.encrypt_schema.specs.declared.schema.policy.KeyRef.TheVariants as keys
use Rattle.payload6.specs.Needs.{Name, name_text, need_by}
use Rattle.doc_rewrite.specs.Keys.{Lookup}
use Rattle.doc_rewrite.specs.Plans.{AreById}
use Rattle.doc_rewrite.specs.SealedCommand.{IsSealedCommand, SealsAt, rule_at}
use Rattle.doc_rewrite.specs.SealedTrees.{IsSealedBy, IsSealedUse, use_of}
use Rattle.doc_rewrite.specs.Sites.{sites_of}
use Rattle.context_machine.specs.Needs.{AreIds, IsId}
use Rattle.context_machine.specs.Rings.{by_ids, finder, found_in, key_if, need_at, needs_of, ring}
use Rattle.context_machine.proofs.Keyed.{by_id_same}

policy_by_id : (i : ℕ) (rows : List Row) → AreById rows → is_pointer (policy_at i rows).key ≡ false
unfolding policy_at
policy_by_id i [] ids = refl
policy_by_id zero (row ∷ rows) ids = ids.0
policy_by_id (suc i) (row ∷ rows) ids = policy_by_id i rows ids.1

-- what such a rule's value needs is an id
named_id : (key : KeyRef) (text : Option (List ℕ)) → is_pointer key ≡ false
    → IsId (unwrap_or (need_by key text) (Name []))
named_id (keys.Id id) text is = tt
named_id (keys.Pointer names) text is = absurd cc

marks_ids : (rows : List Row) (d : At) (ms : List Mark) → AreById rows → AreIds (map need_at (sites_of rows d ms))
marks_ids rows d [] ids = tt
marks_ids rows d (m ∷ ms) ids = (
  named_id (policy_at m.policy rows).key (name_text d m) (policy_by_id m.policy rows ids),
  marks_ids rows d ms ids,
)

pub command_ids : (rows : List Row) (d : At) → AreById rows → AreIds (needs_of rows d)
command_ids rows d ids = marks_ids rows d (roles rows d.start d.tree) ids

module _ (vault : List KeyDoc) (master : List ℕ) where
  abbrev all : Lookup
  all = found_in (finder vault master)

  abbrev own : Lookup
  own = found_in (by_ids (ring vault master))

  by_id : (key : KeyRef) (text : Option (List ℕ)) (algorithm : Algorithm) (t u : Tree) → is_pointer key ≡ false
      → IsSealedBy all algorithm (need_by key text) t u → IsSealedBy own algorithm (need_by key text) t u
  by_id (keys.Id id) text algorithm t u is h = record {
    key = h.key;
    found = ap key_if (by_id_same vault master id) ∙ h.found;
    bytes = h.bytes;
    payload = h.payload;
    whole = h.whole;
  }
  by_id (keys.Pointer names) text algorithm t u is h = absurd cc

  module _ (rows : List Row) (ids : AreById rows) where
    at_place : (ts : Targets) (rule : Option ℕ) (t u : Option Tree)
        → SealsAt (IsSealedUse all) (option_map (use_of rows ts) rule) t u
        → SealsAt (IsSealedUse own) (option_map (use_of rows ts) rule) t u
    at_place ts None t u h = h
    at_place ts (Some i) None u h = absurd h
    at_place ts (Some i) (Some t) None h = absurd h
    at_place ts (Some i) (Some t) (Some u) h =
        by_id (policy_at i rows).key (option_map (λ x. x.text) (nth_target i ts)) (policy_at i rows).algorithm t u
        (policy_by_id i rows ids) h

    pub sealed_by_ids : (c d : Items) → IsSealedCommand all rows c d → IsSealedCommand own rows c d
    sealed_by_ids c d h = record {
      f = h.f;
      made = h.made;
      exactly = λ place. at_place (targets_at rows 0 c place) (rule_at rows c place) (value_at place c) (h.f place)
          (h.exactly place);
    }
