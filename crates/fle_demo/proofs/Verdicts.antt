-- The demo's commands: nothing of them is refused, and two values of each are sealed.
use Rattle.std.proofs.Common.{◌≡◌, ◌∙◌, ℕ, Bool, true, false, not, List, [], ◌∷◌, None, Some, Ok, refl, ap}
use Rattle.std.proofs.Common.{length, subst, sym}
use Rattle.std.proofs.Common.{◌≤◌, Result, map, arith}
use Rattle.std.specs.Prelude.{codes}
use Rattle.aes_block.specs.Steps.{cell, state}
use Rattle.aes_block.proofs.Entries.{sixteen}
use Rattle.bson_tree.specs.Tree.{Items, leaf}
use Rattle.bson_codec.specs.Layout.{string_bytes}
use Rattle.bson_codec.specs.Standings.{standing}
use Rattle.encrypt_schema.specs.Language.Row.{Row}
use Rattle.encrypt_schema.specs.Language.Names.{named}
use Rattle.encrypt_schema.specs.Language.Policies.{policy_at}
use Rattle.encrypt_schema.specs.Language.TypeNames.{every_type}
use Rattle.encrypt_schema.specs.Commands.Offences.{is_again, is_db, least, ruled_offence, target_offence, when}
use Rattle.encrypt_schema.specs.Commands.Stations.{is_passed}
use Rattle.encrypt_schema.specs.Commands.Visits.{content_verdict, is_payload, or_else, refused_at, roles}
use Rattle.encrypt_schema.specs.Commands.Visits.{target_verdict}
use Rattle.encrypt_schema.specs.Paths.Classes.{class}
use Rattle.encrypt_schema.specs.declared.schema.policy.Algorithm.TheVariants.{Deterministic, Random}
use Rattle.encrypt_schema.specs.declared.schema.policy.KeyRef.TheVariants.{Id}
use Rattle.encrypt_schema.specs.declared.command.reason.Reason.TheVariants.{WrongDb}
use Rattle.encrypt_schema.proofs.Language.Texts.{text_is}
use Rattle.fle_demo.specs.Commands.{command, info, insert, person, rows_read, rules}
use Rattle.encrypt_schema.specs.Commands.Offences.{text_of}
use Rattle.encrypt_schema.specs.Language.Collection.{Collection}
use Rattle.encrypt_schema.specs.Language.Collections.{collection_in, info_fields, schema_in, section}
use Rattle.encrypt_schema.specs.Language.Keywords.{keyword_at}
use Rattle.encrypt_schema.specs.Language.Rules.{algorithm_inside, algorithm_named, inside, is_alone, is_formed}
use Rattle.encrypt_schema.specs.Language.Rules.{is_placed}
use Rattle.encrypt_schema.specs.Language.Rules.{key_inside, row_of, setting_of, stated, types_of, types_stated}
use Rattle.encrypt_schema.specs.Language.Schemas.{schema_rows}
use Rattle.encrypt_schema.specs.Language.Shapes.{fits, is_setting}
use Rattle.encrypt_schema.specs.Language.TypeNames.{type_byte}
use Rattle.encrypt_schema.specs.Language.Values.{find}
use Rattle.context_machine.specs.Ready.{values_of}
use Rattle.context_machine.specs.Rings.{by_ids, first_keyless, need_at, reason_of, reasoned, ring, with_own}
use Rattle.data_key.specs.declared.key_doc.KeyDoc.{KeyDoc}
use Rattle.doc_rewrite.specs.Opened.{Keyring}
use Rattle.doc_rewrite.specs.Sites.{Site, draws_of, grown, sites_of}
use Rattle.payload6.specs.Needs.{Id as ById}
use Rattle.encrypt_schema.specs.declared.command.reason.Reason.{Reason}
use Rattle.fle_demo.specs.Sums.{alone}
use Rattle.fle_demo.specs.States.{IsAccepted, IsKeyed}
use Rattle.fle_demo.proofs.Bytes.{command_size}
use Rattle.key_vault.specs.Lookup.{key_of}
use Rattle.std.specs.Prelude.{bytes_eq}
use Rattle.std.specs.Cmp.Lexicographic.{bytes_decides}

-- the rules of `ssn` and `salary`
abbrev pub two_rules : List ℕ → List Row
two_rules id =
    record {
      path = codes "ssn" ∷ [];
      others = None;
      policy = record { algorithm = Deterministic; key = Id id; types = 2 ∷ [] };
    }
    ∷ record {
      path = codes "salary" ∷ [];
      others = None;
      policy = record { algorithm = Random; key = Id id; types = every_type };
    }
    ∷ []

abbrev pub demo_collection : List ℕ → Collection
demo_collection id = record { name = codes "demo"; view = false; rows = two_rules id }

-- a command whose values have these bytes
abbrev pub laid : List ℕ → List ℕ → List ℕ → List ℕ → Items
laid db ssn salary number = insert db (person (leaf 2 ssn) (leaf 16 salary) (leaf 16 number))

pub content_none : (id db ssn salary number : List ℕ)
    → content_verdict (two_rules id) 0 (laid db ssn salary number) ≡ None
unfolding named policy_at is_again is_db ruled_offence is_payload class is_passed
content_none id db ssn salary number = refl

-- a name is itself
same_name : (name : List ℕ) → named name name ≡ true
unfolding named
same_name name = (bytes_decides name name).1 refl

same_db : (db : List ℕ) → named (text_of (string_bytes db)) db ≡ true
same_db db = rw (text_is db) (same_name db)

-- the target pass looks at `$db` last
target_by : (b : Bool) (start : ℕ) → b ≡ true
    → or_else (refused_at start (least (when (not b) WrongDb))) None ≡ None
target_by b start e = rw e refl

pub target_none : (db ssn salary number : List ℕ) → target_verdict db 0 (laid db ssn salary number) ≡ None
unfolding named target_offence is_db is_passed
target_none db ssn salary number = target_by (bytes_eq (text_of (string_bytes db)) db) _ (same_db db)

-- the two values that are sealed
abbrev pub two_sites : List ℕ → List Site
two_sites id =
    record { start = 48; end = 64; algorithm = Deterministic; need = ById id }
    ∷ record { start = 72; end = 76; algorithm = Random; need = ById id }
    ∷ []

pub sites_are : (id db : List ℕ) (i x : ℕ)
    → sites_of (two_rules id) (alone (command db i x)) (roles (two_rules id) 0 (command db i x)) ≡ two_sites id
unfolding named policy_at class is_passed command
sites_are id db i x = refl

-- the rules that the info states
info_of_state : (f : ℕ → ℕ → ℕ) → collection_in [] (info (state f)) ≡ Ok (demo_collection (state f))
unfolding info collection_in info_fields schema_in section standing named schema_rows find keyword_at fits is_setting
    is_placed is_alone is_formed setting_of stated algorithm_named algorithm_inside key_inside inside types_stated
    types_of row_of type_byte
info_of_state f = refl

pub info_read : (id : List ℕ) → length id ≡ 16 → collection_in [] (info id) ≡ Ok (demo_collection id)
info_read id long = subst (λ (x : List ℕ). collection_in [] (info x) ≡ Ok (demo_collection x)) (sym (sixteen id long))
    (info_of_state (cell id))

pub rules_are : (id : List ℕ) → length id ≡ 16 → rules id ≡ two_rules id
unfolding rules
rules_are id long = ap rows_read (info_read id long)

-- ---- what the states ask of a command

pub read_is : (id : List ℕ) (c : Collection) → length id ≡ 16 → collection_in [] (info id) ≡ Ok c
    → demo_collection id ≡ c
read_is id c long is = cc (sym (info_read id long) ∙ is)

pub rows_of_info : (id : List ℕ) (c : Collection) → length id ≡ 16 → collection_in [] (info id) ≡ Ok c
    → c.rows ≡ rules id
rows_of_info id c long is = ap (λ (x : Collection). x.rows) (sym (read_is id c long is)) ∙ sym (rules_are id long)

accepted_by : (id db : List ℕ) (i x : ℕ) → IsAccepted db (demo_collection id) (alone (command db i x))
unfolding command named is_passed
accepted_by id db i x = record {
  target = target_none db _ _ _;
  unpassed = refl;
  into = refl;
  viewless = refl;
  content = content_none id db _ _ _;
}

pub accepted : (id db : List ℕ) (i x : ℕ) (c : Collection) → length id ≡ 16 → collection_in [] (info id) ≡ Ok c
    → IsAccepted db c (alone (command db i x))
accepted id db i x c long is =
    subst (λ (k : Collection). IsAccepted db k (alone (command db i x))) (read_is id c long is) (accepted_by id db i x)

one_by : (id db : List ℕ) (i x : ℕ) → draws_of (values_of (Some (demo_collection id)) (alone (command db i x))) ≡ 1
one_by id db i x = ap draws_of (sites_are id db i x)

pub one_block : (id db : List ℕ) (i x : ℕ) (c : Collection) → length id ≡ 16 → collection_in [] (info id) ≡ Ok c
    → draws_of (values_of (Some c) (alone (command db i x))) ≡ 1
one_block id db i x c long is =
    subst (λ (k : Collection). draws_of (values_of (Some k) (alone (command db i x))) ≡ 1) (read_is id c long is)
    (one_by id db i x)

-- no key is wanting of two values with one id whose key is there
none_lacks : (keys : Keyring) (id plain : List ℕ) → keys id ≡ Ok plain
    → first_keyless (by_ids keys) (map need_at (two_sites id)) ≡ None
none_lacks keys id plain is =
    ap (λ (r : Result (List ℕ) Reason). or_else (refused_at 48 (reason_of (with_own id r)))
    (or_else (refused_at 72 (reason_of (with_own id r))) None)) is

keyed_by : (key : KeyDoc) (master plain db : List ℕ) (i x : ℕ) → length db ≤ 63
    → key_of (key ∷ []) master key.id ≡ Ok plain
    → IsKeyed (ring (key ∷ []) master) (demo_collection key.id) (alone (command db i x))
keyed_by key master plain db i x short is =
    let sites = sites_are key.id db i x in
    record {
      had = ap (λ (ss : List Site). first_keyless (by_ids (ring (key ∷ []) master)) (map need_at ss)) sites
          ∙ none_lacks (ring (key ∷ []) master) key.id plain (ap reasoned is);
      short = omega (arith, short, command_size db i x, ap grown sites);
    }

pub keyed : (key : KeyDoc) (master plain db : List ℕ) (i x : ℕ) (c : Collection) → length key.id ≡ 16 → length db ≤ 63
    → collection_in [] (info key.id) ≡ Ok c → key_of (key ∷ []) master key.id ≡ Ok plain
    → IsKeyed (ring (key ∷ []) master) c (alone (command db i x))
keyed key master plain db i x c long short is opens =
    subst (λ (k : Collection). IsKeyed (ring (key ∷ []) master) k (alone (command db i x))) (read_is key.id c long is)
    (keyed_by key master plain db i x short opens)
