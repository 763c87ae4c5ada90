-- The definitions on rules for all fields but listed ones, by computation. Places are child numbers joined by dots.
use Rattle.std.proofs.Common.{◌≡◌, List, [], ◌∷◌, codes, refl}
use Rattle.std.specs.Prelude.{None, Some}
use Rattle.bson_tree.specs.Tree.{Items, node, item}
use Rattle.encrypt_schema.specs.declared.command.marks.Role.TheVariants as role
use Rattle.encrypt_schema.specs.declared.command.reason.Reason.TheVariants.{BelowProtected, PositionalOnPath}
use Rattle.encrypt_schema.specs.declared.command.reason.Reason.TheVariants.{RenameMixed}
use Rattle.encrypt_schema.specs.declared.schema.policy.Algorithm.TheVariants.{Deterministic}
use Rattle.encrypt_schema.specs.declared.schema.policy.KeyRef.TheVariants.{Id}
use Rattle.encrypt_schema.specs.Language.Names.{named}
use Rattle.encrypt_schema.specs.Language.Policies.{is_same_policy, policy_at}
use Rattle.encrypt_schema.specs.Language.Row.{Row}
use Rattle.encrypt_schema.specs.Paths.Classes.{class}
use Rattle.encrypt_schema.specs.Paths.Dotted.{is_dollar, is_position, positional, split}
use Rattle.encrypt_schema.specs.Commands.Pointers.{targets_of}
use Rattle.encrypt_schema.specs.Commands.Stations.{is_logical, is_set, operator_of}
use Rattle.encrypt_schema.specs.Commands.Offences.{is_again, ruled_offence, renamed}
use Rattle.encrypt_schema.specs.Commands.Visits.{is_payload, roles, content_verdict}
use Rattle.encrypt_schema.proofs.Commands.Examples.{text, int, one, insert_into, find_by, update_by, mark_at, refusal}

-- each field of m but kind: deterministic, ints
abbrev pub scores : List Row
scores = record {
  path = codes "m" ∷ [];
  others = Some (codes "kind" ∷ []);
  policy = record { algorithm = Deterministic; key = Id []; types = 16 ∷ [] };
} ∷ []

-- insert into scores {m: {kind: "t", 7: 1, x: 1}}
abbrev pub others_stored : Items
others_stored =
    insert_into (text (codes "scores")) (node 3 (one (codes "m")
    (node 3 (item (codes "kind") (text (codes "t")) (item (codes "7") (int 1) (one (codes "x") (int 1)))))))

pub others_stored_accepted : content_verdict scores 0 others_stored ≡ None
unfolding class is_again is_payload named ruled_offence policy_at
others_stored_accepted = refl

pub others_stored_roles : roles scores 0 others_stored
    ≡ mark_at 67 71 16 0 role.Store ∷ mark_at 74 78 16 0 role.Store ∷ []
unfolding class named targets_of
others_stored_roles = refl

-- find scores {"m.7": 1}
abbrev pub digit_found : Items
digit_found = find_by (text (codes "scores")) (node 3 (one (codes "m.7") (int 1)))

pub digit_found_accepted : content_verdict scores 0 digit_found ≡ None
unfolding class is_again is_dollar is_logical is_payload is_position named ruled_offence policy_at positional split
digit_found_accepted = refl

pub digit_found_roles : roles scores 0 digit_found ≡ mark_at 38 42 16 0 role.Compare ∷ []
unfolding class is_dollar is_logical is_position named positional split
digit_found_roles = refl

-- find scores {"m.kind": "t"}
abbrev pub listed_found : Items
listed_found = find_by (text (codes "scores")) (node 3 (one (codes "m.kind") (text (codes "t"))))

pub listed_found_accepted : content_verdict scores 0 listed_found ≡ None
unfolding class is_again is_dollar is_logical is_position named ruled_offence positional split
listed_found_accepted = refl

pub listed_found_roles : roles scores 0 listed_found ≡ []
unfolding class is_dollar is_logical is_position named positional split
listed_found_roles = refl

-- find scores {"m.x.y": 1}, refused at 1.0
abbrev pub below_found : Items
below_found = find_by (text (codes "scores")) (node 3 (one (codes "m.x.y") (int 1)))

pub below_found_refused : content_verdict scores 0 below_found ≡ refusal BelowProtected 40
unfolding class is_again is_dollar is_logical is_position named ruled_offence positional split
below_found_refused = refl

-- update scores {$set: {"m.$": 1}}, refused at 1.0.1.0.0
abbrev pub position_set : Items
position_set =
    update_by (text (codes "scores")) (node 3 (one (codes "$set") (node 3 (one (codes "m.$") (int 1)))))

pub position_set_refused : content_verdict scores 0 position_set ≡ refusal PositionalOnPath 73
unfolding class is_again is_dollar is_payload is_position is_set operator_of named ruled_offence policy_at positional
    split
position_set_refused = refl

-- update scores {$rename: {"m.x": "m.y"}}
abbrev pub other_renamed : Items
other_renamed =
    update_by (text (codes "scores")) (node 3 (one (codes "$rename") (node 3 (one (codes "m.x") (text (codes "m.y"))))))

pub other_renamed_accepted : content_verdict scores 0 other_renamed ≡ None
unfolding class is_again is_dollar is_same_policy is_position is_set operator_of named ruled_offence policy_at
    positional renamed split
other_renamed_accepted = refl

-- update scores {$rename: {"m.x": "m.kind"}}, refused at 1.0.1.0.0
abbrev pub renamed_to_listed : Items
renamed_to_listed =
    update_by (text (codes "scores")) (node 3 (one (codes "$rename")
    (node 3 (one (codes "m.x") (text (codes "m.kind"))))))

pub renamed_to_listed_refused : content_verdict scores 0 renamed_to_listed ≡ refusal RenameMixed 76
unfolding class is_again is_dollar is_position is_set operator_of named ruled_offence positional renamed split
renamed_to_listed_refused = refl
