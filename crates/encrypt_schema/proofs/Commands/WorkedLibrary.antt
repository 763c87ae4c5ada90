-- The definitions on commands of a library, by computation. Places are child numbers joined by dots.
use Rattle.std.proofs.Common.{◌≡◌, [], ◌∷◌, codes, refl}
use Rattle.std.specs.Prelude.{None, Option}
use Rattle.bson_tree.specs.Tree.{Items, Tree, node, item, no_items}
use Rattle.encrypt_schema.specs.declared.command.marks.Role.TheVariants as role
use Rattle.encrypt_schema.specs.declared.command.reason.Reason.TheVariants.{NotACommand, BadField, BelowProtected}
use Rattle.encrypt_schema.specs.declared.command.reason.Reason.TheVariants.{Pipeline, FieldNotAllowed}
use Rattle.encrypt_schema.specs.Language.Names.{named}
use Rattle.encrypt_schema.specs.Language.Policies.{policy_at}
use Rattle.encrypt_schema.specs.Paths.Classes.{class}
use Rattle.encrypt_schema.specs.Paths.Dotted.{is_dollar, is_position, positional, split}
use Rattle.encrypt_schema.specs.Commands.ListedFields.{is_count_word, is_envelope_word, is_index_keys, is_index_option}
use Rattle.encrypt_schema.specs.Commands.ListedFields.{is_index_type, is_index_word, is_indexing_word, is_modify_keys}
use Rattle.encrypt_schema.specs.Commands.ListedFields.{is_find_option, is_find_word, is_modify_word, is_own}
use Rattle.encrypt_schema.specs.Commands.ListedFields.{is_own_branch}
use Rattle.encrypt_schema.specs.Commands.Pointers.{targets_of}
use Rattle.encrypt_schema.specs.Commands.Stations.{is_logical, is_passed, is_set}
use Rattle.encrypt_schema.specs.Commands.Offences.{is_index_key, is_own_field, is_said, ruled_offence, target_offence}
use Rattle.encrypt_schema.specs.Commands.Offences.{is_again, text_wrong}
use Rattle.encrypt_schema.specs.Commands.More.{more_of}
use Rattle.encrypt_schema.specs.Commands.Visits.{is_payload, roles, content_verdict, target_verdict, Refusal}
use Rattle.encrypt_schema.specs.Commands.Visits.{command_visits, first_refusal}
use Rattle.encrypt_schema.proofs.Commands.Examples.{text, int, yes, empty, one, on_hr, mark_at, refusal, people}

-- {findAndModify: "people", query: {ssn: "x"}, update: {$set: {ssn: "y"}}, sort: {ssn: 1}, $db: "hr"}
abbrev pub modify : Items
modify =
    item (codes "findAndModify") (text (codes "people"))
    (item (codes "query") (node 3 (one (codes "ssn") (text (codes "x"))))
    (item (codes "update") (node 3 (one (codes "$set") (node 3 (one (codes "ssn") (text (codes "y"))))))
    (item (codes "sort") (node 3 (one (codes "ssn") (int 1))) on_hr)))

pub modify_roles : roles people 0 modify ≡ mark_at 46 52 2 0 role.Compare ∷ mark_at 80 86 2 0 role.Store ∷ []
unfolding class is_dollar is_envelope_word is_logical is_modify_keys is_modify_word is_passed is_position is_set named
    positional split targets_of
modify_roles = refl

pub modify_accepted : content_verdict people 0 modify ≡ None
unfolding class is_dollar is_envelope_word is_logical is_modify_keys is_modify_word is_passed is_payload is_position
    is_said is_set named policy_at positional ruled_offence split targets_of
modify_accepted = refl

-- the verbs refuse it as a command that they don't know, at 0
pub modify_unknown : target_verdict (codes "hr") 0 modify ≡ refusal NotACommand 19
unfolding is_passed named target_offence
modify_unknown = refl

-- the first place that a library refuses beyond the contents
abbrev beyond : Items → Option Refusal
beyond c = first_refusal (more_of people) (command_visits people 0 c)

-- {findAndModify: "people", query: {}, remove: true, sort: {ssn: "x"}, $db: "hr"}, refused at 3.0
abbrev pub value_as_order : Items
value_as_order =
    item (codes "findAndModify") (text (codes "people"))
    (item (codes "query") empty
    (item (codes "remove") yes (item (codes "sort") (node 3 (one (codes "ssn") (text (codes "x")))) on_hr)))

pub value_as_order_refused : beyond value_as_order ≡ refusal FieldNotAllowed 66
unfolding is_modify_keys is_modify_word is_passed is_said named
value_as_order_refused = refl

-- {findAndModify: "people", update: [], $db: "hr"}, refused at 1
abbrev pub by_pipeline : Items
by_pipeline =
    item (codes "findAndModify") (text (codes "people")) (item (codes "update") (node 4 no_items) on_hr)

pub by_pipeline_refused : content_verdict people 0 by_pipeline ≡ refusal Pipeline 38
unfolding is_modify_keys is_modify_word is_passed named ruled_offence
by_pipeline_refused = refl

-- {findAndModify: "people", remove: true, let: {}, $db: "hr"}, refused at 2
abbrev pub with_variables : Items
with_variables =
    item (codes "findAndModify") (text (codes "people")) (item (codes "remove") yes (item (codes "let") empty on_hr))

pub with_variables_refused : content_verdict people 0 with_variables ≡ refusal FieldNotAllowed 44
unfolding is_envelope_word is_modify_keys is_modify_word is_passed named ruled_offence
with_variables_refused = refl

-- {findAndModify: "people", $db: "hr"}, refused at the command
abbrev pub no_change : Items
no_change = item (codes "findAndModify") (text (codes "people")) on_hr

pub no_change_refused : content_verdict people 0 no_change ≡ refusal BadField 0
unfolding is_passed named ruled_offence
no_change_refused = refl

-- {count: "people", query: {ssn: "x"}, limit: 1, $db: "hr"}
abbrev pub count : Items
count =
    item (codes "count") (text (codes "people"))
    (item (codes "query") (node 3 (one (codes "ssn") (text (codes "x")))) (item (codes "limit") (int 1) on_hr))

pub count_roles : roles people 0 count ≡ mark_at 38 44 2 0 role.Compare ∷ []
unfolding class is_count_word is_dollar is_envelope_word is_logical is_passed is_position named positional split
    targets_of
count_roles = refl

pub count_accepted : content_verdict people 0 count ≡ None
unfolding class is_count_word is_dollar is_envelope_word is_logical is_passed is_payload is_position named policy_at
    positional ruled_offence split targets_of
count_accepted = refl

-- {count: "people", query: {}, query: {}, $db: "hr"}, refused at 2
abbrev pub count_twice : Items
count_twice =
    item (codes "count") (text (codes "people")) (item (codes "query") empty (item (codes "query") empty on_hr))

pub count_twice_refused : content_verdict people 0 count_twice ≡ refusal BadField 41
unfolding is_count_word is_passed named ruled_offence
count_twice_refused = refl

-- {count: "people", lsid: {x: 1}, $db: "hr"}, refused at 1.0
abbrev pub count_in_session : Items
count_in_session =
    item (codes "count") (text (codes "people")) (item (codes "lsid") (node 3 (one (codes "x") (int 1))) on_hr)

pub count_in_session_refused : beyond count_in_session ≡ refusal FieldNotAllowed 35
unfolding is_count_word is_envelope_word is_own is_own_branch is_own_field is_passed named
count_in_session_refused = refl

-- {distinct: "people", key: a path, $db: "hr"}
abbrev pub distinct : Tree → Items
distinct path = item (codes "distinct") (text (codes "people")) (item (codes "key") path on_hr)

pub distinct_accepted : content_verdict people 0 (distinct (text (codes "ssn"))) ≡ None
unfolding class is_dollar is_envelope_word is_passed is_position named policy_at positional ruled_offence split
    text_wrong
distinct_accepted = refl

-- that of a random field, refused at 1
pub distinct_refused : content_verdict people 0 (distinct (text (codes "salary"))) ≡ refusal BelowProtected 30
unfolding class is_dollar is_passed is_position named policy_at positional ruled_offence split text_wrong
distinct_refused = refl

-- {createIndexes: "people", indexes: [index], $db: "hr"}
abbrev pub create_index : Items → Items
create_index index =
    item (codes "createIndexes") (text (codes "people"))
    (item (codes "indexes") (node 4 (one (codes "0") (node 3 index))) on_hr)

-- {key: {ssn: "text"}, name: "n"}
pub index_accepted :
    beyond
    (create_index (item (codes "key") (node 3 (one (codes "ssn") (text (codes "text"))))
    (one (codes "name") (text (codes "n"))))) ≡ None
unfolding is_envelope_word is_index_key is_index_keys is_index_option is_index_type is_index_word is_indexing_word
    is_passed is_said named
index_accepted = refl

-- {key: {ssn: "x"}}, refused at 1.0.0.0
pub index_refused :
    beyond (create_index (one (codes "key") (node 3 (one (codes "ssn") (text (codes "x"))))))
    ≡ refusal FieldNotAllowed 64
unfolding is_index_key is_index_type is_indexing_word is_passed is_said named
index_refused = refl

-- {key: {ssn: 1}, partialFilterExpression: {}}, refused at 1.0.1
pub partial_refused :
    content_verdict people 0
    (create_index (item (codes "key") (node 3 (one (codes "ssn") (int 1)))
    (one (codes "partialFilterExpression") empty)))
    ≡ refusal FieldNotAllowed 94
unfolding is_index_keys is_index_option is_index_word is_indexing_word is_passed named ruled_offence
partial_refused = refl

-- {find: "people", sort: order, $db: "hr"}
abbrev pub find_sorted : Tree → Items
find_sorted order = item (codes "find") (text (codes "people")) (item (codes "sort") order on_hr)

-- {ssn: 1}
pub sorted_accepted : beyond (find_sorted (node 3 (one (codes "ssn") (int 1)))) ≡ None
unfolding is_envelope_word is_find_option is_find_word is_passed is_said named
sorted_accepted = refl

-- {ssn: "x"}, refused at 1.0; the verbs let it out
pub sorted_by_value : beyond (find_sorted (node 3 (one (codes "ssn") (text (codes "x"))))) ≡ refusal FieldNotAllowed 36
unfolding is_envelope_word is_find_option is_find_word is_passed is_said named
sorted_by_value = refl

pub sorted_by_value_let_out :
    content_verdict people 0 (find_sorted (node 3 (one (codes "ssn") (text (codes "x"))))) ≡ None
unfolding is_again is_passed named ruled_offence
sorted_by_value_let_out = refl

-- {find: "people", projection: {ssn: {$slice: bounds}}, $db: "hr"}
abbrev pub find_sliced : Tree → Items
find_sliced bounds =
    item (codes "find") (text (codes "people"))
    (item (codes "projection") (node 3 (one (codes "ssn") (node 3 (one (codes "$slice") bounds)))) on_hr)

-- [1, 2]
pub slice_accepted :
    beyond (find_sliced (node 4 (item (codes "0") (int 1) (one (codes "1") (int 2))))) ≡ None
unfolding is_envelope_word is_find_option is_find_word is_passed is_said named
slice_accepted = refl

-- [1, "x"], refused at 1.0.0.1
pub slice_refused :
    beyond (find_sliced (node 4 (item (codes "0") (int 1) (one (codes "1") (text (codes "x"))))))
    ≡ refusal FieldNotAllowed 68
unfolding is_envelope_word is_find_option is_find_word is_passed is_said named
slice_refused = refl
