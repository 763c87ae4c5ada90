-- The definitions on clear commands, by computation. Places are child numbers joined by dots.
use Rattle.std.proofs.Common.{◌≡◌, codes, refl}
use Rattle.std.specs.Prelude.{false, true, None, Some}
use Rattle.bson_tree.specs.Tree.{Tree, Items, node, item, no_items}
use Rattle.encrypt_schema.specs.declared.command.reason.Reason.TheVariants.{BadField, FieldNotAllowed}
use Rattle.encrypt_schema.specs.Commands.ListedFields.{is_envelope_word, is_index_type, is_own, is_own_branch}
use Rattle.encrypt_schema.specs.Commands.Offences.{is_index_key, is_own_field, is_said}
use Rattle.encrypt_schema.specs.Language.Names.{named}
use Rattle.encrypt_schema.proofs.Commands.Examples.{text, int, yes, empty, one, on_hr, refusal}
use Rattle.clear_commands.specs.declared.command.ClearCommand.TheVariants as commands
use Rattle.clear_commands.specs.ClearFields.{field_kind, may_stand}
use Rattle.clear_commands.specs.ClearNames.{clear_command, is_clear, is_name_of}
use Rattle.clear_commands.specs.ClearVerdicts.{clear_verdict}

-- an array of these
abbrev array : Items → Tree
array is = node 4 is

-- {ping: 1, lsid: {id: 1}, $db: "hr"}
abbrev ping : Items
ping = item (codes "ping") (int 1) (item (codes "lsid") (node 3 (one (codes "id") (int 1))) on_hr)

pub ping_passes : clear_verdict 0 ping ≡ None
unfolding clear_command clear_verdict field_kind is_envelope_word is_name_of is_own is_own_branch is_own_field may_stand
    named
ping_passes = refl

-- {getMore: 5, collection: "people", batchSize: 2}
abbrev get_more : Items
get_more =
    item (codes "getMore") (int 5) (item (codes "collection") (text (codes "people")) (one (codes "batchSize") (int 2)))

pub get_more_passes : clear_verdict 0 get_more ≡ None
unfolding clear_command clear_verdict field_kind is_name_of named
get_more_passes = refl

-- {getMore: 5, update: {salary: 5}}, refused at 1
abbrev get_more_of_update : Items
get_more_of_update =
    item (codes "getMore") (int 5) (one (codes "update") (node 3 (one (codes "salary") (int 5))))

pub get_more_of_update_refused : clear_verdict 0 get_more_of_update ≡ refusal FieldNotAllowed 25
unfolding clear_command clear_verdict field_kind is_envelope_word is_name_of named
get_more_of_update_refused = refl

-- {drop: "people", comment: 1, comment: {}}, refused at 2 as a field that stands twice
abbrev field_twice : Items
field_twice =
    item (codes "drop") (text (codes "people")) (item (codes "comment") (int 1) (one (codes "comment") empty))

pub field_twice_refused : clear_verdict 0 field_twice ≡ refusal BadField 43
unfolding clear_command clear_verdict field_kind is_envelope_word is_name_of named
field_twice_refused = refl

-- {drop: "people", drop: "people"}, refused at 1; behind four bytes more, at an offset that is four more
abbrev name_twice : Items
name_twice = item (codes "drop") (text (codes "people")) (one (codes "drop") (text (codes "people")))

pub name_twice_refused : clear_verdict 0 name_twice ≡ refusal BadField 27
unfolding clear_command clear_verdict is_name_of named
name_twice_refused = refl

pub name_twice_behind : clear_verdict 4 name_twice ≡ refusal BadField 31
unfolding clear_command clear_verdict is_name_of named
name_twice_behind = refl

-- {collStats: "people", scale: {x: 1}}, refused at 1
abbrev document_as_word : Items
document_as_word =
    item (codes "collStats") (text (codes "people")) (one (codes "scale") (node 3 (one (codes "x") (int 1))))

pub document_as_word_refused : clear_verdict 0 document_as_word ≡ refusal FieldNotAllowed 33
unfolding clear_command clear_verdict field_kind is_name_of named
document_as_word_refused = refl

-- {ping: []}, refused at 0
pub array_as_word_refused : clear_verdict 0 (one (codes "ping") (array no_items)) ≡ refusal FieldNotAllowed 10
unfolding clear_command clear_verdict is_name_of named
array_as_word_refused = refl

-- {killCursors: "people", cursors: [1, {x: 1}]}
abbrev kill_cursors : Items
kill_cursors =
    item (codes "killCursors") (text (codes "people"))
    (one (codes "cursors") (array (item (codes "0") (int 1) (one (codes "1") (node 3 (one (codes "x") (int 1)))))))

pub kill_cursors_passes : clear_verdict 0 kill_cursors ≡ None
unfolding clear_command clear_verdict field_kind is_name_of named
kill_cursors_passes = refl

-- {killCursors: "people", cursors: [1, {x: {}}]}, refused at 1
abbrev deep_list : Items
deep_list =
    item (codes "killCursors") (text (codes "people"))
    (one (codes "cursors") (array (item (codes "0") (int 1) (one (codes "1") (node 3 (one (codes "x") empty))))))

pub deep_list_refused : clear_verdict 0 deep_list ≡ refusal FieldNotAllowed 37
unfolding clear_command clear_verdict field_kind is_name_of named
deep_list_refused = refl

-- {endSessions: [{id: 1}]}
abbrev end_sessions : Items
end_sessions = one (codes "endSessions") (array (one (codes "0") (node 3 (one (codes "id") (int 1)))))

pub end_sessions_passes : clear_verdict 0 end_sessions ≡ None
unfolding clear_command clear_verdict is_name_of named
end_sessions_passes = refl

-- {endSessions: {id: 1}}, refused at 0
abbrev document_as_list : Items
document_as_list = one (codes "endSessions") (node 3 (one (codes "id") (int 1)))

pub document_as_list_refused : clear_verdict 0 document_as_list ≡ refusal FieldNotAllowed 17
unfolding clear_command clear_verdict is_name_of named
document_as_list_refused = refl

-- {listCollections: 1, filter: {name: {$gt: 1}}, cursor: {batchSize: 1}}
abbrev list_collections : Items
list_collections =
    item (codes "listCollections") (int 1)
    (item (codes "filter") (node 3 (one (codes "name") (node 3 (one (codes "$gt") (int 1)))))
    (one (codes "cursor") (node 3 (one (codes "batchSize") (int 1)))))

pub list_collections_passes : clear_verdict 0 list_collections ≡ None
unfolding clear_command clear_verdict field_kind is_name_of may_stand named
list_collections_passes = refl

-- {ping: 1, lsid: {id: 1, x: 1}, y: 1}, refused at 1.1, which is read before 2
abbrev unlisted_in_session : Items
unlisted_in_session =
    item (codes "ping") (int 1)
    (item (codes "lsid") (node 3 (item (codes "id") (int 1) (one (codes "x") (int 1)))) (one (codes "y") (int 1)))

pub unlisted_in_session_refused : clear_verdict 0 unlisted_in_session ≡ refusal FieldNotAllowed 35
unfolding clear_command clear_verdict field_kind is_envelope_word is_name_of is_own is_own_branch is_own_field may_stand
    named
unlisted_in_session_refused = refl

-- {listIndexes: "people", cursor: 1}, refused at 1
abbrev word_as_cursor : Items
word_as_cursor = item (codes "listIndexes") (text (codes "people")) (one (codes "cursor") (int 1))

pub word_as_cursor_refused : clear_verdict 0 word_as_cursor ≡ refusal FieldNotAllowed 36
unfolding clear_command clear_verdict field_kind is_name_of named
word_as_cursor_refused = refl

-- {hello: 1, topologyVersion: {processId: 1, counter: {}}}, refused at 1.1
abbrev document_in_topology : Items
document_in_topology =
    item (codes "hello") (int 1)
    (one (codes "topologyVersion") (node 3 (item (codes "processId") (int 1) (one (codes "counter") empty))))

pub document_in_topology_refused : clear_verdict 0 document_in_topology ≡ refusal FieldNotAllowed 60
unfolding clear_command clear_verdict field_kind is_name_of may_stand named
document_in_topology_refused = refl

-- {saslStart: 1, options: {skipEmptyExchange: true}, verbosity: 1}, refused at 2
abbrev unlisted_in_start : Items
unlisted_in_start =
    item (codes "saslStart") (int 1)
    (item (codes "options") (node 3 (one (codes "skipEmptyExchange") yes)) (one (codes "verbosity") (int 1)))

pub unlisted_in_start_refused : clear_verdict 0 unlisted_in_start ≡ refusal FieldNotAllowed 64
unfolding clear_command clear_verdict field_kind is_envelope_word is_name_of may_stand named
unlisted_in_start_refused = refl

-- {hello: 1, $readPreference: {mode: "nearest", tags: [{dc: "x"}]}}
abbrev by_preference : Items
by_preference =
    item (codes "hello") (int 1)
    (one (codes "$readPreference")
    (node 3 (item (codes "mode") (text (codes "nearest"))
    (one (codes "tags") (array (one (codes "0") (node 3 (one (codes "dc") (text (codes "x"))))))))))

pub by_preference_passes : clear_verdict 0 by_preference ≡ None
unfolding clear_command clear_verdict field_kind is_envelope_word is_name_of is_own is_own_branch is_own_field may_stand
    named
by_preference_passes = refl

-- {dropIndexes: "people", index: "ssn_1"}; the same with {ssn: 1, name: "text"}
abbrev drop_index : Tree → Items
drop_index index = item (codes "dropIndexes") (text (codes "people")) (one (codes "index") index)

pub index_by_name_passes : clear_verdict 0 (drop_index (text (codes "ssn_1"))) ≡ None
unfolding clear_command clear_verdict field_kind is_name_of named
index_by_name_passes = refl

abbrev keys : Tree
keys = node 3 (item (codes "ssn") (int 1) (one (codes "name") (text (codes "text"))))

pub index_by_keys_passes : clear_verdict 0 (drop_index keys) ≡ None
unfolding clear_command clear_verdict field_kind is_index_key is_index_type is_name_of is_said may_stand named
index_by_keys_passes = refl

-- {dropIndexes: "people", index: {ssn: 1, name: "x"}}, refused at 1.1
abbrev text_as_key : Tree
text_as_key = node 3 (item (codes "ssn") (int 1) (one (codes "name") (text (codes "x"))))

pub text_as_key_refused : clear_verdict 0 (drop_index text_as_key) ≡ refusal FieldNotAllowed 54
unfolding clear_command clear_verdict field_kind is_index_key is_index_type is_name_of is_said may_stand named
text_as_key_refused = refl

-- {dropIndexes: "people", index: ["ssn_1"]}, refused at 1
pub index_by_array_refused : clear_verdict 0 (drop_index (array (one (codes "0") (text (codes "ssn_1")))))
    ≡ refusal FieldNotAllowed 35
unfolding clear_command clear_verdict field_kind is_name_of named
index_by_array_refused = refl

-- the last name of a row; a name that isn't there; a command without a field
pub last_of_sessions : clear_command (codes "killAllSessionsByPattern") ≡ Some commands.Sessions
unfolding clear_command is_name_of named
last_of_sessions = refl

pub find_is_not_clear : is_clear (one (codes "find") (text (codes "people"))) ≡ false
unfolding clear_command is_name_of named
find_is_not_clear = refl

pub get_more_is_clear : is_clear get_more ≡ true
unfolding clear_command is_name_of named
get_more_is_clear = refl

pub nothing_is_not_clear : is_clear no_items ≡ false
nothing_is_not_clear = refl
