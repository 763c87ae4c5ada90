-- The definitions on keys named by a JSON pointer, by computation. Places are child numbers joined by dots.
use Rattle.std.proofs.Common.{◌≡◌, ℕ, List, [], ◌∷◌, codes, refl}
use Rattle.std.specs.Prelude.{None, Some}
use Rattle.bson_tree.specs.Tree.{Items, node, item}
use Rattle.encrypt_schema.specs.declared.command.marks.Mark.{Mark}
use Rattle.encrypt_schema.specs.declared.command.marks.Role.TheVariants as role
use Rattle.encrypt_schema.specs.declared.command.reason.Reason.TheVariants.{PointerBad}
use Rattle.encrypt_schema.specs.declared.schema.policy.Algorithm.TheVariants.{Random}
use Rattle.encrypt_schema.specs.declared.schema.policy.KeyRef.TheVariants.{Pointer}
use Rattle.encrypt_schema.specs.Language.Names.{named}
use Rattle.encrypt_schema.specs.Language.Policies.{policy_at}
use Rattle.encrypt_schema.specs.Language.Row.{Row}
use Rattle.encrypt_schema.specs.Paths.Classes.{class}
use Rattle.encrypt_schema.specs.Paths.Dotted.{is_dollar, is_position, positional, split}
use Rattle.encrypt_schema.specs.Commands.Pointers.{targets_of}
use Rattle.encrypt_schema.specs.Commands.Stations.{is_set, operator_of}
use Rattle.encrypt_schema.specs.Commands.Offences.{is_again, ruled_offence}
use Rattle.encrypt_schema.specs.Commands.Visits.{is_payload, roles, content_verdict}
use Rattle.encrypt_schema.proofs.Commands.Examples.{text, int, one, insert_into, update_by, refusal, all_types}

-- note: random, each type, under the key that these names lead to
abbrev pub note_by : List (List ℕ) → List Row
note_by names = record {
  path = codes "note" ∷ [];
  others = None;
  policy = record { algorithm = Random; key = Pointer names; types = all_types };
} ∷ []

-- the same under the pointer /owner
abbrev pub clients : List Row
clients = note_by (codes "owner" ∷ [])

-- insert into clients this document
abbrev pub insert_client : Items → Items
insert_client document = insert_into (text (codes "clients")) (node 3 document)

-- {note: 7}
abbrev pub note : Items
note = one (codes "note") (int 7)

-- the mark of an int that is stored, from one offset to another, whose key's name stands from one to another
abbrev pub named_at : ℕ → ℕ → ℕ → ℕ → Mark
named_at start end from to = record {
  start = start;
  end = end;
  tag = 16;
  policy = 0;
  role = role.Store;
  name = Some (record { start = from; end = to });
}

-- {owner: "hr-key", note: 7}
abbrev pub owned : Items
owned = item (codes "owner") (text (codes "hr-key")) note

pub owned_accepted : content_verdict clients 0 (insert_client owned) ≡ None
unfolding class is_again is_payload named ruled_offence policy_at targets_of
owned_accepted = refl

pub owned_roles : roles clients 0 (insert_client owned) ≡ named_at 70 74 57 63 ∷ []
unfolding class named targets_of
owned_roles = refl

-- {note: 7}, refused at 1.0.0
pub unowned_refused : content_verdict clients 0 (insert_client note) ≡ refusal PointerBad 52
unfolding class is_again is_payload named ruled_offence policy_at targets_of
unowned_refused = refl

-- {owner: 1, note: 7}, refused at 1.0.1
pub no_string_refused : content_verdict clients 0 (insert_client (item (codes "owner") (int 1) note))
    ≡ refusal PointerBad 63
unfolding class is_again is_payload named ruled_offence policy_at targets_of
no_string_refused = refl

-- {owner: "a", owner: "b", note: 7}, refused at 1.0.2
pub twice_refused : content_verdict clients 0
    (insert_client (item (codes "owner") (text (codes "a")) (item (codes "owner") (text (codes "b")) note)))
    ≡ refusal PointerBad 78
unfolding class is_again is_payload named ruled_offence policy_at targets_of
twice_refused = refl

-- the pointer /note, of the protected field itself: {note: "a"}, refused at 1.0.0
pub protected_refused :
    content_verdict (note_by (codes "note" ∷ [])) 0 (insert_client (one (codes "note") (text (codes "a"))))
    ≡ refusal PointerBad 52
unfolding class is_again is_payload named ruled_offence policy_at targets_of
protected_refused = refl

-- the pointer /a/0: {a: {"0": "k"}, note: 7}
pub below_document_roles : roles (note_by (codes "a" ∷ codes "0" ∷ [])) 0
    (insert_client (item (codes "a") (node 3 (one (codes "0") (text (codes "k")))) note))
    ≡ named_at 69 73 60 61 ∷ []
unfolding class named targets_of
below_document_roles = refl

-- the pointer /a/0: {a: ["k"], note: 7}, refused at 1.0.1
pub below_array_refused : content_verdict (note_by (codes "a" ∷ codes "0" ∷ [])) 0
    (insert_client (item (codes "a") (node 4 (one (codes "0") (text (codes "k")))) note))
    ≡ refusal PointerBad 69
unfolding class is_again is_payload named ruled_offence policy_at targets_of
below_array_refused = refl

-- update clients {owner: "hr-key", note: 7}
pub replaced_roles : roles clients 0 (update_by (text (codes "clients")) (node 3 owned)) ≡ named_at 83 87 70 76 ∷ []
unfolding class is_dollar named targets_of
replaced_roles = refl

-- update clients {$set: {owner: "hr-key", note: 7}}, refused at 1.0.1.0.1
pub set_refused : content_verdict clients 0
    (update_by (text (codes "clients")) (node 3 (one (codes "$set") (node 3 owned))))
    ≡ refusal PointerBad 93
unfolding class is_again is_dollar is_payload is_position is_set operator_of named ruled_offence policy_at positional
    split targets_of
set_refused = refl
