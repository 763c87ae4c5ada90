-- The definitions on markings that name a key by an alternate name, by computation.
use Rattle.std.proofs.Common.{◌≡◌, [], ◌∷◌, codes, length, refl}
use Rattle.bson_tree.specs.Tree.{Tree, leaf, item}
use Rattle.encrypt_schema.specs.Language.Names.{named}
use Rattle.encrypt_schema.specs.Language.Policies.{policy_at}
use Rattle.encrypt_schema.specs.Paths.Classes.{class}
use Rattle.encrypt_schema.specs.Commands.Pointers.{targets_of}
use Rattle.encrypt_schema.proofs.Commands.Examples.{text, one}
use Rattle.encrypt_schema.proofs.Commands.WorkedPointers.{clients, insert_client, owned}
use Rattle.payload6.specs.Marking.{marking_fields}
use Rattle.command_marker.specs.Marking.{marked_value}
use Rattle.command_marker.specs.Marked.{marked}
use Rattle.command_marker.specs.Reply.{reply_fields, reply_to}

-- 00 and {v: 7, a: 2, ka: "hr-key"}, 35 bytes, in a binary of subtype 06
abbrev pub owned_marking : Tree
owned_marking =
    leaf 5
    (35 ∷ 0 ∷ 0 ∷ 0 ∷ 6
    ∷ 0 ∷ 34 ∷ 0 ∷ 0 ∷ 0
    ∷ 16 ∷ 118 ∷ 0 ∷ 7 ∷ 0 ∷ 0 ∷ 0
    ∷ 16 ∷ 97 ∷ 0 ∷ 2 ∷ 0 ∷ 0 ∷ 0
    ∷ 2 ∷ 107 ∷ 97 ∷ 0 ∷ 7 ∷ 0 ∷ 0 ∷ 0 ∷ 104 ∷ 114 ∷ 45 ∷ 107 ∷ 101 ∷ 121 ∷ 0
    ∷ 0 ∷ [])

-- insert into clients {owner: "hr-key", note: 7}
pub owned_marked : marked clients (insert_client owned)
    ≡ insert_client (item (codes "owner") (text (codes "hr-key")) (one (codes "note") owned_marking))
unfolding class marked marked_value marking_fields named policy_at targets_of
owned_marked = refl

pub owned_reply : length (reply_to clients (insert_client owned)) ≡ 205
unfolding class marked marked_value marking_fields named policy_at reply_fields reply_to targets_of
owned_reply = refl
