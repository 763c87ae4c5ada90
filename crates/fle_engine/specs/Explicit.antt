-- One value sealed by itself, that of a document of one element (libmongocrypt's explicit encryption).
use Rattle.std.specs.Prelude.{◌≡◌, ℕ, ◌+◌, ◌==◌, Bool, true, false, ◌||◌, ◌&&◌, if◌then◌else◌, List, length, Option}
use Rattle.std.specs.Prelude.{Some, None, Result, Ok, Err}
use Rattle.bson_codec.specs.Borrowed.{Elem}
use Rattle.bson_tree.specs.Spelling.{doc_bytes, value_bytes}
use Rattle.bson_tree.specs.Tree.{Tree, Items, item, no_items, tag_of}
use Rattle.context_machine.specs.Rings.{Finder}
use Rattle.doc_rewrite.specs.Alone.{sealed_single}
use Rattle.doc_rewrite.specs.Keys.{Found}
use Rattle.doc_rewrite.specs.Sites.{draw, sealed_width}
use Rattle.encrypt_schema.specs.Commands.Offences.{is_never_allowed}
use Rattle.encrypt_schema.specs.Commands.Visits.{holds_payload, refused_at}
use Rattle.encrypt_schema.specs.declared.command.reason.Reason.{Reason}
use Rattle.encrypt_schema.specs.declared.command.reason.Reason.TheVariants as reasons
use Rattle.encrypt_schema.specs.declared.schema.policy.Algorithm.{Algorithm}
use Rattle.encrypt_schema.specs.declared.schema.policy.Algorithm.TheVariants.{Deterministic, Random}
use Rattle.fle_stream.specs.Plan.{Plan}
use Rattle.payload6.specs.Needs.{Need}
use Rattle.fle_engine.specs.Rulings.{Ruling, by_refusal, refused, sized_plan}

-- a document has one element, and no other
abbrev pub is_only : Items → Bool
is_only no_items = false
is_only (item name t no_items) = true
is_only (item name t (item other u is)) = false

-- this is its element
abbrev pub IsOnly : Items → Elem → Type 0
IsOnly d e = (d ≡ item e.name e.tree no_items) × (e.start ≡ 4 + (2 + length e.name))

-- the deterministic algorithm
abbrev pub is_deterministic : Algorithm → Bool
is_deterministic Deterministic = true
is_deterministic Random = false

-- the deterministic algorithm doesn't seal this type: double, document, array, bool, code with scope, decimal128
abbrev pub is_uncompared : ℕ → Bool
is_uncompared tag = tag == 1 || tag == 3 || tag == 4 || tag == 8 || tag == 15 || tag == 19

-- why a value isn't sealed by this algorithm: its type; or it is a payload already
abbrev pub value_reason : Algorithm → Tree → Option Reason
value_reason algorithm t =
    if is_never_allowed (tag_of t) || (is_deterministic algorithm && is_uncompared (tag_of t))
    then Some reasons.TypeNotAllowed
    else (if holds_payload t then Some reasons.AlreadyEncrypted else None)

-- a value sealed under this data key
abbrev pub value_plan : Found → Algorithm → List ℕ → Tree → Plan
value_plan found algorithm name t = record {
  draws = draw algorithm;
  size = 7 + length name + sealed_width (length (value_bytes t));
  bytes = λ blocks. doc_bytes (sealed_single algorithm found.id found.key name t blocks);
}

-- a value that may be sealed, by its key
abbrev pub value_under : Result Found Reason → Algorithm → List ℕ → Tree → Ruling
value_under (Ok found) algorithm name t = sized_plan (value_plan found algorithm name t)
value_under (Err reason) algorithm name t = refused (record { reason = reason; at = 4 + (2 + length name) })

-- a document whose only element has the value; another one is refused
abbrev pub only_ruling : Result Found Reason → Algorithm → Items → Ruling
only_ruling found algorithm no_items = refused (record { reason = reasons.BadField; at = 0 })
only_ruling found algorithm (item name t no_items) =
    by_refusal (refused_at (4 + (2 + length name)) (value_reason algorithm t)) (value_under found algorithm name t)
only_ruling found algorithm (item name t (item other u is)) = refused (record { reason = reasons.BadField; at = 0 })

-- what a document of one value comes to, under the key that this leads to, by this algorithm
unfoldable pub value_ruling : Finder → Need → Algorithm → Items → Ruling
value_ruling keys need algorithm d = only_ruling (keys need) algorithm d
