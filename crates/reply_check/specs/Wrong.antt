-- MongoDB Client Side Encryption, marking replies: what is wrong with a reply, and where
use Rattle.std.specs.Prelude.{◌≡◌, ℕ, ◌+◌, ◌==◌, Bool, false, not, ◌||◌, nat_lt, List, [], ◌∷◌, ◌++◌, codes}
use Rattle.std.specs.Prelude.{length, Option, Some, None, Result, Ok, Err, if◌then◌else◌}
use Rattle.std.specs.Option.{option_map_or}
use Rattle.bson_tree.specs.Tree.{Tree, Items, no_items, item, tag_of, kids_of}
use Rattle.bson_tree.specs.Spelling.{value_bytes}
use Rattle.bson_codec.specs.Borrowed.{At, Elem}
use Rattle.encrypt_schema.specs.Language.Names.{named, is_among}
use Rattle.encrypt_schema.specs.Language.Row.{Row}
use Rattle.encrypt_schema.specs.Commands.Visits.{roles}
use Rattle.command_marker.specs.Marked.{marked}
use Rattle.command_marker.specs.Reply.{flag, is_ruled}
use Rattle.reply_check.specs.declared.wrong.WrongReply.{WrongReply}
use Rattle.reply_check.specs.declared.wrong.WrongReply.TheVariants as wrongs
use Rattle.reply_check.specs.Ordered.{ordered}
use Rattle.reply_check.specs.Right.{values_of}
use Rattle.reply_check.specs.Same.{is_same, is_same_tree}

-- the type that an element of this name has to have; none where it isn't read
unfoldable pub type_read : List ℕ → Option ℕ
type_read name =
    if named name (codes "hasEncryptionPlaceholders") then Some 8
    else (if named name (codes "schemaRequiresEncryption") then Some 8
    else (if named name (codes "result") then Some 3 else None))

-- an element that is read has another type, or stands behind one of its name
abbrev pub is_misshapen : List (List ℕ) → List ℕ → Tree → Bool
is_misshapen elder name t = option_map_or (λ tag. not (tag_of t == tag) || is_among name elder) (type_read name) false

-- where the value of the first such of elements that begin at `at` begins, behind elements of these names
abbrev pub first_misshapen : List (List ℕ) → ℕ → Items → Option ℕ
first_misshapen elder at no_items = None
first_misshapen elder at (item name t is) =
    if is_misshapen elder name t then Some (at + (2 + length name))
    else first_misshapen (elder ++ name ∷ []) (at + (2 + length name) + length (value_bytes t)) is

-- the first element that has this name, of elements that begin at `at`
abbrev pub field : List ℕ → ℕ → Items → Option Elem
field word at no_items = None
field word at (item name t is) =
    if named name word then Some (record { name = name; tree = t; start = at + (2 + length name) })
    else field word (at + (2 + length name) + length (value_bytes t)) is

-- the first of two
abbrev pub or_wrong : Option WrongReply → Option WrongReply → Option WrongReply
or_wrong None later = later
or_wrong (Some first) later = Some first

-- an element that doesn't pass a test differs
abbrev pub unless : Bool → Elem → Option WrongReply
unless right e = if right then None else Some (wrongs.Differs e.start)

-- a missing element is told at the reply itself
abbrev pub with_field : Option Elem → (Elem → Option WrongReply) → Option WrongReply
with_field None next = Some (wrongs.Shape 0)
with_field (Some e) next = next e

-- the shape is right: the first flag, else the second flag, else the result differs
abbrev pub differing : Bool → Bool → (Items → Bool) → Elem → Elem → Elem → Option WrongReply
differing marked ruled same first second result =
    or_wrong (unless (is_same_tree first.tree (flag marked)) first)
    (or_wrong (unless (is_same_tree second.tree (flag ruled)) second)
    (unless (same (kids_of result.tree)) result))

-- each element that is read stands at most once and has its type: one is missing, or one differs
abbrev pub missing_or : Bool → Bool → (Items → Bool) → At → Option WrongReply
missing_or marked ruled same r =
    with_field (field (codes "hasEncryptionPlaceholders") (r.start + 4) r.tree) (λ first.
    with_field (field (codes "schemaRequiresEncryption") (r.start + 4) r.tree) (λ second.
    with_field (field (codes "result") (r.start + 4) r.tree) (λ result.
    differing marked ruled same first second result)))

-- the first element of a wrong shape, else what is missing or differs
abbrev pub shape_or : Option ℕ → Option WrongReply → Option WrongReply
shape_or None later = later
shape_or (Some at) later = Some (wrongs.Shape at)

-- what is wrong with a reply that has to have these flags and such a result
unfoldable pub wrong_by : Bool → Bool → (Items → Bool) → At → Option WrongReply
wrong_by marked ruled same r =
    shape_or (first_misshapen [] (r.start + 4) r.tree) (missing_or marked ruled same r)

-- what is wrong with a reply to a command under rules
abbrev pub wrong_reply : List Row → Items → At → Option WrongReply
wrong_reply rows c r =
    wrong_by (nat_lt 0 (length (roles rows 0 c))) (is_ruled rows c) (λ d. is_same (ordered rows c d) (marked rows c)) r

-- what is wrong with a reply to a command that no rule concerns
abbrev pub wrong_clear : Items → At → Option WrongReply
wrong_clear c r = wrong_by false false (λ d. is_same d c) r

-- the answer is what is wrong, or that nothing is
abbrev pub Tells : Option WrongReply → Result (Unit {0}) WrongReply → Type 0
Tells wrong (Ok _) = wrong ≡ None
Tells wrong (Err w) = wrong ≡ Some w

-- the shape and the flags of a reply are right, and this is its result, which alone may differ; or this is wrong
abbrev pub ReadsAs : Bool → Bool → At → Result Elem WrongReply → Type 0
ReadsAs marked ruled r (Ok e) =
    ((same : Items → Bool) → wrong_by marked ruled same r ≡ unless (same (kids_of e.tree)) e)
    × (values_of (codes "hasEncryptionPlaceholders") r.tree ≡ flag marked ∷ [])
    × (values_of (codes "schemaRequiresEncryption") r.tree ≡ flag ruled ∷ [])
    × (values_of (codes "result") r.tree ≡ e.tree ∷ [])
    × (tag_of e.tree ≡ 3)
ReadsAs marked ruled r (Err w) = (same : Items → Bool) → wrong_by marked ruled same r ≡ Some w
