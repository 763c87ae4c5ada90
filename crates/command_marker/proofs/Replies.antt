-- A reply, part by part.
use Rattle.std.proofs.Common.{◌≡◌, ◌∙◌, ℕ, ◌+◌, ◌≤◌, ◌<◌, List, [], ◌∷◌, ◌++◌, length, arith, ap, sym, subst}
use Rattle.std.proofs.Common.{append_assoc, refl, Result, Err, ◌&&◌, not, true, false}
use Rattle.std.specs.Prelude.{Bool, false, codes, nat_lt, Vec}
use Rattle.std.specs.Global.{Global}
use Rattle.std.specs.Int.{to_le_bytes, w32}
use Rattle.bson_tree.specs.Tree.{Items, node, no_items, item}
use Rattle.bson_tree.specs.Spelling.{items_bytes, doc_bytes}
use Rattle.encrypt_schema.specs.declared.command.marks.Mark.{Mark}
use Rattle.bson_codec.specs.Borrowed.{At}
use Rattle.encrypt_schema.specs.Language.Row.{Row}
use Rattle.encrypt_schema.proofs.Commands.Sites.{as_many}
use Rattle.encrypt_schema.specs.Commands.Visits.{roles}
use Rattle.command_marker.specs.declared.stop.ReplyFault.{ReplyFault}
use Rattle.command_marker.specs.declared.stop.ReplyFault.TheVariants as faults
use Rattle.command_marker.specs.Marked.{marked}
use Rattle.command_marker.specs.Commands.{passes}
use Rattle.command_marker.specs.Reply.{is_ruled, flag, one, reply_fields, reply, reply_to, reply_clear_to, reply_limit}
use Rattle.command_marker.specs.Reply.{RepliesAs}
use Rattle.command_marker.specs.Written.{SizesAs, reply_end, reply_head}
use Rattle.command_marker.proofs.Frames.{one_item}
use Rattle.bson_tree.proofs.Sizes.{framed_size, element_size}

-- a reply has 80 bytes more than its command
pub reply_size : (marked ruled : Bool) (command : Items)
    → length (reply marked ruled command) ≡ length (doc_bytes command) + 80
unfolding reply_fields
reply_size marked ruled command =
    let last = item (codes "ok") one no_items in
    let third = item (codes "result") (node 3 command) last in
    let second = item (codes "schemaRequiresEncryption") (flag ruled) third in
    omega (
      arith,
      framed_size (items_bytes (reply_fields marked ruled command)),
      element_size (codes "hasEncryptionPlaceholders") (flag marked) second,
      element_size (codes "schemaRequiresEncryption") (flag ruled) third,
      element_size (codes "result") (node 3 command) last,
      element_size (codes "ok") one no_items,
      framed_size (items_bytes command),
    )

-- the fields of a reply, one behind the other
fields_parts : (marked ruled : Bool) (command : Items)
    → items_bytes (reply_fields marked ruled command)
    ≡ items_bytes (item (codes "hasEncryptionPlaceholders") (flag marked) no_items)
    ++ (items_bytes (item (codes "schemaRequiresEncryption") (flag ruled) no_items)
    ++ (3 ∷ (codes "result" ++ (0 ∷ (doc_bytes command ++ items_bytes (item (codes "ok") one no_items))))))
unfolding reply_fields
fields_parts marked ruled command =
    let last = item (codes "ok") one no_items in
    let third = item (codes "result") (node 3 command) last in
    let second = item (codes "schemaRequiresEncryption") (flag ruled) third in
    let first = items_bytes (item (codes "hasEncryptionPlaceholders") (flag marked) no_items) in
    one_item (codes "hasEncryptionPlaceholders") (flag marked) second
    ∙ ap (λ (bytes : List ℕ). first ++ bytes) (one_item (codes "schemaRequiresEncryption") (flag ruled) third)

joined : (l a b n d o : List ℕ) (t : ℕ)
    → ((l ++ (a ++ (b ++ (t ∷ (n ++ 0 ∷ []))))) ++ d) ++ (o ++ 0 ∷ [])
    ≡ l ++ ((a ++ (b ++ (t ∷ (n ++ (0 ∷ (d ++ o)))))) ++ 0 ∷ [])
joined l a b n d o t = simp append_assoc refl

framed_by : ℕ → List ℕ → List ℕ
framed_by n elements = to_le_bytes w32 n ++ (elements ++ 0 ∷ [])

-- a reply is its head, its command and its end
pub reply_parts : (marked ruled : Bool) (command : Items) (size : ℕ) → size ≡ length (reply marked ruled command)
    → (reply_head size marked ruled ++ doc_bytes command) ++ reply_end ≡ reply marked ruled command
unfolding framed_by
reply_parts marked ruled command size is =
    let elements = items_bytes (reply_fields marked ruled command) in
    let long : size ≡ length elements + 5 = is ∙ framed_size elements in
    joined (to_le_bytes w32 size) (items_bytes (item (codes "hasEncryptionPlaceholders") (flag marked) no_items))
    (items_bytes (item (codes "schemaRequiresEncryption") (flag ruled) no_items)) (codes "result") (doc_bytes command)
    (items_bytes (item (codes "ok") one no_items)) 3
    ∙ ap (framed_by size) (sym (fields_parts marked ruled command))
    ∙ ap (λ (n : ℕ). framed_by n elements) long

-- what was written is the reply
pub replied : (marked ruled : Bool) (command : Items) (size : ℕ) (out : List ℕ)
    → (size ≡ length (doc_bytes command) + 80) × (length (doc_bytes command) + 80 ≤ reply_limit)
    → out ≡ (reply_head size marked ruled ++ doc_bytes command) ++ reply_end
    → (out ≡ reply marked ruled command) × (length (reply marked ruled command) ≤ reply_limit)
replied marked ruled command size out fits written =
    let long = reply_size marked ruled command in (
      written ∙ reply_parts marked ruled command size (fits.0 ∙ sym long),
      subst (λ (n : ℕ). n ≤ reply_limit) (sym long) fits.1,
    )

-- or it is too long
pub refused : (bytes : List ℕ) (size : ℕ) (fault : ReplyFault) → length bytes ≡ size → SizesAs size (Err fault)
    → RepliesAs bytes (Err fault)
refused bytes size faults.TooLong is long = subst (λ (n : ℕ). reply_limit < n) (sym is) long
refused bytes size faults.Memory is long = absurd long

-- the reply to a command that no rule concerns
pub clear_is : (command : Items) → reply_clear_to command ≡ reply false false command
unfolding reply_clear_to
clear_is command = refl

and_true : (b : Bool) → (b && true) ≡ b
and_true true = refl
and_true false = refl

-- rules that are there concern a command that doesn't pass
ruled_is : (rows : List Row) (c : Items) → passes c ≡ false → nat_lt 0 (length rows) ≡ is_ruled rows c
ruled_is rows c h = sym (ap (λ (b : Bool). nat_lt 0 (length rows) && not b) h ∙ and_true (nat_lt 0 (length rows)))

-- the reply to a command with its marks
pub marked_is : (rows others : List Row) (c d : At) (ms : List Mark) (result : Result (Vec ℕ Global) ReplyFault)
    → rows ≡ others → c ≡ d → ms ≡ roles others d.start d.tree → passes d.tree ≡ false
    → RepliesAs (reply (nat_lt 0 (length ms)) (nat_lt 0 (length rows)) (marked rows c.tree)) result
    → RepliesAs (reply_to others d.tree) result
unfolding reply_to
marked_is rows others c d ms result p q e h told =
    subst (λ (b : Bool). RepliesAs (reply (nat_lt 0 (length (roles others 0 d.tree))) b (marked others d.tree)) result)
    (ruled_is others d.tree h)
    (subst (λ (n : ℕ). RepliesAs (reply (nat_lt 0 n) (nat_lt 0 (length others)) (marked others d.tree)) result)
    (ap length e ∙ as_many others d.start d.tree)
    (subst (λ (x : At). RepliesAs (reply (nat_lt 0 (length ms)) (nat_lt 0 (length others)) (marked others x.tree))
    result) q
    (subst (λ (rs : List Row). RepliesAs (reply (nat_lt 0 (length ms)) (nat_lt 0 (length rs)) (marked rs c.tree))
    result) p told)))
