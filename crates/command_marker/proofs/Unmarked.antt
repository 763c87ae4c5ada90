-- Commands without a value that is marked stand in their replies as they are.
use Rattle.std.proofs.Common.{◌≡◌, ℕ, ◌+◌, Bool, true, false, not, ◌&&◌, List, [], length, nat_lt, Option, None}
use Rattle.std.proofs.Common.{unwrap_or, refl, ap, ap₂, ◌∙◌}
use Rattle.std.proofs.lemmas.Bool.{false≢true}
use Rattle.bson_tree.specs.Tree.{Tree, leaf, node, Items, no_items, item}
use Rattle.bson_tree.specs.Filled.{fill_tree, fill_items}
use Rattle.bson_tree.specs.Spelling.{value_bytes}
use Rattle.bson_codec.specs.Borrowed.{At}
use Rattle.encrypt_schema.specs.declared.command.marks.Mark.{Mark}
use Rattle.encrypt_schema.specs.Language.Collection.{Collection}
use Rattle.encrypt_schema.specs.Language.Row.{Row}
use Rattle.encrypt_schema.specs.Commands.Targets.{info_of, rows_of, verdict}
use Rattle.encrypt_schema.specs.Commands.Visits.{roles}
use Rattle.encrypt_schema.proofs.Commands.Unmarked.{no_rows_no_roles, passed_no_roles, passed_no_refusal}
use Rattle.command_marker.specs.Commands.{passes}
use Rattle.command_marker.specs.Marked.{marked, marking_at}
use Rattle.command_marker.specs.Reply.{reply, reply_clear_to, reply_to}

-- values put in nowhere change nothing
mutual
  same_tree : (f : ℕ → Tree → Option Tree) (h : (at : ℕ) (t : Tree) → f at t ≡ None) (at : ℕ) (t : Tree)
      → fill_tree f at t ≡ t
  same_tree f h at (leaf tag bytes) = ap (λ (o : Option Tree). unwrap_or o (leaf tag bytes)) (h at (leaf tag bytes))
  same_tree f h at (node tag is) =
      ap (λ (o : Option Tree). unwrap_or o (node tag (fill_items f (at + 4) is))) (h at (node tag is))
      ∙ ap (λ (js : Items). node tag js) (same_items f h (at + 4) is)

  same_items : (f : ℕ → Tree → Option Tree) (h : (at : ℕ) (t : Tree) → f at t ≡ None) (at : ℕ) (is : Items)
      → fill_items f at is ≡ is
  same_items f h at no_items = refl
  same_items f h at (item name t is) =
      let behind = at + (2 + length name) + length (value_bytes t) in
      ap (λ (u : Tree). item name u (fill_items f behind is)) (same_tree f h (at + (2 + length name)) t)
      ∙ ap (λ (js : Items). item name t js) (same_items f h behind is)

no_marking : (rows : List Row) (d : At) (at : ℕ) (t : Tree) → marking_at rows d [] at t ≡ None
no_marking rows d at t = refl

-- a command without marks is marked as it is
marked_none : (rows : List Row) (c : Items) → roles rows 0 c ≡ [] → marked rows c ≡ c
unfolding marked
marked_none rows c h =
    let d : At = record { tree = c; start = 0 } in
    ap (λ (ms : List Mark). fill_items (marking_at rows d ms) 4 c) h
    ∙ same_items (marking_at rows d []) (no_marking rows d) 4 c

-- without rules the reply has both flags false and the command as it is
pub reply_without_rules : (c : Items) → reply_to [] c ≡ reply_clear_to c
unfolding reply_to reply_clear_to
reply_without_rules c =
    ap₂ (λ (ms : List Mark) (is : Items). reply (nat_lt 0 (length ms)) false is) (no_rows_no_roles 0 c)
    (marked_none [] c (no_rows_no_roles 0 c))

both_false : (b : Bool) → (b && false) ≡ false
both_false true = refl
both_false false = refl

-- in a command that passes nothing is protected
pub passing_roles : (rows : List Row) (at : ℕ) (c : Items) → passes c ≡ true → roles rows at c ≡ []
passing_roles rows at no_items h = absurd (false≢true h)
passing_roles rows at (item name t is) h = passed_no_roles rows at name t is h

-- and nothing is refused
pub passing_verdict : (db : List ℕ) (collections : List Collection) (at : ℕ) (c : Items) → passes c ≡ true
    → verdict db collections at c ≡ None
passing_verdict db collections at no_items h = absurd (false≢true h)
passing_verdict db collections at (item name t is) h =
    passed_no_refusal db (info_of collections (item name t is)) (rows_of collections (item name t is)) at name t is h

-- and its reply has both flags false and the command as it is, whatever the rules are
pub passing_reply : (rows : List Row) (c : Items) → passes c ≡ true → reply_to rows c ≡ reply_clear_to c
unfolding reply_to reply_clear_to
passing_reply rows c h =
    ap (λ (b : Bool). reply (nat_lt 0 (length (roles rows 0 c))) (nat_lt 0 (length rows) && not b) (marked rows c)) h
    ∙ ap (λ (b : Bool). reply (nat_lt 0 (length (roles rows 0 c))) b (marked rows c))
    (both_false (nat_lt 0 (length rows)))
    ∙ ap₂ (λ (ms : List Mark) (is : Items). reply (nat_lt 0 (length ms)) false is) (passing_roles rows 0 c h)
    (marked_none rows c (passing_roles rows 0 c h))
