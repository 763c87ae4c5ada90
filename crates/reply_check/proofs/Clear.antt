-- A command of which nothing is marked and that no rule concerns: the right reply is the clear one.
use Rattle.std.proofs.Common.{◌≡◌, ◌∙◌, ◌+◌, Bool, true, false, not, ◌&&◌, List, [], length, nat_lt, Option, Some}
use Rattle.std.proofs.Common.{None}
use Rattle.std.proofs.Common.{refl, sym, ap, ap₂}
use Rattle.std.specs.Prelude.{codes}
use Rattle.bson_tree.specs.Tree.{Items, kids_of}
use Rattle.bson_codec.specs.Borrowed.{At, Elem}
use Rattle.encrypt_schema.specs.declared.command.marks.Mark.{Mark}
use Rattle.encrypt_schema.specs.Language.Row.{Row}
use Rattle.encrypt_schema.specs.Commands.Visits.{roles}
use Rattle.encrypt_schema.proofs.Commands.Unmarked.{no_rows_no_roles}
use Rattle.command_marker.specs.Commands.{passes}
use Rattle.command_marker.specs.Marked.{marked}
use Rattle.command_marker.specs.Reply.{flag, is_ruled}
use Rattle.command_marker.proofs.Unmarked.{passing_roles}
use Rattle.reply_check.specs.Matches.{matches, test_by}
use Rattle.reply_check.specs.Ordered.{ordered}
use Rattle.reply_check.specs.Same.{is_same, is_same_tree}
use Rattle.reply_check.specs.Wrong.{differing, field, first_misshapen, or_wrong, shape_or, unless, with_field}
use Rattle.reply_check.specs.Wrong.{wrong_by, wrong_clear, wrong_reply}
use Rattle.reply_check.specs.declared.wrong.WrongReply.{WrongReply}
use Rattle.reply_check.proofs.Marks.{shut, tested}

-- where nothing is marked, a result is the marked command where it is the command
unmarked_same : (rows : List Row) (c d : Items) → roles rows 0 c ≡ []
    → is_same (ordered rows c d) (marked rows c) ≡ is_same d c
unmarked_same rows c d none =
    let command : At = record { tree = c; start = 0 } in
    sym (tested rows command d)
    ∙ ap (λ (ms : List Mark). matches (test_by rows command) 4 ms c d) none
    ∙ shut (test_by rows command) 4 c d [] tt

-- ---- what is wrong, by two tests of a result that say the same

next_alike : (o : Option Elem) (f g : Elem → Option WrongReply) → ((e : Elem) → f e ≡ g e)
    → with_field o f ≡ with_field o g
next_alike None f g alike = refl
next_alike (Some e) f g alike = alike e

-- what is missing or differs behind a first flag, and behind both
abbrev missing_last : Bool → Bool → (Items → Bool) → At → Elem → Elem → Option WrongReply
missing_last m r same at first second =
    with_field (field (codes "result") (at.start + 4) at.tree) (λ result. differing m r same first second result)

abbrev missing_behind : Bool → Bool → (Items → Bool) → At → Elem → Option WrongReply
missing_behind m r same at first =
    with_field (field (codes "schemaRequiresEncryption") (at.start + 4) at.tree)
    (λ second. missing_last m r same at first second)

differing_alike : (m r : Bool) (same other : Items → Bool) (first second result : Elem)
    → ((d : Items) → same d ≡ other d)
    → differing m r same first second result ≡ differing m r other first second result
differing_alike m r same other first second result alike =
    ap (λ (b : Bool). or_wrong (unless (is_same_tree first.tree (flag m)) first)
    (or_wrong (unless (is_same_tree second.tree (flag r)) second) (unless b result)))
    (alike (kids_of result.tree))

second_alike : (m r : Bool) (same other : Items → Bool) (at : At) (first : Elem) → ((d : Items) → same d ≡ other d)
    → missing_behind m r same at first ≡ missing_behind m r other at first
second_alike m r same other at first alike =
    next_alike (field (codes "schemaRequiresEncryption") (at.start + 4) at.tree)
    (λ (second : Elem). missing_last m r same at first second) (λ (second : Elem). missing_last m r other at first
    second)
    (λ second. next_alike (field (codes "result") (at.start + 4) at.tree)
    (λ (result : Elem). differing m r same first second result)
    (λ (result : Elem). differing m r other first second result)
    (λ result. differing_alike m r same other first second result alike))

wrong_alike : (m r : Bool) (same other : Items → Bool) (at : At) → ((d : Items) → same d ≡ other d)
    → wrong_by m r same at ≡ wrong_by m r other at
unfolding wrong_by
wrong_alike m r same other at alike =
    ap (λ (o : Option WrongReply). shape_or (first_misshapen [] (at.start + 4) at.tree) o)
    (next_alike (field (codes "hasEncryptionPlaceholders") (at.start + 4) at.tree)
    (λ (first : Elem). missing_behind m r same at first) (λ (first : Elem). missing_behind m r other at first)
    (λ first. second_alike m r same other at first alike))

-- ---- commands that no rule concerns

-- no value is marked, and no rule concerns the command
clear_by : (rows : List Row) (c : Items) (r : At) → roles rows 0 c ≡ [] → is_ruled rows c ≡ false
    → wrong_clear c r ≡ wrong_reply rows c r
clear_by rows c r none free =
    wrong_alike false false (λ d. is_same d c) (λ d. is_same (ordered rows c d) (marked rows c)) r
    (λ d. sym (unmarked_same rows c d none))
    ∙ ap₂ (λ (m ruled : Bool). wrong_by m ruled (λ d. is_same (ordered rows c d) (marked rows c)) r)
    (sym (ap (λ (ms : List Mark). nat_lt 0 (length ms)) none)) (sym free)

and_false : (b : Bool) → (b && false) ≡ false
and_false true = refl
and_false false = refl

-- it passes
pub passed_clear : (rows : List Row) (c : Items) (r : At) → passes c ≡ true → wrong_clear c r ≡ wrong_reply rows c r
passed_clear rows c r h = clear_by rows c r (passing_roles rows 0 c h)
    (ap (λ (b : Bool). nat_lt 0 (length rows) && not b) h ∙ and_false (nat_lt 0 (length rows)))

-- there are no rules
pub unruled_clear : (c : Items) (r : At) → wrong_clear c r ≡ wrong_reply [] c r
unruled_clear c r = clear_by [] c r (no_rows_no_roles 0 c) refl
