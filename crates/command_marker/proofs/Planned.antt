-- The marks of a command are a plan by which it is marked.
use Rattle.std.proofs.Common.{◌≡◌, ◌∙◌, ℕ, ◌+◌, ◌≤◌, Bool, List, [], ◌∷◌, ◌++◌, length, drop, arith, ap, sym, subst}
use Rattle.std.proofs.Common.{Err}
use Rattle.std.proofs.lemmas.List.{drop-drop}
use Rattle.command_marker.specs.declared.stop.ReplyFault.{ReplyFault}
use Rattle.command_marker.specs.Reply.{reply, reply_limit, RepliesAs}
use Rattle.bson_tree.specs.Tree.{Items}
use Rattle.bson_tree.specs.Spelling.{items_bytes, doc_bytes}
use Rattle.bson_tree.specs.Filled.{fill_items}
use Rattle.bson_codec.specs.Borrowed.{At}
use Rattle.encrypt_schema.specs.declared.command.marks.Mark.{Mark}
use Rattle.encrypt_schema.specs.Language.Policies.{policy_at}
use Rattle.encrypt_schema.specs.Language.Row.{Row}
use Rattle.encrypt_schema.specs.Commands.Visits.{roles}
use Rattle.encrypt_schema.proofs.Commands.Plans.{Takes}
use Rattle.encrypt_schema.proofs.Commands.Ruled as numbers
use Rattle.encrypt_schema.proofs.Commands.Ruled.{roles_ruled}
use Rattle.encrypt_schema.proofs.Commands.Taken.{roles_taken, few_roles}
use Rattle.payload6.specs.Needs.{Need}
use Rattle.command_marker.specs.Marked.{marked, marked_by, marking_at, need_marked}
use Rattle.command_marker.specs.Splices.{spliced, added, put_at}
use Rattle.command_marker.specs.Written.{AreRuled, IsPlan, SizesAs, growth, growth_by, reply_end, reply_head}
use Rattle.command_marker.proofs.Lengths.{marking_size}
use Rattle.bson_tree.proofs.Sizes.{framed_size}
use Rattle.command_marker.proofs.MarkedPlaces.{put_marking, marked_roles}
use Rattle.command_marker.proofs.Replies.{refused, replied, reply_size}
use Rattle.bson_splice.proofs.Splices.{alike}
use Rattle.command_marker.proofs.Splices.{spliced_items}

ruled : (rows : List Row) (ms : List Mark) → numbers.AreRuled (length rows) ms → AreRuled rows ms
ruled rows [] h = tt
ruled rows (m ∷ ms) h = (h.0, ruled rows ms h.1)

-- marks at values of elements that begin at `at`
planned_by : (rows : List Row) (d : At) (at : ℕ) (c : Items) (ms : List Mark) → Takes at c ms []
    → (spliced (marked_by rows d) at ms c ≡ fill_items (marking_at rows d ms) at c)
    × (length (items_bytes (spliced (marked_by rows d) at ms c))
    ≡ length (items_bytes c) + added (growth_by rows d) ms)
planned_by rows d at c ms taken =
    let s = spliced_items (marked_by rows d) (growth_by rows d)
    (λ m t. marking_size (policy_at m.policy rows).algorithm (need_marked rows d m) t) taken tt in (
      s.made ∙ alike (put_at (marked_by rows d) ms) (marking_at rows d ms) at (λ q u h. put_marking rows d ms q u)
          at c (omega arith),
      omega (arith, s.size),
    )

-- the marks of a command
planned_roles : (rows : List Row) (c : At) → IsPlan rows c (roles rows c.start c.tree)
planned_roles rows c =
    let ms = roles rows c.start c.tree in
    let both = planned_by rows c (c.start + 4) c.tree ms (roles_taken rows c.start c.tree) in
    record {
      ruled = ruled rows ms (roles_ruled rows c.start c.tree);
      few = omega (arith, few_roles rows c.start c.tree);
      made = both.0 ∙ sym (marked_roles rows c.start c.tree);
      size = both.1;
    }

pub planned : (rows others : List Row) (c d : At) (ms : List Mark) → rows ≡ others → c ≡ d
    → ms ≡ roles others d.start d.tree → IsPlan rows c ms
planned rows others c d ms p q e =
    subst (λ (rs : List Row). IsPlan rs c ms) (sym p)
    (subst (λ (x : At). IsPlan others x ms) (sym q)
    (subst (λ (ns : List Mark). IsPlan others d ns) (sym e) (planned_roles others d)))

-- how long the marked command is
marked_size : (rows : List Row) (c : At) (ms : List Mark) → IsPlan rows c ms
    → length (doc_bytes (marked rows c.tree)) ≡ length (doc_bytes c.tree) + added (growth_by rows c) ms
marked_size rows c ms plan =
    let same = ap (λ (is : Items). length (items_bytes is)) plan.made in
    omega (arith, same, plan.size, framed_size (items_bytes c.tree), framed_size (items_bytes (marked rows c.tree)))

-- what was written is the reply to the marked command
pub marked_replied : (rows : List Row) (c : At) (ms : List Mark) (some ruled : Bool) (size : ℕ) (out : List ℕ)
    → IsPlan rows c ms
    → (size ≡ length (doc_bytes c.tree) + added (growth_by rows c) ms + 80)
    × (length (doc_bytes c.tree) + added (growth_by rows c) ms + 80 ≤ reply_limit)
    → out ≡ (reply_head size some ruled ++ doc_bytes (marked rows c.tree)) ++ reply_end
    → (out ≡ reply some ruled (marked rows c.tree)) × (length (reply some ruled (marked rows c.tree)) ≤ reply_limit)
marked_replied rows c ms some ruled size out plan fits written =
    let long = marked_size rows c ms plan in
    replied some ruled (marked rows c.tree) size out (omega (arith, long, fits.0), omega (arith, long, fits.1)) written

-- or it is too long
pub marked_refused : (rows : List Row) (c : At) (ms : List Mark) (some ruled : Bool) (fault : ReplyFault)
    → IsPlan rows c ms
    → SizesAs (length (doc_bytes c.tree) + added (growth_by rows c) ms + 80) (Err fault)
    → RepliesAs (reply some ruled (marked rows c.tree)) (Err fault)
marked_refused rows c ms some ruled fault plan told =
    let long : length (reply some ruled (marked rows c.tree))
    ≡ length (doc_bytes c.tree) + added (growth_by rows c) ms + 80
    = omega (arith, reply_size some ruled (marked rows c.tree), marked_size rows c ms plan) in
    refused (reply some ruled (marked rows c.tree))
    (length (doc_bytes c.tree) + added (growth_by rows c) ms + 80) fault long told

-- the growth at a number is what the mark there adds
pub added_at : (rows : List Row) (d : At) (ms : List Mark) (i : ℕ) (m : Mark) (n : ℕ) (need : Need)
    → drop i ms ≡ m ∷ drop (i + 1) ms → n ≡ growth need → need ≡ need_marked rows d m
    → added (growth_by rows d) (drop i ms) ≡ n + added (growth_by rows d) (drop (i + 1) ms)
added_at rows d ms i m n need first grows is =
    ap (added (growth_by rows d)) first
    ∙ ap (λ (x : Need). growth x + added (growth_by rows d) (drop (i + 1) ms)) (sym is)
    ∙ ap (λ (k : ℕ). k + added (growth_by rows d) (drop (i + 1) ms)) (sym grows)

-- and behind the last mark none
pub added_past : (rows : List Row) (d : At) (ms : List Mark) (i : ℕ) → drop i ms ≡ []
    → added (growth_by rows d) (drop i ms) ≡ 0 + added (growth_by rows d) (drop (i + 1) ms)
added_past rows d ms i e =
    let more : drop (i + 1) ms ≡ [] = sym (drop-drop 1 i ms) ∙ ap (drop 1) e in
    let same = ap (added (growth_by rows d)) (e ∙ sym more) in
    omega (arith, same)
