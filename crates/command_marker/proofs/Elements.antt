-- The elements that are left to be written, one after the other.
use Rattle.std.proofs.Common.{◌≡◌, ◌∙◌, ℕ, ◌+◌, ◌<◌, ◌≤◌, List, ◌++◌, length, Option, Some, arith, ap, sym}
use Rattle.std.proofs.Common.{append_assoc, length-append}
use Rattle.std.proofs.lemmas.List.{append-nil}
use Rattle.bson_tree.specs.Tree.{Tree, Items, no_items, item, items_size}
use Rattle.bson_tree.specs.Spelling.{value_bytes, items_bytes}
use Rattle.bson_codec.specs.Borrowed.{At, Elem}
use Rattle.bson_codec.specs.Cuts.{items_before, items_from}
use Rattle.bson_codec.specs.Elements.{TakesElement}
use Rattle.bson_codec.proofs.Cuts.{fewer}
use Rattle.bson_splice.proofs.Cuts.{stay_before}
use Rattle.encrypt_schema.specs.declared.command.marks.Mark.{Mark}
use Rattle.command_marker.specs.Splices.{left_in, left, next_start, spliced_in, spliced}
use Rattle.command_marker.proofs.Frames.{one_item}

module _ (put : Mark → Tree → Tree) where
  -- what is left is the next element and the others
  left_parts : (here rest : At) (e : Elem) (ms : List Mark) → TakesElement here (Some e) rest
      → (spliced put here.start ms here.tree ≡ item e.name (spliced_in put e.start ms e.tree)
      (spliced put rest.start (left_in e.start ms e.tree) rest.tree))
      × (left here.start ms here.tree ≡ left rest.start (left_in e.start ms e.tree) rest.tree)
  left_parts here rest e ms taken =
      let p : here.start + (2 + length e.name) ≡ e.start = sym taken.1 in
      let q : e.start + length (value_bytes e.tree) ≡ rest.start = sym taken.2 in (
        ap (spliced put here.start ms) taken.0
            ∙ ap (λ (n : ℕ). item e.name (spliced_in put n ms e.tree)
            (spliced put (n + length (value_bytes e.tree)) (left_in n ms e.tree) rest.tree)) p
            ∙ ap (λ (n : ℕ). item e.name (spliced_in put e.start ms e.tree)
            (spliced put n (left_in e.start ms e.tree) rest.tree)) q,
        ap (left here.start ms) taken.0
            ∙ ap (λ (n : ℕ). left (n + length (value_bytes e.tree)) (left_in n ms e.tree) rest.tree) p
            ∙ ap (λ (n : ℕ). left n (left_in e.start ms e.tree) rest.tree) q,
      )

  -- there is room for the next element
  pub room_next : (out first all : List ℕ) (here rest : At) (e : Elem) (ms : List Mark) (limit : ℕ)
      → TakesElement here (Some e) rest
      → out ++ items_bytes (spliced put here.start ms here.tree) ≡ first ++ all → length first + length all < limit
      → length out + length (items_bytes (item e.name (spliced_in put e.start ms e.tree) no_items)) < limit
  room_next out first all here rest e ms limit taken made few =
      let t = spliced_in put e.start ms e.tree in
      let is = spliced put rest.start (left_in e.start ms e.tree) rest.tree in
      let parts : items_bytes (spliced put here.start ms here.tree)
      ≡ items_bytes (item e.name t no_items) ++ items_bytes is
      = ap items_bytes (left_parts here rest e ms taken).0 ∙ one_item e.name t is in
      let long : length out + length (items_bytes (spliced put here.start ms here.tree)) ≡ length first + length all
      = sym (length-append out (items_bytes (spliced put here.start ms here.tree))) ∙ ap length made
      ∙ length-append first all in
      let size : length (items_bytes (spliced put here.start ms here.tree))
      ≡ length (items_bytes (item e.name t no_items)) + length (items_bytes is)
      = ap length parts ∙ length-append (items_bytes (item e.name t no_items)) (items_bytes is) in
      omega (arith, long, size, few)

  -- one element more was written
  pub goes_on : (out mid all : List ℕ) (here rest : At) (e : Elem) (ms ns : List Mark) → TakesElement here (Some e) rest
      → out ++ items_bytes (spliced put here.start ms here.tree) ≡ all
      → mid ≡ out ++ items_bytes (item e.name (spliced_in put e.start ms e.tree) no_items)
      → ns ≡ left_in e.start ms e.tree
      → mid ++ items_bytes (spliced put rest.start ns rest.tree) ≡ all
  goes_on out mid all here rest e ms ns taken made written behind =
      let one = items_bytes (item e.name (spliced_in put e.start ms e.tree) no_items) in
      let others = items_bytes (spliced put rest.start (left_in e.start ms e.tree) rest.tree) in
      let parts : items_bytes (spliced put here.start ms here.tree) ≡ one ++ others =
      ap items_bytes (left_parts here rest e ms taken).0
      ∙ one_item e.name (spliced_in put e.start ms e.tree)
      (spliced put rest.start (left_in e.start ms e.tree) rest.tree) in
      ap (λ (x : List ℕ). x ++ items_bytes (spliced put rest.start ns rest.tree)) written
      ∙ ap (λ (xs : List Mark). (out ++ one) ++ items_bytes (spliced put rest.start xs rest.tree)) behind
      ∙ append_assoc out one others
      ∙ ap (λ (x : List ℕ). out ++ x) (sym parts)
      ∙ made

  -- and as many marks are left
  pub rests_on : (here rest : At) (e : Elem) (ms ns all : List Mark) → TakesElement here (Some e) rest
      → left here.start ms here.tree ≡ all → ns ≡ left_in e.start ms e.tree → left rest.start ns rest.tree ≡ all
  rests_on here rest e ms ns all taken rests behind =
      ap (λ (xs : List Mark). left rest.start xs rest.tree) behind ∙ sym (left_parts here rest e ms taken).1 ∙ rests

-- elements at the front were appended as they stand, then one was taken, if there was one, and `rest` is left: whatever
-- the marks put in, what was written and what is left from that one on become what all become
pub record PutsBefore (ms : List Mark) (here : At) (met : Option Elem) (rest : At) (old new : List ℕ) : Type 0 where
  pub mid : At
  pub taken : TakesElement mid met rest
  pub made : (put : Mark → Tree → Tree) → new ++ items_bytes (spliced put mid.start ms mid.tree)
      ≡ old ++ items_bytes (spliced put here.start ms here.tree)
  pub rests : left mid.start ms mid.tree ≡ left here.start ms here.tree
  pub fewer : items_size mid.tree ≤ items_size here.tree

pub puts_before : (next : Option ℕ) (ms : List Mark) (here : At) (met : Option Elem) (rest : At)
    (old new skipped : List ℕ) → next ≡ next_start ms → TakesElement (items_from next here) met rest
    → skipped ≡ items_bytes (items_before next here) → new ≡ old ++ skipped
    → PutsBefore ms here met rest old new
puts_before next ms here met rest old new skipped is taken front written =
    let begin : Mark → ℕ = λ m. m.start in
    record {
      mid = items_from next here;
      taken = taken;
      made = λ put.
          let others = items_bytes (spliced put (items_from next here).start ms (items_from next here).tree) in
          ap (λ (x : List ℕ). x ++ others) (written ∙ ap (λ (x : List ℕ). old ++ x) front)
          ∙ append_assoc old (items_bytes (items_before next here)) others
          ∙ ap (λ (x : List ℕ). old ++ x) (sym (stay_before begin put next ms here (sym is)).0);
      rests = sym (stay_before begin (λ m t. t) next ms here (sym is)).1;
      fewer = fewer next here;
    }

-- no element is left
pub ends : (put : Mark → Tree → Tree) (ms ns : List Mark) (here : At) (all new : List ℕ)
    → here.tree ≡ no_items
    → new ++ items_bytes (spliced put here.start ms here.tree) ≡ all
    → left here.start ms here.tree ≡ ns → (new ≡ all) × (ms ≡ ns)
ends put ms ns here all new none made rests = (
  sym (append-nil new) ∙ ap (λ (is : Items). new ++ items_bytes (spliced put here.start ms is)) (sym none) ∙ made,
  ap (left here.start ms) (sym none) ∙ rests,
)
