-- What marks put into a document, in reading order, is what they put in by the offsets of values.
use Rattle.std.proofs.Common.{◌≡◌, ℕ, ◌+◌, ◌<◌, ◌≤◌, Bool, true, false, List, [], ◌∷◌, length, Option, None}
use Rattle.std.proofs.Common.{refl, sym, ap, ◌∙◌, subst, arith}
use Rattle.std.proofs.lemmas.Bool.{eq-eqb, ne_eqb, ltb-false}
use Rattle.std.specs.Prelude.{◌==◌}
use Rattle.bson_tree.specs.Tree.{Tree, leaf, node, Items, no_items, item}
use Rattle.bson_tree.specs.Spelling.{framed, value_bytes, items_bytes}
use Rattle.bson_tree.specs.Filled.{fill_tree, fill_items}
use Rattle.encrypt_schema.specs.declared.command.marks.Mark.{Mark}
use Rattle.encrypt_schema.proofs.Commands.Widths.{items_length}
use Rattle.bson_tree.proofs.Sizes.{framed_size}
use Rattle.bson_splice.proofs.Splices.{alike, same}
use Rattle.command_marker.specs.Splices.{begins, is_before, left_in, left, spliced_in, spliced, added, put_at}
use Rattle.encrypt_schema.proofs.Commands.Plans.{TakesIn, own, raw, inside, Takes, done, next, AreBehind, IsNextBehind}
use Rattle.encrypt_schema.proofs.Commands.Plans.{earlier, behind, untouched}

-- ---- marks by the offsets where they begin

module _ (put : Mark → Tree → Tree) where
  -- nothing is put in before the marks
  pub none_put : (ms : List Mark) (q : ℕ) (u : Tree) → AreBehind q ms → put_at put ms q u ≡ None
  none_put [] q u b = refl
  none_put (m ∷ ms) q u b =
      let off : (m.start == q) ≡ false = ne_eqb m.start q (λ e. omega (arith, e, b.0)) in
      rw off (none_put ms q u b.1)

  mutual
    pub passed_in : {at : ℕ} {t : Tree} {ms rest : List Mark} → TakesIn at t ms rest → (q : ℕ) (u : Tree)
        → at + length (value_bytes t) < q → put_at put ms q u ≡ put_at put rest q u
    passed_in (own at t m ms s e) q u h =
        let off : (m.start == q) ≡ false = ne_eqb m.start q (λ same. omega (arith, same, s, h)) in
        rw off refl
    passed_in (raw at tag bytes ms) q u h = refl
    passed_in (inside at tag is ms rest d) q u h = passed d q u (omega (arith, h, framed_size (items_bytes is)))

    -- behind the elements the marks that they took put in nothing
    passed : {at : ℕ} {is : Items} {ms rest : List Mark} → Takes at is ms rest → (q : ℕ) (u : Tree)
        → at + length (items_bytes is) < q → put_at put ms q u ≡ put_at put rest q u
    passed (done at ms) q u h = refl
    passed (next at name t is ms mid rest d ds) q u h =
        passed_in d q u (omega (arith, h, items_length name t is))
        ∙ passed ds q u (omega (arith, h, items_length name t is))

  -- ---- the splice

  module _ (more : Mark → ℕ) (grows : (m : Mark) (t : Tree)
      → length (value_bytes (put m t)) ≡ length (value_bytes t) + more m) where
    -- a splice puts in what its marks put in by offsets, leaves the marks behind, and is longer by what its marks add
    record SplicedIn (at : ℕ) (t : Tree) (ms rest : List Mark) : Type 0 where
      pub made : spliced_in put at ms t ≡ fill_tree (put_at put ms) at t
      pub rests : left_in at ms t ≡ rest
      pub size : length (value_bytes (spliced_in put at ms t)) + added more rest
          ≡ length (value_bytes t) + added more ms

    pub record Spliced (at : ℕ) (is : Items) (ms rest : List Mark) : Type 0 where
      pub made : spliced put at ms is ≡ fill_items (put_at put ms) at is
      pub rests : left at ms is ≡ rest
      pub size : length (items_bytes (spliced put at ms is)) + added more rest ≡ length (items_bytes is) + added more ms

    -- the value's own mark
    of_own : (at : ℕ) (t : Tree) (m : Mark) (ms : List Mark) → m.start ≡ at → SplicedIn at t (m ∷ ms) ms
    of_own at (leaf tag bytes) m ms s =
        let on : (m.start == at) ≡ true = eq-eqb m.start at s in
        record { made = rw on refl; rests = rw on refl; size = rw on (omega (arith, grows m (leaf tag bytes))) }
    of_own at (node tag is) m ms s =
        let on : (m.start == at) ≡ true = eq-eqb m.start at s in
        record { made = rw on refl; rests = rw on refl; size = rw on (omega (arith, grows m (node tag is))) }

    not_begun : (at : ℕ) (ms : List Mark) → AreBehind at ms → begins at ms ≡ false
    not_begun at [] b = refl
    not_begun at (m ∷ ms) b = ne_eqb m.start at (λ e. omega (arith, e, b.0))

    not_before : (to : ℕ) (ms : List Mark) → is_before (to + 1) ms ≡ false → IsNextBehind to ms
    not_before to [] e = tt
    not_before to (m ∷ ms) e = omega (arith, ltb-false m.start (to + 1) e)

    -- a raw value without a mark
    of_raw : (at tag : ℕ) (bytes : List ℕ) (ms : List Mark) → AreBehind at ms → SplicedIn at (leaf tag bytes) ms ms
    of_raw at tag bytes ms b =
        let off = not_begun at ms b in
        let absent = none_put ms at (leaf tag bytes) b in
        record { made = rw (off, absent) refl; rests = rw off refl; size = rw off refl }

    -- a value inside which the next mark stands
    of_open : (at tag : ℕ) (is : Items) (ms rest : List Mark) → begins at ms ≡ false
        → is_before (at + length (framed (items_bytes is))) ms ≡ true
        → put_at put ms at (node tag is) ≡ None → Spliced (at + 4) is ms rest → SplicedIn at (node tag is) ms rest
    of_open at tag is ms rest off on absent s =
        record {
          made = rw (off, on, absent) (ap (node tag) s.made);
          rests = rw (off, on) s.rests;
          size = rw (off, on) (omega (
            arith,
            s.size,
            framed_size (items_bytes is),
            framed_size (items_bytes (spliced put (at + 4) ms is)),
          ));
        }

    -- a value behind which the next mark stands
    of_shut : (at tag : ℕ) (is : Items) (ms rest : List Mark) → begins at ms ≡ false
        → is_before (at + length (framed (items_bytes is))) ms ≡ false
        → ms ≡ rest → AreBehind (at + 4 + length (items_bytes is)) ms → SplicedIn at (node tag is) ms rest
    of_shut at tag is ms rest off shut e b =
        let absent = none_put ms at (node tag is) (earlier at (at + 4 + length (items_bytes is)) ms (omega arith) b) in
        let kept : fill_items (put_at put ms) (at + 4) is ≡ is =
        same (put_at put ms) (at + 4 + length (items_bytes is))
        (λ q u h. none_put ms q u (earlier q (at + 4 + length (items_bytes is)) ms h b)) (at + 4) is
        (omega arith) in
        record {
          made = rw (off, shut, absent) (ap (node tag) (sym kept));
          rests = rw (off, shut) e;
          size = rw (off, shut) (ap (λ (ns : List Mark). length (framed (items_bytes is)) + added more ns) (sym e));
        }

    of_node : (at tag : ℕ) (is : Items) (ms rest : List Mark) (b : Bool)
        → is_before (at + length (framed (items_bytes is))) ms ≡ b
        → Takes (at + 4) is ms rest → AreBehind (at + length (framed (items_bytes is))) rest → AreBehind at ms
        → Spliced (at + 4) is ms rest → SplicedIn at (node tag is) ms rest
    of_node at tag is ms rest true e d b c s =
        of_open at tag is ms rest (not_begun at ms c) e (none_put ms at (node tag is) c) s
    of_node at tag is ms rest false e d b c s =
        let end : at + length (framed (items_bytes is)) ≡ at + 4 + length (items_bytes is) + 1 =
        omega (arith, framed_size (items_bytes is)) in
        let first = not_before (at + 4 + length (items_bytes is)) ms
        (subst (λ (n : ℕ). is_before n ms ≡ false) end e) in
        let all : ms ≡ rest = untouched d first in
        of_shut at tag is ms rest (not_begun at ms c) e all
        (earlier (at + 4 + length (items_bytes is)) (at + length (framed (items_bytes is))) ms (omega (arith, end))
        (subst (AreBehind (at + length (framed (items_bytes is)))) (sym all) b))

    of_next : (at : ℕ) (name : List ℕ) (t : Tree) (is : Items) (ms mid rest : List Mark)
        → TakesIn (at + (2 + length name)) t ms mid
        → SplicedIn (at + (2 + length name)) t ms mid
        → Spliced (at + (2 + length name) + length (value_bytes t)) is mid rest
        → Spliced at (item name t is) ms rest
    of_next at name t is ms mid rest d first others =
        let p = at + (2 + length name) in
        let q = p + length (value_bytes t) in
        let u = spliced_in put p ms t in
        let on : spliced put q (left_in p ms t) is ≡ spliced put q mid is =
        ap (λ (ns : List Mark). spliced put q ns is) first.rests in
        let behind : spliced put q mid is ≡ fill_items (put_at put ms) q is =
        others.made ∙ sym (alike (put_at put ms) (put_at put mid) q (λ k v h. passed_in d k v h) q is (omega arith)) in
        let size : length (items_bytes (spliced put q (left_in p ms t) is))
        ≡ length (items_bytes (spliced put q mid is)) = ap (λ (js : Items). length (items_bytes js)) on in
        let a = first.made in
        record {
          made = ap (λ (v : Tree). item name v (spliced put q (left_in p ms t) is)) a
              ∙ ap (item name (fill_tree (put_at put ms) p t)) (on ∙ behind);
          rests = ap (λ (ns : List Mark). left q ns is) first.rests ∙ others.rests;
          size = omega (
            arith,
            first.size,
            others.size,
            size,
            items_length name t is,
            items_length name u (spliced put q (left_in p ms t) is),
          );
        }

    mutual
      spliced_value : {at : ℕ} {t : Tree} {ms rest : List Mark} → TakesIn at t ms rest
          → AreBehind (at + length (value_bytes t)) rest → SplicedIn at t ms rest
      spliced_value (own at t m ms s e) b = of_own at t m ms s
      spliced_value (raw at tag bytes ms) b = of_raw at tag bytes ms (earlier at (at + length bytes) ms (omega arith) b)
      spliced_value (inside at tag is ms rest d) b =
          let low : AreBehind (at + 4 + length (items_bytes is)) rest =
          earlier (at + 4 + length (items_bytes is)) (at + length (framed (items_bytes is))) rest
          (omega (arith, framed_size (items_bytes is))) b in
          of_node at tag is ms rest (is_before (at + length (framed (items_bytes is))) ms) refl d b
          (earlier at (at + 4) ms (omega arith) (behind d low))
          (spliced_items d low)

      -- what marks at values of these elements put in
      pub spliced_items : {at : ℕ} {is : Items} {ms rest : List Mark} → Takes at is ms rest
          → AreBehind (at + length (items_bytes is)) rest → Spliced at is ms rest
      spliced_items (done at ms) b = record { made = refl; rests = refl; size = refl }
      spliced_items (next at name t is ms mid rest d ds) b =
          let low : AreBehind (at + (2 + length name) + length (value_bytes t) + length (items_bytes is)) rest =
          earlier (at + (2 + length name) + length (value_bytes t) + length (items_bytes is))
          (at + length (items_bytes (item name t is))) rest (omega (arith, items_length name t is)) b in
          of_next at name t is ms mid rest d (spliced_value d (behind ds low)) (spliced_items ds low)
