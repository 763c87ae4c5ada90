-- Elements cut before the first that an offset meets: what the bytes before it and from there on spell.
use Rattle.std.proofs.Common.{◌≡◌, ◌∙◌, ℕ, ◌+◌, ◌<◌, ◌≤◌, Bool, true, false, cond, ◌&&◌, nat_lt, List, ◌∷◌, ◌++◌}
use Rattle.std.proofs.Common.{length, take, drop, Option, Some, None, refl, sym, ap, subst, append_assoc, arith}
use Rattle.std.proofs.lemmas.Bool.{ne_eqb, le-ltb}
use Rattle.std.proofs.lemmas.List.{take_at, drop_at, length-append, append-nil}
use Rattle.std.specs.Prelude.{◌==◌}
use Rattle.bson_tree.specs.Tree.{Tree, Items, leaf, node, no_items, item, items_size, tag_of}
use Rattle.bson_tree.specs.Spelling.{value_bytes, items_bytes}
use Rattle.bson_tree.proofs.Sizes.{element_size}
use Rattle.bson_codec.specs.Layout.{IsItems, level_limit}
use Rattle.bson_codec.specs.Borrowed.{At, doc_of, elements_of, has_inside, is_inner, value_tree, SpellsElements}
use Rattle.bson_codec.specs.Cuts.{meets, before_meeting, from_meeting, items_before, items_from}
use Rattle.bson_codec.proofs.Fronts.{elements_of_spelling}

inside_by : (b : Bool) (tag : ℕ) (bs : List ℕ) → has_inside (cond b (node tag (doc_of bs)) (leaf tag bs)) ≡ b
inside_by true tag bs = refl
inside_by false tag bs = refl

-- whether there is a document in a value is known by its type
pub inside_is : (tag : ℕ) (bs : List ℕ) → has_inside (value_tree tag bs) ≡ is_inner tag
inside_is tag bs = inside_by (is_inner tag) tag bs

no_and : (b : Bool) → (b && false) ≡ false
no_and true = refl
no_and false = refl

-- one element, the elements behind it, and bytes
pub behind_one : (name : List ℕ) (t : Tree) (front : Items) (rest : List ℕ) → items_bytes (item name t front) ++ rest
    ≡ tag_of t ∷ (name ++ (0 ∷ (value_bytes t ++ (items_bytes front ++ rest))))
behind_one name t front rest = simp append_assoc

-- ---- trees

module _ (at : ℕ) where
  -- an offset behind a value doesn't meet it
  passed : (start : ℕ) (t : Tree) → start + length (value_bytes t) < at → meets at start t ≡ false
  passed start t h =
      let off : (at == start) ≡ false = ne_eqb at start (λ e. omega (arith, e, h)) in
      let shut : nat_lt at (start + length (value_bytes t)) ≡ false = le-ltb at (start + length (value_bytes t))
      (omega (arith, h)) in
      rw (off, shut) (no_and (has_inside t))

  -- an offset behind all elements meets none
  pub all_passed : (start : ℕ) (is : Items) → start + length (items_bytes is) < at → before_meeting at start is ≡ is
  all_passed start no_items h = refl
  all_passed start (item name t is) h =
      let off = passed (start + (2 + length name)) t (omega (arith, h, element_size name t is)) in
      let others = all_passed (start + (2 + length name) + length (value_bytes t)) is
      (omega (arith, h, element_size name t is)) in
      rw off (ap (item name t) others)

  pub none_met : (start : ℕ) (is : Items) → start + length (items_bytes is) < at
      → (from_meeting at start is).tree ≡ no_items
  none_met start no_items h = refl
  none_met start (item name t is) h =
      let off = passed (start + (2 + length name)) t (omega (arith, h, element_size name t is)) in
      let others = none_met (start + (2 + length name) + length (value_bytes t)) is
      (omega (arith, h, element_size name t is)) in
      rw off others

  -- the elements before and those from there on are all
  record IsCut (start : ℕ) (is : Items) : Type 0 where
    bytes : items_bytes is ≡ items_bytes (before_meeting at start is) ++ items_bytes (from_meeting at start is).tree
    offset : (from_meeting at start is).start ≡ start + length (items_bytes (before_meeting at start is))
    laid : IsItems level_limit is → IsItems level_limit (from_meeting at start is).tree

  is_cut_by : (start : ℕ) (name : List ℕ) (t : Tree) (is : Items) (b : Bool)
      → meets at (start + (2 + length name)) t ≡ b
      → IsCut (start + (2 + length name) + length (value_bytes t)) is → IsCut start (item name t is)
  is_cut_by start name t is true e c = record {
    bytes = rw e refl;
    offset = rw e (omega arith);
    laid = rw e (λ l. l);
  }
  is_cut_by start name t is false e c =
      let next = start + (2 + length name) + length (value_bytes t) in
      let front = before_meeting at next is in
      let rest = from_meeting at next is in
      let bytes : items_bytes (item name t is) ≡ items_bytes (item name t front) ++ items_bytes rest.tree =
      ap (λ (x : List ℕ). tag_of t ∷ (name ++ (0 ∷ (value_bytes t ++ x)))) c.bytes
      ∙ sym (behind_one name t front (items_bytes rest.tree)) in
      let offset : rest.start ≡ start + length (items_bytes (item name t front)) =
      omega (arith, c.offset, element_size name t front) in
      record {
        bytes = rw e bytes;
        offset = rw e offset;
        laid = rw e (λ l. c.laid l.2);
      }

  is_cut : (start : ℕ) (is : Items) → IsCut start is
  is_cut start no_items = record { bytes = refl; offset = omega arith; laid = λ l. l }
  is_cut start (item name t is) =
      is_cut_by start name t is (meets at (start + (2 + length name)) t) refl
      (is_cut (start + (2 + length name) + length (value_bytes t)) is)

  fewer_by : (start : ℕ) (name : List ℕ) (t : Tree) (is : Items) (b : Bool)
      → meets at (start + (2 + length name)) t ≡ b
      → items_size (from_meeting at (start + (2 + length name) + length (value_bytes t)) is).tree ≤ items_size is
      → items_size (from_meeting at start (item name t is)).tree ≤ items_size (item name t is)
  fewer_by start name t is true e h = rw e (omega arith)
  fewer_by start name t is false e h = rw e (omega (arith, h))

  fewer_meeting : (start : ℕ) (is : Items) → items_size (from_meeting at start is).tree ≤ items_size is
  fewer_meeting start no_items = omega arith
  fewer_meeting start (item name t is) =
      fewer_by start name t is (meets at (start + (2 + length name)) t) refl
      (fewer_meeting (start + (2 + length name) + length (value_bytes t)) is)

some_size : (is : Items) → 1 ≤ items_size is
some_size no_items = omega arith
some_size (item name t is) = omega arith

-- no more elements are left
pub fewer : (next : Option ℕ) (s : At) → items_size (items_from next s).tree ≤ items_size s.tree
fewer None s = some_size s.tree
fewer (Some at) s = fewer_meeting at s.start s.tree

-- ---- bytes

-- n bytes at the front spell the elements before, and those behind them the elements from there on
pub record CutAt (next : Option ℕ) (start : ℕ) (bs : List ℕ) (is : Items) (n : ℕ) : Type 0 where
  pub front : take n bs ≡ items_bytes (items_before next (record { tree = is; start = start }))
  pub left : record { tree = elements_of (drop n bs); start = start + n }
      ≡ items_from next (record { tree = is; start = start })
  pub spelled : SpellsElements (drop n bs)
  pub size : length (drop n bs) + n ≡ length bs

cut_by : (next : Option ℕ) (start : ℕ) (bs : List ℕ) (is : Items) (n : ℕ) (front rest : Items)
    → bs ≡ items_bytes front ++ items_bytes rest → length (items_bytes front) ≡ n → IsItems level_limit rest
    → items_before next (record { tree = is; start = start }) ≡ front
    → items_from next (record { tree = is; start = start }) ≡ record { tree = rest; start = start + n }
    → CutAt next start bs is n
cut_by next start bs is n front rest whole size laid before from =
    let behind : drop n bs ≡ items_bytes rest =
    ap (drop n) whole ∙ drop_at (items_bytes front) (items_bytes rest) n size in
    let here : Items → At = λ js. record { tree = js; start = start + n } in
    record {
      front = ap (take n) whole ∙ take_at (items_bytes front) (items_bytes rest) n size ∙ ap items_bytes (sym before);
      left = ap here (elements_of_spelling (drop n bs) rest laid behind) ∙ sym from;
      spelled = record { tree = rest; laid = laid; parts = behind };
      size = omega (
        arith,
        ap length behind,
        ap length whole,
        length-append (items_bytes front) (items_bytes rest),
        size,
      );
    }

cut_of : (next : Option ℕ) (start : ℕ) (bs : List ℕ) (is : Items) (n : ℕ) → IsItems level_limit is
    → bs ≡ items_bytes is → n ≡ length (items_bytes (items_before next (record { tree = is; start = start })))
    → CutAt next start bs is n
cut_of None start bs is n laid e size =
    cut_by None start bs is n is no_items (e ∙ sym (append-nil (items_bytes is))) (sym size) tt refl
    (ap (λ (k : ℕ). record { tree = no_items; start = start + k }) (sym size))
cut_of (Some at) start bs is n laid e size =
    let c = is_cut at start is in
    let rest = from_meeting at start is in
    let offset : rest.start ≡ start + n = c.offset ∙ ap (λ (k : ℕ). start + k) (sym size) in
    cut_by (Some at) start bs is n (before_meeting at start is) rest.tree (e ∙ c.bytes) (sym size) (c.laid laid) refl
    (ap (λ (k : ℕ). record { tree = rest.tree; start = k }) offset)

-- bytes that spell elements, cut
pub cut : (next : Option ℕ) (start : ℕ) (bs : List ℕ) (n : ℕ) → SpellsElements bs
    → n ≡ length (items_bytes (items_before next (record { tree = elements_of bs; start = start })))
    → CutAt next start bs (elements_of bs) n
cut next start bs n s size =
    let same : s.tree ≡ elements_of bs = sym (elements_of_spelling bs s.tree s.laid s.parts) in
    subst (λ (is : Items). CutAt next start bs is n) same (cut_of next start bs s.tree n s.laid s.parts
    (size ∙ ap (λ (is : Items). length (items_bytes (items_before next (record { tree = is; start = start }))))
    (sym same)))

-- all of them
pub whole_width : (bs : List ℕ) → SpellsElements bs → length bs ≡ length (items_bytes (elements_of bs))
whole_width bs s = ap length s.parts
    ∙ ap (λ (is : Items). length (items_bytes is)) (sym (elements_of_spelling bs s.tree s.laid s.parts))

-- all of them, where the offset is behind them
pub all_before : (at start : ℕ) (bs : List ℕ) → SpellsElements bs → start + length bs < at
    → length bs ≡ length (items_bytes (before_meeting at start (elements_of bs)))
all_before at start bs s h =
    let all = all_passed at start (elements_of bs) (omega (arith, h, whole_width bs s)) in
    whole_width bs s ∙ ap (λ (is : Items). length (items_bytes is)) (sym all)

pub none_behind : (at start : ℕ) (bs : List ℕ) → SpellsElements bs → start + length bs < at
    → (from_meeting at start (elements_of bs)).tree ≡ no_items
none_behind at start bs s h = none_met at start (elements_of bs) (omega (arith, h, whole_width bs s))
