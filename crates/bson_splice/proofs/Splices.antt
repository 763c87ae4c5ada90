-- What is put into a document in reading order is what is put in by the offsets of values.
use Rattle.std.proofs.Common.{◌≡◌, ℕ, ◌+◌, ◌<◌, ◌≤◌, Bool, true, false, List, [], ◌∷◌, length, Option, None, unwrap_or}
use Rattle.std.proofs.Common.{refl, sym, ap, ◌∙◌, subst, arith}
use Rattle.std.proofs.lemmas.Bool.{eq-eqb, ne_eqb, ltb-false}
use Rattle.std.specs.Prelude.{◌==◌}
use Rattle.bson_tree.specs.Tree.{Tree, leaf, node, Items, no_items, item}
use Rattle.bson_tree.specs.Spelling.{framed, value_bytes, items_bytes}
use Rattle.bson_tree.specs.Filled.{fill_tree, fill_items}
use Rattle.bson_splice.specs.Splices.{Put, begins, is_before, left_in, left, spliced_in, spliced, put_at}
use Rattle.bson_splice.specs.Takes.{TakesIn, own, raw, inside, Takes, done, next, Trades, Caps}
use Rattle.bson_splice.proofs.Behind.{AreBehind, IsNextBehind, earlier, behind, untouched}
use Rattle.bson_tree.proofs.Sizes.{framed_size, element_size}

-- ---- maps from offsets that are alike

-- maps that are alike behind an offset fill in the same from there on
module _ (f g : ℕ → Tree → Option Tree) (from : ℕ) (agree : (q : ℕ) (u : Tree) → from < q → f q u ≡ g q u) where
  mutual
    alike_in : (at : ℕ) (t : Tree) → from < at → fill_tree f at t ≡ fill_tree g at t
    alike_in at (leaf tag bytes) h = ap (λ (o : Option Tree). unwrap_or o (leaf tag bytes))
        (agree at (leaf tag bytes) h)
    alike_in at (node tag is) h =
        ap (λ (o : Option Tree). unwrap_or o (node tag (fill_items f (at + 4) is))) (agree at (node tag is) h)
        ∙ ap (λ (js : Items). unwrap_or (g at (node tag is)) (node tag js)) (alike (at + 4) is (omega (arith, h)))

    pub alike : (at : ℕ) (is : Items) → from ≤ at → fill_items f at is ≡ fill_items g at is
    alike at no_items h = refl
    alike at (item name t is) h =
        let a = alike_in (at + (2 + length name)) t (omega (arith, h)) in
        let b = alike (at + (2 + length name) + length (value_bytes t)) is (omega (arith, h)) in
        cc

-- a map that has nothing up to an offset changes nothing before it
module _ (f : ℕ → Tree → Option Tree) (to : ℕ) (empty : (q : ℕ) (u : Tree) → q ≤ to → f q u ≡ None) where
  mutual
    same_in : (at : ℕ) (t : Tree) → at + length (value_bytes t) ≤ to → fill_tree f at t ≡ t
    same_in at (leaf tag bytes) h = ap (λ (o : Option Tree). unwrap_or o (leaf tag bytes))
        (empty at (leaf tag bytes) (omega (arith, h)))
    same_in at (node tag is) h =
        ap (λ (o : Option Tree). unwrap_or o (node tag (fill_items f (at + 4) is)))
        (empty at (node tag is) (omega (arith, h)))
        ∙ ap (node tag) (same (at + 4) is (omega (arith, h, framed_size (items_bytes is))))

    pub same : (at : ℕ) (is : Items) → at + length (items_bytes is) ≤ to → fill_items f at is ≡ is
    same at no_items h = refl
    same at (item name t is) h =
        let a = same_in (at + (2 + length name)) t (omega (arith, h, element_size name t is)) in
        let b = same (at + (2 + length name) + length (value_bytes t)) is (omega (arith, h, element_size name t is)) in
        cc

-- ---- what is put in by the offsets where it begins

-- nothing is put in before the first of them
pub none_put : (ps : List Put) (q : ℕ) (u : Tree) → AreBehind q ps → put_at ps q u ≡ None
none_put [] q u b = refl
none_put (p ∷ ps) q u b =
    let off : (p.start == q) ≡ false = ne_eqb p.start q (λ e. omega (arith, e, b.0)) in
    rw off (none_put ps q u b.1)

mutual
  pub passed_in : {at : ℕ} {t : Tree} {ps rest : List Put} → TakesIn at t ps rest → (q : ℕ) (u : Tree)
      → at + length (value_bytes t) < q → put_at ps q u ≡ put_at rest q u
  passed_in (own at t p ps s e) q u h =
      let off : (p.start == q) ≡ false = ne_eqb p.start q (λ same. omega (arith, same, s, h)) in
      rw off refl
  passed_in (raw at tag bytes ps) q u h = refl
  passed_in (inside at tag is ps rest d) q u h = passed d q u (omega (arith, h, framed_size (items_bytes is)))

  -- behind the elements those that they took put in nothing
  passed : {at : ℕ} {is : Items} {ps rest : List Put} → Takes at is ps rest → (q : ℕ) (u : Tree)
      → at + length (items_bytes is) < q → put_at ps q u ≡ put_at rest q u
  passed (done at ps) q u h = refl
  passed (next at name t is ps mid rest d ds) q u h =
      passed_in d q u (omega (arith, h, element_size name t is))
      ∙ passed ds q u (omega (arith, h, element_size name t is))

-- ---- the splice

-- a splice puts in what is put in by offsets, leaves those behind, and is longer by what they add and take off
record SplicedIn (at : ℕ) (t : Tree) (ps rest : List Put) : Type 0 where
  pub made : spliced_in at ps t ≡ fill_tree (put_at ps) at t
  pub rests : left_in at ps t ≡ rest
  pub size : (m n : ℕ) → Trades ps m n → (k l : ℕ) × Trades rest k l
      × (length (value_bytes (spliced_in at ps t)) + m + l ≡ length (value_bytes t) + n + k)
  pub most : (m n : ℕ) → Caps ps m n → (k l : ℕ) × Caps rest k l
      × (length (value_bytes (spliced_in at ps t)) + m + l ≤ length (value_bytes t) + n + k)

pub record Spliced (at : ℕ) (is : Items) (ps rest : List Put) : Type 0 where
  pub made : spliced at ps is ≡ fill_items (put_at ps) at is
  pub rests : left at ps is ≡ rest
  pub size : (m n : ℕ) → Trades ps m n → (k l : ℕ) × Trades rest k l
      × (length (items_bytes (spliced at ps is)) + m + l ≡ length (items_bytes is) + n + k)
  pub most : (m n : ℕ) → Caps ps m n → (k l : ℕ) × Caps rest k l
      × (length (items_bytes (spliced at ps is)) + m + l ≤ length (items_bytes is) + n + k)

-- the value's own place is taken
of_own : (at : ℕ) (t : Tree) (p : Put) (ps : List Put) → p.start ≡ at → p.end ≡ at + length (value_bytes t)
    → SplicedIn at t (p ∷ ps) ps
of_own at (leaf tag bytes) p ps s e =
    let on : (p.start == at) ≡ true = eq-eqb p.start at s in
    let whole : p.end ≡ p.start + length (value_bytes (leaf tag bytes)) = omega (arith, s, e) in
    record {
      made = rw on refl;
      rests = rw on refl;
      size = λ m n a. (a.2, a.3, a.7, rw on (omega (arith, a.4, a.5, a.6 (leaf tag bytes) whole)));
      most = λ m n a. (a.2, a.3, a.7, rw on (omega (arith, a.4, a.5, a.6 (leaf tag bytes) whole)));
    }
of_own at (node tag is) p ps s e =
    let on : (p.start == at) ≡ true = eq-eqb p.start at s in
    let whole : p.end ≡ p.start + length (value_bytes (node tag is)) = omega (arith, s, e) in
    record {
      made = rw on refl;
      rests = rw on refl;
      size = λ m n a. (a.2, a.3, a.7, rw on (omega (arith, a.4, a.5, a.6 (node tag is) whole)));
      most = λ m n a. (a.2, a.3, a.7, rw on (omega (arith, a.4, a.5, a.6 (node tag is) whole)));
    }

not_begun : (at : ℕ) (ps : List Put) → AreBehind at ps → begins at ps ≡ false
not_begun at [] b = refl
not_begun at (p ∷ ps) b = ne_eqb p.start at (λ e. omega (arith, e, b.0))

not_before : (to : ℕ) (ps : List Put) → is_before (to + 1) ps ≡ false → IsNextBehind to ps
not_before to [] e = tt
not_before to (p ∷ ps) e = omega (arith, ltb-false p.start (to + 1) e)

-- a raw value whose place isn't taken
of_raw : (at tag : ℕ) (bytes : List ℕ) (ps : List Put) → AreBehind at ps → SplicedIn at (leaf tag bytes) ps ps
of_raw at tag bytes ps b =
    let off = not_begun at ps b in
    let absent = none_put ps at (leaf tag bytes) b in
    record {
      made = rw (off, absent) refl;
      rests = rw off refl;
      size = λ m n a. (m, n, a, rw off (omega arith));
      most = λ m n a. (m, n, a, rw off (omega arith));
    }

-- a value inside which the next place stands
of_open : (at tag : ℕ) (is : Items) (ps rest : List Put) → begins at ps ≡ false
    → is_before (at + length (framed (items_bytes is))) ps ≡ true
    → put_at ps at (node tag is) ≡ None → Spliced (at + 4) is ps rest → SplicedIn at (node tag is) ps rest
of_open at tag is ps rest off on absent s =
    record {
      made = rw (off, on, absent) (ap (node tag) s.made);
      rests = rw (off, on) s.rests;
      size = λ m n a. let i = s.size m n a in (
        i.0,
        i.1,
        i.2,
        rw (off, on) (omega (
          arith,
          i.3,
          framed_size (items_bytes is),
          framed_size (items_bytes (spliced (at + 4) ps is)),
        )),
      );
      most = λ m n a. let i = s.most m n a in (
        i.0,
        i.1,
        i.2,
        rw (off, on) (omega (
          arith,
          i.3,
          framed_size (items_bytes is),
          framed_size (items_bytes (spliced (at + 4) ps is)),
        )),
      );
    }

-- a value behind which the next place stands
of_shut : (at tag : ℕ) (is : Items) (ps rest : List Put) → begins at ps ≡ false
    → is_before (at + length (framed (items_bytes is))) ps ≡ false
    → ps ≡ rest → AreBehind (at + 4 + length (items_bytes is)) ps → SplicedIn at (node tag is) ps rest
of_shut at tag is ps rest off shut e b =
    let absent = none_put ps at (node tag is) (earlier at (at + 4 + length (items_bytes is)) ps (omega arith) b) in
    let kept : fill_items (put_at ps) (at + 4) is ≡ is =
    same (put_at ps) (at + 4 + length (items_bytes is))
    (λ q u h. none_put ps q u (earlier q (at + 4 + length (items_bytes is)) ps h b)) (at + 4) is (omega arith) in
    record {
      made = rw (off, shut, absent) (ap (node tag) (sym kept));
      rests = rw (off, shut) e;
      size = λ m n a. (m, n, subst (λ (qs : List Put). Trades qs m n) e a, rw (off, shut) (omega arith));
      most = λ m n a. (m, n, subst (λ (qs : List Put). Caps qs m n) e a, rw (off, shut) (omega arith));
    }

of_node : (at tag : ℕ) (is : Items) (ps rest : List Put) (b : Bool)
    → is_before (at + length (framed (items_bytes is))) ps ≡ b
    → Takes (at + 4) is ps rest → AreBehind (at + length (framed (items_bytes is))) rest → AreBehind at ps
    → Spliced (at + 4) is ps rest → SplicedIn at (node tag is) ps rest
of_node at tag is ps rest true e d b c s =
    of_open at tag is ps rest (not_begun at ps c) e (none_put ps at (node tag is) c) s
of_node at tag is ps rest false e d b c s =
    let end : at + length (framed (items_bytes is)) ≡ at + 4 + length (items_bytes is) + 1 =
    omega (arith, framed_size (items_bytes is)) in
    let first = not_before (at + 4 + length (items_bytes is)) ps (subst (λ (n : ℕ). is_before n ps ≡ false) end e) in
    let all : ps ≡ rest = untouched d first in
    of_shut at tag is ps rest (not_begun at ps c) e all
    (earlier (at + 4 + length (items_bytes is)) (at + length (framed (items_bytes is))) ps (omega (arith, end))
    (subst (AreBehind (at + length (framed (items_bytes is)))) (sym all) b))

of_next : (at : ℕ) (name : List ℕ) (t : Tree) (is : Items) (ps mid rest : List Put)
    → TakesIn (at + (2 + length name)) t ps mid
    → SplicedIn (at + (2 + length name)) t ps mid
    → Spliced (at + (2 + length name) + length (value_bytes t)) is mid rest
    → Spliced at (item name t is) ps rest
of_next at name t is ps mid rest d first others =
    let p = at + (2 + length name) in
    let q = p + length (value_bytes t) in
    let u = spliced_in p ps t in
    let on : spliced q (left_in p ps t) is ≡ spliced q mid is = ap (λ (ns : List Put). spliced q ns is) first.rests in
    let behind : spliced q mid is ≡ fill_items (put_at ps) q is =
    others.made ∙ sym (alike (put_at ps) (put_at mid) q (λ k v h. passed_in d k v h) q is (omega arith)) in
    let size : length (items_bytes (spliced q (left_in p ps t) is)) ≡ length (items_bytes (spliced q mid is)) =
    ap (λ (js : Items). length (items_bytes js)) on in
    let a = first.made in
    record {
      made = ap (λ (v : Tree). item name v (spliced q (left_in p ps t) is)) a
          ∙ ap (item name (fill_tree (put_at ps) p t)) (on ∙ behind);
      rests = ap (λ (ns : List Put). left q ns is) first.rests ∙ others.rests;
      size = λ m n b. let i = first.size m n b in let j = others.size i.0 i.1 i.2 in (
        j.0,
        j.1,
        j.2,
        omega (
          arith,
          i.3,
          j.3,
          size,
          element_size name t is,
          element_size name u (spliced q (left_in p ps t) is),
        ),
      );
      most = λ m n b. let i = first.most m n b in let j = others.most i.0 i.1 i.2 in (
        j.0,
        j.1,
        j.2,
        omega (
          arith,
          i.3,
          j.3,
          size,
          element_size name t is,
          element_size name u (spliced q (left_in p ps t) is),
        ),
      );
    }

mutual
  spliced_value : {at : ℕ} {t : Tree} {ps rest : List Put} → TakesIn at t ps rest
      → AreBehind (at + length (value_bytes t)) rest → SplicedIn at t ps rest
  spliced_value (own at t p ps s e) b = of_own at t p ps s e
  spliced_value (raw at tag bytes ps) b = of_raw at tag bytes ps (earlier at (at + length bytes) ps (omega arith) b)
  spliced_value (inside at tag is ps rest d) b =
      let low : AreBehind (at + 4 + length (items_bytes is)) rest =
      earlier (at + 4 + length (items_bytes is)) (at + length (framed (items_bytes is))) rest
      (omega (arith, framed_size (items_bytes is))) b in
      of_node at tag is ps rest (is_before (at + length (framed (items_bytes is))) ps) refl d b
      (earlier at (at + 4) ps (omega arith) (behind d low))
      (spliced_items d low)

  -- what takes values of these elements
  pub spliced_items : {at : ℕ} {is : Items} {ps rest : List Put} → Takes at is ps rest
      → AreBehind (at + length (items_bytes is)) rest → Spliced at is ps rest
  spliced_items (done at ps) b = record {
    made = refl;
    rests = refl;
    size = λ m n a. (m, n, a, omega arith);
    most = λ m n a. (m, n, a, omega arith);
  }
  spliced_items (next at name t is ps mid rest d ds) b =
      let low : AreBehind (at + (2 + length name) + length (value_bytes t) + length (items_bytes is)) rest =
      earlier (at + (2 + length name) + length (value_bytes t) + length (items_bytes is))
      (at + length (items_bytes (item name t is))) rest (omega (arith, element_size name t is)) b in
      of_next at name t is ps mid rest d (spliced_value d (behind ds low)) (spliced_items ds low)
