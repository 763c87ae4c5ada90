-- Sites that stand at values of a document, found element by element.
use Rattle.std.proofs.Common.{◌≡◌, ◌∙◌, ℕ, zero, suc, ◌+◌, ◌≤◌, Option, Some, None, List, [], ◌∷◌, length, drop}
use Rattle.std.proofs.Common.{refl, sym, ap, subst, arith}
use Rattle.std.specs.Prelude.{IfSome, nat_eq, true}
use Rattle.std.proofs.lemmas.Bool.{eqb-true}
use Rattle.encrypt_schema.specs.declared.command.marks.Mark.{Mark}
use Rattle.encrypt_schema.specs.Language.Row.{Row}
use Rattle.doc_rewrite.specs.Plans.{AreNamed, AreRuled, AreMarksOf}
use Rattle.bson_tree.specs.Tree.{Tree, leaf, node, Items, no_items, item, tag_of}
use Rattle.bson_tree.specs.Spelling.{value_bytes}
use Rattle.bson_codec.specs.Borrowed.{At, Elem}
use Rattle.bson_codec.specs.Elements.{TakesElement}
use Rattle.bson_splice.specs.Spans.{AreFits}
use Rattle.bson_splice.specs.Splices.{Put}
use Rattle.bson_splice.specs.Takes.{TakesIn, own, raw, inside, Takes, done, next}
use Rattle.bson_splice.specs.Whole.{StandsAt}
use Rattle.bson_splice.proofs.Refits.{refit}
use Rattle.doc_rewrite.specs.Sites.{Site, sites_of, spans_of}
use Rattle.doc_rewrite.specs.Standing.{empty_of, empties, ElementTakes, DocumentTakes}

-- none is taken
mutual
  pub none_in : (at : ℕ) (t : Tree) (ps : List Put) → TakesIn at t ps ps
  none_in at (leaf tag bytes) ps = raw at tag bytes ps
  none_in at (node tag is) ps = inside at tag is ps ps (none_among (at + 4) is ps)

  pub none_among : (at : ℕ) (is : Items) (ps : List Put) → Takes at is ps ps
  none_among at no_items ps = done at ps
  none_among at (item name t is) ps =
      next at name t is ps ps ps (none_in (at + (2 + length name)) t ps)
      (none_among (at + (2 + length name) + length (value_bytes t)) is ps)

-- the next one is the element's own
pub own_site : (e : Elem) (ss others : List Site) (s : Site) → ss ≡ s ∷ others → s.start ≡ e.start
    → s.end ≡ e.start + length (value_bytes e.tree)
    → ElementTakes e ss others
own_site e ss others s first from to =
    subst (λ (rs : List Site). ElementTakes e rs others) (sym first)
    (own e.start e.tree (empty_of s) (empties others) from to)

-- those inside the element's document
pub inside_sites : (e : Elem) (d : At) (ss left : List Site) → e.tree ≡ node (tag_of e.tree) d.tree → e.start ≡ d.start
    → DocumentTakes d ss left
    → ElementTakes e ss left
inside_sites e d ss left is at taken =
    subst (λ (t : Tree). TakesIn e.start t (empties ss) (empties left)) (sym is)
    (inside e.start (tag_of e.tree) d.tree (empties ss) (empties left)
    (subst (λ (n : ℕ). Takes (n + 4) d.tree (empties ss) (empties left)) (sym at) taken))

-- what is left takes, all take
pub record Left (all here : At) (ss now : List Site) : Type 0 where
  pub taken : (left : List Put) → Takes here.start here.tree (empties now) left
      → Takes (all.start + 4) all.tree (empties ss) left

pub goes_on : (all here rest : At) (e : Elem) (ss now later : List Site) → TakesElement here (Some e) rest
    → Left all here ss now
    → ElementTakes e now later → Left all rest ss later
goes_on all here rest e ss now later taken before one = record {
  taken = λ left t.
      let p : e.start ≡ here.start + (2 + length e.name) = taken.1 in
      let q : rest.start ≡ here.start + (2 + length e.name) + length (value_bytes e.tree) =
      taken.2 ∙ ap (λ (n : ℕ). n + length (value_bytes e.tree)) p in
      before.taken left
      (subst (λ (is : Items). Takes here.start is (empties now) left) (sym taken.0)
      (next here.start e.name e.tree rest.tree (empties now) (empties later) left
      (subst (λ (n : ℕ). TakesIn n e.tree (empties now) (empties later)) p one)
      (subst (λ (n : ℕ). Takes n rest.tree (empties later) left) q t)));
}

pub ended : (all here : At) (ss now : List Site) → here.tree ≡ no_items → Left all here ss now
    → DocumentTakes all ss now
ended all here ss now none before =
    before.taken (empties now) (subst (λ (is : Items). Takes here.start is (empties now) (empties now)) (sym none)
    (done here.start (empties now)))

none_behind : {A : Type 0} (i : ℕ) (ms : List A) → length ms ≤ i → drop i ms ≡ []
none_behind zero [] h = refl
none_behind (suc i) [] h = refl
none_behind zero (m ∷ ms) h = absurd (omega (arith, h))
none_behind (suc i) (m ∷ ms) h = none_behind i ms (omega (arith, h))

fit : (ss : List Site) → AreFits (spans_of ss) (empties ss)
fit [] = tt
fit (s ∷ ss) = (record { start = refl; end = refl; size = λ t. omega arith }, fit ss)

-- whatever takes the places of sites that are all taken
pub all_stand : (d : At) (ss : List Site) → DocumentTakes d ss [] → StandsAt (spans_of ss) d
all_stand d ss taken ps f = refit (d.start + 4) d.tree (spans_of ss) (empties ss) ps taken (fit ss) f

-- of what was found inside
pub inside_told : (e : Elem) (d : At) (ss all : List Site) (found : Option ℕ) → e.tree ≡ node (tag_of e.tree) d.tree
    → e.start ≡ d.start
    → IfSome found (λ n. DocumentTakes d ss (drop n all)) → IfSome found (λ n. ElementTakes e ss (drop n all))
inside_told e d ss all None is at taken = taken
inside_told e d ss all (Some n) is at taken = inside_sites e d ss (drop n all) is at taken

-- as many sites stand as there are
pub all_told : (rows : List Row) (ms : List Mark) (d : At) (ss xs : List Site) (n m : ℕ) → xs ≡ ss
    → ss ≡ sites_of rows d ms → AreRuled (length rows) ms → AreNamed rows d ms
    → DocumentTakes d xs (drop n xs) → m ≡ length xs → nat_eq n m ≡ true → AreMarksOf rows ms d
all_told rows ms d ss xs n m same is ruled named taken long all =
    let here : n ≡ m = eqb-true n m all in
    let none : drop n xs ≡ [] = none_behind n xs (omega (arith, here, long)) in
    let whole : DocumentTakes d xs [] = subst (λ (left : List Site). DocumentTakes d xs left) none taken in
    record {
      places = subst (λ (rs : List Site). StandsAt (spans_of rs) d) (same ∙ is) (all_stand d xs whole);
      ruled = ruled;
      named = named;
    }
