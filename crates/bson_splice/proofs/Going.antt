-- A document that is spliced element by element.
use Rattle.std.proofs.Common.{◌≡◌, ◌∙◌, ℕ, ◌+◌, ◌≤◌, Option, Some, List, [], ◌++◌, length, take, arith, refl, sym}
use Rattle.std.proofs.Common.{ap, subst, length-append, append_assoc, length-take-le}
use Rattle.std.proofs.lemmas.List.{append-nil}
use Rattle.bson_tree.specs.Tree.{Items, no_items}
use Rattle.bson_tree.specs.Spelling.{items_bytes}
use Rattle.bson_codec.specs.Borrowed.{At, Elem}
use Rattle.bson_codec.specs.Elements.{TakesElement}
use Rattle.bson_splice.specs.Spans.{Span, AreFits, Runs}
use Rattle.bson_splice.specs.Splicing.{HasRoom, PutsBefore, Splices, Stops, element_made, element_left, elements_made}
use Rattle.bson_splice.specs.Splicing.{elements_left}
use Rattle.bson_splice.specs.Splices.{Put, left_in, left, spliced_in, spliced}
use Rattle.bson_splice.proofs.Elements.{left_parts}
use Rattle.bson_splice.proofs.Fitting.{runs_then}
use Rattle.bson_splice.proofs.Frames.{one_item}

-- some elements are spliced, and these are left: what was written and what they become is what all become
pub record Going {S : Type 0} (step : S → S → Put → Type 0) (spans : S → List Span) (all here : At)
    (before after : S) (old new : List ℕ) (at end : ℕ) : Type 0 where
  pub puts : List Put
  pub runs : Runs step before after puts
  pub fits : (rest : List Put) → AreFits (spans after) rest → AreFits (spans before) (puts ++ rest)
  pub written : (rest : List Put) → AreFits (spans after) rest
      → take end new ++ elements_made here.start here.tree rest
      ≡ take at old ++ elements_made (all.start + 4) all.tree (puts ++ rest)
  pub left : (rest : List Put) → AreFits (spans after) rest
      → elements_left here.start here.tree rest
      ≡ elements_left (all.start + 4) all.tree (puts ++ rest)

module _ {S : Type 0} (step : S → S → Put → Type 0) (spans : S
    → List Span) (all : At) (before : S) (old : List ℕ) (at : ℕ) where
  -- before the first element
  pub starts : (here : At) → here ≡ record { tree = all.tree; start = all.start + 4 }
      → Going step spans all here before before old old at at
  starts here e = record {
    puts = [];
    runs = refl;
    fits = λ rest f. f;
    written = λ rest f. ap (λ (h : At). take at old ++ elements_made h.start h.tree rest) e;
    left = λ rest f. ap (λ (h : At). elements_left h.start h.tree rest) e;
  }

  -- behind one more element
  pub goes_on : (here rest : At) (e : Elem) (mid after : S) (now new : List ℕ) (end behind : ℕ)
      → TakesElement here (Some e) rest
      → Going step spans all here before mid old now at end
      → Splices step spans (element_made e) (element_left e) mid after now new end behind
      → Going step spans all rest before after old new at behind
  goes_on here rest e mid after now new end behind taken going s = record {
    puts = going.puts ++ s.puts;
    runs = runs_then step before mid after going.puts s.puts going.runs s.runs;
    fits = λ qs f. subst (AreFits (spans before)) (sym (append_assoc going.puts s.puts qs))
        (going.fits (s.puts ++ qs) (s.fits qs f));
    written = λ qs f.
        let ps = s.puts ++ qs in
        let t = spliced_in e.start ps e.tree in
        let a : elements_made rest.start rest.tree qs
        ≡ items_bytes (spliced rest.start (left_in e.start ps e.tree) rest.tree) =
        ap (λ (rs : List Put). items_bytes (spliced rest.start rs rest.tree)) (sym (s.left qs f)) in
        let b : elements_made here.start here.tree ps
        ≡ element_made e ps ++ items_bytes (spliced rest.start (left_in e.start ps e.tree) rest.tree) =
        ap items_bytes (left_parts here rest e ps taken).0
        ∙ one_item e.name t (spliced rest.start (left_in e.start ps e.tree) rest.tree) in
        let c : take behind new ++ elements_made rest.start rest.tree qs
        ≡ take end now ++ elements_made here.start here.tree ps =
        ap (λ (x : List ℕ). x ++ elements_made rest.start rest.tree qs) (s.written qs f)
        ∙ append_assoc (take end now) (element_made e ps) (elements_made rest.start rest.tree qs)
        ∙ ap (λ (x : List ℕ). take end now ++ x) (ap (λ (x : List ℕ). element_made e ps ++ x) a ∙ sym b) in
        c ∙ going.written ps (s.fits qs f)
        ∙ ap (λ (x : List Put). take at old ++ elements_made (all.start + 4) all.tree x)
        (sym (append_assoc going.puts s.puts qs));
    left = λ qs f.
        let ps = s.puts ++ qs in
        ap (λ (rs : List Put). left rest.start rs rest.tree) (sym (s.left qs f))
        ∙ sym (left_parts here rest e ps taken).1
        ∙ going.left ps (s.fits qs f)
        ∙ ap (λ (x : List Put). elements_left (all.start + 4) all.tree x) (sym (append_assoc going.puts s.puts qs));
  }

  -- behind elements that were put as they stand
  pub passes : (here : At) (met : Option Elem) (rest : At) (mid : S) (now new : List ℕ) (end behind : ℕ)
      → Going step spans all here before mid old now at end
      → (p : PutsBefore (spans mid) here met rest now new end behind)
      → Going step spans all p.mid before mid old new at behind
  passes here met rest mid now new end behind going p = record {
    puts = going.puts;
    runs = going.runs;
    fits = going.fits;
    written = λ qs f. p.made qs f ∙ going.written qs f;
    left = λ qs f. p.left qs f ∙ going.left qs f;
  }

  -- no element is left
  pub ends : (here : At) (after : S) (new : List ℕ) (end : ℕ) → here.tree ≡ no_items
      → Going step spans all here before after old new at end
      → Splices step spans (elements_made (all.start + 4) all.tree)
      (elements_left (all.start + 4) all.tree) before after old new at end
  ends here after new end none going = record {
    puts = going.puts;
    runs = going.runs;
    fits = going.fits;
    written = λ qs f.
        sym (append-nil (take end new))
        ∙ ap (λ (is : Items). take end new ++ elements_made here.start is qs) (sym none)
        ∙ going.written qs f;
    left = λ qs f.
        sym (going.left qs f) ∙ ap (λ (is : Items). elements_left here.start is qs) none;
  }

  -- the next value was refused
  pub halts : (stops : S → S → Type 0) (here : At) (mid after : S) (new : List ℕ) (end : ℕ)
      → Going step spans all here before mid old new at end → Stops step stops mid after → Stops step stops before after
  halts stops here mid after new end going s = record {
    puts = going.puts ++ s.puts;
    mid = s.mid;
    runs = runs_then step before mid s.mid going.puts s.puts going.runs s.runs;
    stop = s.stop;
  }

  -- there is room for the elements that are left
  pub room_left : (here : At) (mid : S) (new : List ℕ) (end size : ℕ) → at ≤ length old → end ≤ length new
      → Going step spans all here before mid old new at end
      → HasRoom (spans before) (elements_made (all.start + 4) all.tree) at size
      → HasRoom (spans mid) (elements_made here.start here.tree) end size
  room_left here mid new end size within inside going room ps f =
      let whole = going.puts ++ ps in
      let long : length (take end new) + length (elements_made here.start here.tree ps)
      ≡ length (take at old) + length (elements_made (all.start + 4) all.tree whole)
      = sym (length-append (take end new) (elements_made here.start here.tree ps)) ∙ ap length (going.written ps f)
      ∙ length-append (take at old) (elements_made (all.start + 4) all.tree whole) in
      omega (arith, long, room whole (going.fits ps f), length-take-le at old within, length-take-le end new inside)

  -- there is room for the next element
  pub room_next : (here rest : At) (e : Elem) (mid : S) (new : List ℕ) (end size : ℕ)
      → at ≤ length old → end ≤ length new
      → TakesElement here (Some e) rest
      → Going step spans all here before mid old new at end
      → HasRoom (spans before) (elements_made (all.start + 4) all.tree) at size
      → HasRoom (spans mid) (element_made e) end size
  room_next here rest e mid new end size within inside taken going room ps f =
      let t = spliced_in e.start ps e.tree in
      let is = spliced rest.start (left_in e.start ps e.tree) rest.tree in
      let parts : elements_made here.start here.tree ps ≡ element_made e ps ++ items_bytes is
      = ap items_bytes (left_parts here rest e ps taken).0 ∙ one_item e.name t is in
      let long : length (elements_made here.start here.tree ps) ≡ length (element_made e ps) + length (items_bytes is)
      = ap length parts ∙ length-append (element_made e ps) (items_bytes is) in
      omega (arith, long, room_left here mid new end size within inside going room ps f)
