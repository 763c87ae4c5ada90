-- One piece after another, and the first bad place.
use Rattle.std.proofs.Common.{◌≡◌, ℕ, zero, suc, ◌+◌, ◌-◌, Bool, true, Option, Some, None, Ok, Err, List, ◌++◌, length}
use Rattle.std.proofs.Common.{refl, sym, ap, ◌∙◌, arith}
use Rattle.std.specs.Str.{is_utf8}
use Rattle.bson_codec.specs.Borrowed.{Elem}
use Rattle.bson_tree.specs.Spelling.{value_bytes}
use Rattle.bson_tree.specs.Tree.{Tree, Items, item, no_items}
use Rattle.fle_outside.specs.Seen.{SinkSeen}
use Rattle.fle_outside.specs.Writing.{WritesWhole}
use Rattle.ext_json.specs.BadText.{inside_bad, elements_bad, element_bad, value_bad}
use Rattle.ext_json.specs.Showing.{Shows}
use Rattle.ext_json.specs.Text.{inside_text}
use Rattle.ext_json.specs.declared.showing.Shown.{Shown}
use Rattle.ext_json.specs.declared.showing.Shown.TheVariants as ends
use Rattle.ext_json.proofs.Writing.{put_nothing, put_then}

-- a piece that is written, and what follows it
pub shows_then : {before now : SinkSeen} {first : List ℕ} {u : Unit {0}} (new : SinkSeen) (result : Shown)
    (bad : Option ℕ) (second : List ℕ) → WritesWhole before now (Ok u) first → Shows now new result bad second
    → Shows before new result bad (first ++ second)
shows_then new ends.Written bad second a h = (h.0, put_then (Ok tt) a h.1)
shows_then new (ends.Bad at) bad second a h = h
shows_then new ends.Failed bad second a h = (h.0, put_then (Err h.0) a h.1)

pub bad_more : (levels at : ℕ) (is : Items) → (levels ≡ 0 → ⊥)
    → inside_bad levels at is ≡ elements_bad (inside_bad (levels - 1)) (at + 4) is
unfolding inside_bad
bad_more zero at is some = absurd (some refl)
bad_more (suc n) at is some =
    let back : suc n - 1 ≡ n = omega arith in
    rw back refl

-- what is behind a name that is UTF-8 is what is in its value
pub behind_name : (F : ℕ → Items → Option ℕ) (at : ℕ) (name : List ℕ) (t : Tree) → is_utf8 name ≡ true
    → element_bad F at name t ≡ value_bad F at t
behind_name F at name t fine = rw fine refl

-- elements of which the first one has no bad place
pub elements_fine : (F : ℕ → Items → Option ℕ) (at : ℕ) (all rest : Items) (e : Elem) (next : ℕ)
    → all ≡ item e.name e.tree rest
    → e.start ≡ at + (2 + length e.name)
    → next ≡ e.start + length (value_bytes e.tree)
    → element_bad F e.start e.name e.tree ≡ None
    → elements_bad F next rest ≡ elements_bad F at all
unfolding elements_bad
elements_fine F at all rest e next is start behind fine =
    let here : element_bad F (at + (2 + length e.name)) e.name e.tree ≡ None =
    ap (λ (n : ℕ). element_bad F n e.name e.tree) (sym start) ∙ fine in
    rw (is, behind, start, here) refl

-- elements of which the first one has a bad place
pub elements_found : (F : ℕ → Items → Option ℕ) (at : ℕ) (all rest : Items) (e : Elem) (place : ℕ)
    → all ≡ item e.name e.tree rest
    → e.start ≡ at + (2 + length e.name)
    → element_bad F e.start e.name e.tree ≡ Some place
    → elements_bad F at all ≡ Some place
unfolding elements_bad
elements_found F at all rest e place is start found =
    let here : element_bad F (at + (2 + length e.name)) e.name e.tree ≡ Some place =
    ap (λ (n : ℕ). element_bad F n e.name e.tree) (sym start) ∙ found in
    rw (is, here) refl

-- no elements
pub elements_none : (F : ℕ → Items → Option ℕ) (at : ℕ) (all : Items) → all ≡ no_items → elements_bad F at all ≡ None
unfolding elements_bad
elements_none F at all is = rw is refl

-- no level
pub no_level : (levels at : ℕ) (named : Bool) (is : Items) (before : SinkSeen) → levels ≡ 0
    → Shows before before ends.Written (inside_bad levels at is) (inside_text levels named is)
unfolding inside_bad inside_text
no_level levels at named is before none = rw none (refl, put_nothing before)
