-- The payloads of a document, element by element.
use Rattle.std.proofs.Common.{◌≡◌, ◌∙◌, ℕ, ◌+◌, true, false, Option, Some, None, List, [], ◌∷◌, ◌++◌, length}
use Rattle.std.proofs.Common.{refl, sym, ap}
use Rattle.bson_tree.specs.Tree.{Tree, leaf}
use Rattle.bson_tree.specs.Spelling.{value_bytes}
use Rattle.bson_codec.specs.Borrowed.{At, Elem}
use Rattle.bson_codec.specs.Elements.{TakesElement}
use Rattle.encrypt_schema.specs.Commands.Visits.{Refusal, or_else, refused_at}
use Rattle.encrypt_schema.specs.declared.command.reason.Reason.{Reason}
use Rattle.doc_rewrite.specs.Founds.{Place, founds, founds_in, is_sealed, opens_here, place_of}
use Rattle.doc_rewrite.specs.Opened.{first_wrong}

-- ---- refusals

or_assoc : (a b c : Option Refusal) → or_else (or_else a b) c ≡ or_else a (or_else b c)
or_assoc None b c = refl
or_assoc (Some x) b c = refl

pub first_append : (judge : Place → Option Reason) (ps qs : List Place)
    → first_wrong judge (ps ++ qs) ≡ or_else (first_wrong judge ps) (first_wrong judge qs)
first_append judge [] qs = refl
first_append judge (p ∷ ps) qs =
    ap (or_else (refused_at p.start (judge p))) (first_append judge ps qs)
    ∙ sym (or_assoc (refused_at p.start (judge p)) (first_wrong judge ps) (first_wrong judge qs))

none_of_both : (a b : Option Refusal) → or_else a b ≡ None → (a ≡ None) × (b ≡ None)
none_of_both None b e = (refl, e)
none_of_both (Some x) b e = absurd cc

-- nothing is wrong with the one or the other
pub neither_wrong : (judge : Place → Option Reason) (ps qs : List Place) → first_wrong judge (ps ++ qs) ≡ None
    → (first_wrong judge ps ≡ None) × (first_wrong judge qs ≡ None)
neither_wrong judge ps qs e = none_of_both (first_wrong judge ps) (first_wrong judge qs)
    (sym (first_append judge ps qs) ∙ e)

pub behind_right : (judge : Place → Option Reason) (ps qs : List Place) → first_wrong judge ps ≡ None
    → first_wrong judge (ps ++ qs) ≡ first_wrong judge qs
behind_right judge ps qs e = first_append judge ps qs ∙ ap (λ (r : Option Refusal). or_else r (first_wrong judge qs)) e

pub before_wrong : (judge : Place → Option Reason) (ps qs : List Place) (r : Refusal) → first_wrong judge ps ≡ Some r
    → first_wrong judge (ps ++ qs) ≡ Some r
before_wrong judge ps qs r e = first_append judge ps qs
    ∙ ap (λ (x : Option Refusal). or_else x (first_wrong judge qs)) e

-- ---- one value

pub one_found : (levels at : ℕ) (t : Tree) (tag : ℕ) (bytes : List ℕ) → t ≡ leaf tag bytes → opens_here t ≡ true
    → founds_in levels at t ≡ place_of levels at t ∷ []
one_found levels at t tag bytes is on =
    let on' : is_sealed tag bytes ≡ true = sym (ap opens_here is) ∙ on in
    ap (founds_in levels at) is ∙ rw on' refl ∙ ap (λ (x : Tree). place_of levels at x ∷ []) (sym is)

pub none_found : (levels at : ℕ) (t : Tree) (tag : ℕ) (bytes : List ℕ) → t ≡ leaf tag bytes → opens_here t ≡ false
    → founds_in levels at t ≡ []
none_found levels at t tag bytes is off =
    let off' : is_sealed tag bytes ≡ false = sym (ap opens_here is) ∙ off in
    ap (founds_in levels at) is ∙ rw off' refl

-- ---- elements

-- those of what is left are those of the next element and of the others
pub founds_parts : (levels : ℕ) (here rest : At) (e : Elem) → TakesElement here (Some e) rest
    → founds levels here.start here.tree ≡ founds_in levels e.start e.tree ++ founds levels rest.start rest.tree
founds_parts levels here rest e taken =
    let p : here.start + (2 + length e.name) ≡ e.start = sym taken.1 in
    let q : e.start + length (value_bytes e.tree) ≡ rest.start = sym taken.2 in
    ap (founds levels here.start) taken.0
    ∙ ap (λ (n : ℕ). founds_in levels n e.tree ++ founds levels (n + length (value_bytes e.tree)) rest.tree) p
    ∙ ap (λ (n : ℕ). founds_in levels e.start e.tree ++ founds levels n rest.tree) q
