-- Whatever takes the same places takes values of the document.
use Rattle.std.proofs.Common.{◌≡◌, ◌∙◌, ℕ, List, [], ◌∷◌, sym, subst}
use Rattle.bson_tree.specs.Tree.{Tree, Items}
use Rattle.bson_splice.specs.Spans.{Span, AreFits}
use Rattle.bson_splice.specs.Splices.{Put}
use Rattle.bson_splice.specs.Takes.{TakesIn, own, raw, inside, Takes, done, next}
use Rattle.bson_splice.proofs.Fitting.{none_fit}

record RefitsIn (at : ℕ) (t : Tree) (rest qs : List Put) : Type 0 where
  pub others : List Span
  pub left : List Put
  pub taken : TakesIn at t qs left
  pub here : AreFits others rest
  pub there : AreFits others left

record Refits (at : ℕ) (is : Items) (rest qs : List Put) : Type 0 where
  pub others : List Span
  pub left : List Put
  pub taken : Takes at is qs left
  pub here : AreFits others rest
  pub there : AreFits others left

mutual
  refits_in : {at : ℕ} {t : Tree} {ps rest : List Put} → TakesIn at t ps rest → (ss : List Span) (qs : List Put)
      → AreFits ss ps → AreFits ss qs → RefitsIn at t rest qs
  refits_in (own at t p ps s e) [] qs f g = absurd f
  refits_in (own at t p ps s e) (x ∷ ss) [] f g = absurd g
  refits_in (own at t p ps s e) (x ∷ ss) (q ∷ qs) f g =
      record {
        others = ss;
        left = qs;
        taken = own at t q qs (g.0.start ∙ sym f.0.start ∙ s)
            (g.0.end ∙ sym f.0.end ∙ e);
        here = f.1;
        there = g.1;
      }
  refits_in (raw at tag bytes ps) ss qs f g = record {
    others = ss;
    left = qs;
    taken = raw at tag bytes qs;
    here = f;
    there = g;
  }
  refits_in (inside at tag is ps rest d) ss qs f g =
      let r = refits d ss qs f g in
      record {
        others = r.others;
        left = r.left;
        taken = inside at tag is qs r.left r.taken;
        here = r.here;
        there = r.there;
      }

  refits : {at : ℕ} {is : Items} {ps rest : List Put} → Takes at is ps rest → (ss : List Span) (qs : List Put)
      → AreFits ss ps → AreFits ss qs → Refits at is rest qs
  refits (done at ps) ss qs f g = record { others = ss; left = qs; taken = done at qs; here = f; there = g }
  refits (next at name t is ps mid rest d ds) ss qs f g =
      let r = refits_in d ss qs f g in
      let o = refits ds r.others r.left r.here r.there in
      record {
        others = o.others;
        left = o.left;
        taken = next at name t is qs r.left o.left r.taken o.taken;
        here = o.here;
        there = o.there;
      }

nothing_fits : (ss : List Span) (ps : List Put) → AreFits ss [] → AreFits ss ps → ps ≡ []
nothing_fits [] ps f g = none_fit ps g
nothing_fits (s ∷ ss) ps f g = absurd f

-- what fits the places of values of these elements takes them
pub refit : (at : ℕ) (is : Items) (ss : List Span) (ps qs : List Put) → Takes at is ps [] → AreFits ss ps
    → AreFits ss qs → Takes at is qs []
refit at is ss ps qs taken f g =
    let r = refits taken ss qs f g in
    subst (Takes at is qs) (nothing_fits r.others r.left r.here r.there) r.taken
