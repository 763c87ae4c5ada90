-- The marks of a command stand at its values, whatever takes their places.
use Rattle.std.proofs.Common.{◌≡◌, ◌∙◌, ℕ, ◌+◌, List, [], ◌∷◌, None, length, subst, sym}
use Rattle.bson_tree.specs.Tree.{Tree, Items}
use Rattle.bson_codec.specs.Borrowed.{At}
use Rattle.bson_splice.specs.Spans.{AreFits}
use Rattle.bson_splice.specs.Splices.{Put}
use Rattle.bson_splice.specs.Takes as takes
use Rattle.encrypt_schema.specs.declared.command.marks.Mark.{Mark}
use Rattle.encrypt_schema.specs.Language.Row.{Row}
use Rattle.encrypt_schema.specs.Commands.Visits.{content_verdict, roles}
use Rattle.encrypt_schema.proofs.Commands.Plans as plans
use Rattle.encrypt_schema.proofs.Commands.Plans.{own, raw, inside, done, next}
use Rattle.encrypt_schema.proofs.Commands.Ruled as ruled
use Rattle.encrypt_schema.proofs.Commands.Taken.{roles_taken}
use Rattle.doc_rewrite.specs.Plans.{AreMarksOf, AreNamed, AreRuled}
use Rattle.doc_rewrite.specs.Sites.{sites_of, spans_of}
use Rattle.doc_rewrite.proofs.Names.{clean_named}

module _ (rows : List Row) where
  -- what takes the places of these marks of a document
  abbrev Fit : At → List Mark → List Put → Type 0
  Fit c ms ps = AreFits (spans_of (sites_of rows c ms)) ps

  mutual
    stands_in : (c : At) {at : ℕ} {t : Tree} {ms rest : List Mark} → plans.TakesIn at t ms rest → (ps : List Put)
        → Fit c ms ps → (left : List Put) × takes.TakesIn at t ps left × Fit c rest left
    stands_in c (own at t m ms s e) [] f = absurd f
    stands_in c (own at t m ms s e) (p ∷ ps) f = (ps, takes.own at t p ps (f.0.start ∙ s) (f.0.end ∙ e), f.1)
    stands_in c (raw at tag bytes ms) ps f = (ps, takes.raw at tag bytes ps, f)
    stands_in c (inside at tag is ms rest d) ps f =
        let i = stands_among c d ps f in (i.0, takes.inside at tag is ps i.0 i.1, i.2)

    stands_among : (c : At) {at : ℕ} {is : Items} {ms rest : List Mark} → plans.Takes at is ms rest → (ps : List Put)
        → Fit c ms ps → (left : List Put) × takes.Takes at is ps left × Fit c rest left
    stands_among c (done at ms) ps f = (ps, takes.done at ps, f)
    stands_among c (next at name t is ms mid rest d ds) ps f =
        let first = stands_in c d ps f in
        let others = stands_among c ds first.0 first.2 in
        (others.0, takes.next at name t is ps first.0 others.0 first.1 others.1, others.2)

  all_taken : (c : At) (at : ℕ) (is : Items) (ps left : List Put) → takes.Takes at is ps left → Fit c [] left
      → takes.Takes at is ps []
  all_taken c at is ps [] taken f = taken
  all_taken c at is ps (p ∷ left) taken f = absurd f

  are_ruled : (n : ℕ) (ms : List Mark) → ruled.AreRuled n ms → AreRuled n ms
  are_ruled n [] h = tt
  are_ruled n (m ∷ ms) h = (h.0, are_ruled n ms h.1)

  pub marks_stand : (d : At) → AreNamed rows d (roles rows d.start d.tree)
      → AreMarksOf rows (roles rows d.start d.tree) d
  marks_stand d named = record {
    places = λ ps f.
        let a = stands_among d (roles_taken rows d.start d.tree) ps f in
        all_taken d (d.start + 4) d.tree ps a.0 a.1 a.2;
    ruled = are_ruled (length rows) (roles rows d.start d.tree) (ruled.roles_ruled rows d.start d.tree);
    named = named;
  }

-- so do the marks that were made of a command, which isn't refused for its contents
pub marked_stand : (rules rows : List Row) (made : At) (marks : List Mark) (command : At) → made ≡ command
    → rows ≡ rules → marks ≡ roles rules made.start made.tree → content_verdict rules made.start made.tree ≡ None
    → AreMarksOf rows marks command
marked_stand rules rows made marks command same ruled are accepted =
    subst (λ (d : At). AreMarksOf rows marks d) same
    (subst (λ (rs : List Row). AreMarksOf rs marks made) (sym ruled)
    (subst (λ (ms : List Mark). AreMarksOf rules ms made) (sym are) (marks_stand rules made
    (clean_named rules made accepted))))
