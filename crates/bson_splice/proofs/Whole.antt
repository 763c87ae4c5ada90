-- A document that is spliced whole.
use Rattle.std.proofs.Common.{◌≡◌, ◌∙◌, ℕ, ◌≤◌, List, [], ◌∷◌, ◌++◌, length, take, arith, refl, sym, ap, subst}
use Rattle.std.proofs.Common.{length-take-le}
use Rattle.std.proofs.lemmas.List.{append-nil}
use Rattle.bson_tree.specs.Spelling.{doc_bytes}
use Rattle.bson_codec.specs.Borrowed.{At}
use Rattle.bson_splice.specs.Spans.{Span, AreFits}
use Rattle.bson_splice.specs.Splices.{Put}
use Rattle.bson_splice.specs.Splicing.{HasRoom, Splices, document_made, document_left}
use Rattle.bson_splice.specs.Whole.{HasRoomFor, IsSpliced, StandsAt, replaced}
use Rattle.bson_splice.proofs.Fitting.{blanks, blanks_fit}
use Rattle.bson_splice.proofs.Splices.{spliced_items}

-- what is put in by the walk is what is put in by offsets
pub made_is : (ss : List Span) (d : At) (ps : List Put) → StandsAt ss d → AreFits ss ps
    → document_made d ps ≡ doc_bytes (replaced ps d)
made_is ss d ps stands f = ap doc_bytes (spliced_items (stands ps f) tt).made

pub room_whole : (ss : List Span) (d : At) (size : ℕ) → StandsAt ss d → HasRoomFor ss d size
    → HasRoom ss (document_made d) 0 size
room_whole ss d size stands room ps f = omega (arith, room ps f, ap length (made_is ss d ps stands f))

no_blanks : (ss : List Span) → blanks ss ≡ [] → ss ≡ []
no_blanks [] e = refl
no_blanks (s ∷ ss) e = absurd cc

module _ {S : Type 0} (step : S → S → Put → Type 0) (spans : S → List Span) where
  pub whole : (d : At) (before after : S) (old new : List ℕ) (end : ℕ) → StandsAt (spans before) d → end ≤ length new
      → Splices step spans (document_made d) (document_left d) before after old new 0 end
      → IsSpliced step spans d before after new end
  whole d before after old new end stands within s =
      let rest = blanks (spans after) in
      let f = blanks_fit (spans after) in
      let ps = s.puts ++ rest in
      let all = spliced_items (stands ps (s.fits rest f)) tt in
      let none : spans after ≡ [] = no_blanks (spans after) (sym (s.left rest f) ∙ all.rests) in
      let empty : rest ≡ [] = ap blanks none in
      let same : ps ≡ s.puts = ap (λ (qs : List Put). s.puts ++ qs) empty ∙ append-nil s.puts in
      let fits : AreFits (spans before) s.puts = subst (AreFits (spans before)) same (s.fits rest f) in
      let written : take end new ≡ doc_bytes (replaced s.puts d) =
      s.written rest f ∙ ap (document_made d) same ∙ made_is (spans before) d s.puts stands fits in
      record {
        puts = s.puts;
        runs = s.runs;
        fits = fits;
        done = none;
        written = written;
        size = sym (length-take-le end new within) ∙ ap length written;
      }
