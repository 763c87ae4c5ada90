-- Values that are sealed one after the other.
use Rattle.std.proofs.Common.{◌≡◌, ◌∙◌, ℕ, ◌+◌, List, [], ◌∷◌, ◌++◌, length, take, arith, refl, sym, ap, subst}
use Rattle.std.proofs.Common.{length-append, append_assoc}
use Rattle.std.proofs.lemmas.List.{append-nil}
use Rattle.std.proofs.Math.Seq.{take-length}
use Rattle.bson_tree.specs.Spelling.{doc_bytes}
use Rattle.bson_codec.specs.Borrowed.{At}
use Rattle.bson_splice.specs.Spans.{Runs, AreFits}
use Rattle.bson_splice.specs.Splices.{Put}
use Rattle.bson_splice.specs.Splicing.{Stops}
use Rattle.bson_splice.specs.Takes.{Trades}
use Rattle.bson_splice.specs.Whole.{IsSpliced, StandsAt, replaced}
use Rattle.fle_outside.proofs.Drawings.{draws_none, draws_then}
use Rattle.fle_outside.specs.Blocks.{Block}
use Rattle.fle_outside.specs.Seen.{Draws, EntropySeen}
use Rattle.doc_rewrite.specs.Keys.{Lookup, Table, key_in}
use Rattle.doc_rewrite.specs.Sealed.{put_of, seals, sealed, first_block, other_blocks}
use Rattle.doc_rewrite.specs.Sealing.{SealsOne, SealsNone, FellShort, IsSealedWhole}
use Rattle.doc_rewrite.specs.Sites.{Site, draws_of, grown, spans_of}
use Rattle.doc_rewrite.specs.Ivs.{DrawFails}
use Rattle.doc_rewrite.proofs.Growth.{removed, trades_one, whole_size}
use Rattle.doc_rewrite.proofs.Sizes.{first_same, others_are}

-- sealed one after the other: with the blocks drawn, whatever blocks come behind them, these take the first places
record SealsSome (keys : Lookup) (ss others : List Site) (before after : EntropySeen) (ps : List Put) : Type 0 where
  pub drawn : List Block
  pub draws : Draws before after drawn
  pub count : draws_of ss ≡ length drawn + draws_of others
  pub are : (rest : List Block) → seals keys ss (drawn ++ rest) ≡ ps ++ seals keys others rest
  pub trade : others ≡ [] → Trades ps (removed ss) (removed ss + grown ss)

some_none : (keys : Lookup) (ss : List Site) (e : EntropySeen) → SealsSome keys ss ss e e []
some_none keys ss e = record {
  drawn = [];
  draws = draws_none e;
  count = omega arith;
  are = λ rest. refl;
  trade = λ none. subst (λ (rs : List Site). Trades [] (removed rs) (removed rs + grown rs)) (sym none) (refl, refl);
}

-- one more in front
some_more : (keys : Lookup) (ss mid others : List Site) (a b c : EntropySeen) (p : Put) (ps : List Put)
    → SealsOne keys ss mid a b p
    → SealsSome keys mid others b c ps → SealsSome keys ss others a c (p ∷ ps)
some_more keys ss mid others a b c p ps one more = record {
  drawn = one.drawn ++ more.drawn;
  draws = draws_then one.draws more.draws;
  count = ap draws_of one.first ∙ omega (arith, one.count, more.count, length-append one.drawn more.drawn);
  are = λ rest.
      let alg = one.site.algorithm in
      let all = (one.drawn ++ more.drawn) ++ rest in
      let behind = more.drawn ++ rest in
      let parts : all ≡ one.drawn ++ behind = append_assoc one.drawn more.drawn rest in
      ap (λ (rs : List Site). seals keys rs all) one.first
      ∙ ap (λ (bs : List Block). put_of keys one.site (first_block alg bs) ∷ seals keys mid (other_blocks alg bs)) parts
      ∙ ap (λ (bs : List Block). put_of keys one.site (first_block alg (one.drawn ++ behind)) ∷ seals keys mid bs)
      (others_are alg one.drawn behind one.count)
      ∙ ap (λ (b : Block). put_of keys one.site b ∷ seals keys mid behind) (first_same alg one.drawn behind one.count)
      ∙ ap (λ (q : Put). q ∷ seals keys mid behind) (sym one.is)
      ∙ ap (λ (qs : List Put). p ∷ qs) (more.are rest);
  trade = λ none.
      subst (λ (rs : List Site). Trades (p ∷ ps) (removed rs) (removed rs + grown rs)) (sym one.first)
      (trades_one one.site mid p ps (ap (λ (q : Put). q.start) one.is) (ap (λ (q : Put). q.end) one.is) one.long
      (more.trade none));
}

no_sites : (ss : List Site) → spans_of ss ≡ [] → ss ≡ []
no_sites [] e = refl
no_sites (s ∷ ss) e = absurd cc

module _ {S A : Type 0} (keys : S → Table) (left : S → List Site) (seen : S → EntropySeen) (name : S → A) where
  -- one step: a value is sealed, with the same keys, and blocks are drawn from the same source; or none is
  abbrev One : S → S → Put → Type 0
  One a b p = SealsOne (key_in (keys a)) (left a) (left b) (seen a) (seen b) p × (keys b ≡ keys a) × (name b ≡ name a)

  abbrev None_ : S → S → Type 0
  None_ a b = SealsNone (left a) (seen a) (seen b) × (name b ≡ name a)

  runs_seal : (a b : S) (ps : List Put) → Runs One a b ps
      → SealsSome (key_in (keys a)) (left a) (left b) (seen a) (seen b) ps × (name b ≡ name a)
  runs_seal a b [] same =
      subst (λ (s : S). SealsSome (key_in (keys a)) (left a) (left s) (seen a) (seen s) [] × (name s ≡ name a)) same
      (some_none (key_in (keys a)) (left a) (seen a), refl)
  runs_seal a b (p ∷ ps) runs =
      let mid = runs.0 in
      let more = runs_seal mid b ps runs.2 in (
        some_more (key_in (keys a)) (left a) (left mid) (left b) (seen a) (seen mid) (seen b) p ps runs.1.0
            (subst (λ (ks : Table). SealsSome (key_in ks) (left mid) (left b) (seen mid) (seen b) ps) runs.1.1
            more.0),
        more.1 ∙ runs.1.2,
      )

  -- after the last one the source of blocks is the one that was handed in
  pub name_done : (d : At) (a b : S) (new : List ℕ) (end : ℕ) → IsSpliced One (λ s. spans_of (left s)) d a b new end
      → name b ≡ name a
  name_done d a b new end s = (runs_seal a b s.puts s.runs).1

  pub name_stopped : (a b : S) → Stops One None_ a b → name b ≡ name a
  name_stopped a b s = s.stop.1 ∙ (runs_seal a s.mid s.puts s.runs).1

  pub whole : (ss : List Site) (d : At) (a b : S) (new : List ℕ) (end : ℕ) → left a ≡ ss → StandsAt (spans_of ss) d
      → length new ≡ length (doc_bytes d.tree) + grown ss
      → IsSpliced One (λ s. spans_of (left s)) d a b new end
      → IsSealedWhole (key_in (keys a)) ss d (seen a) (seen b) new
  unfolding sealed
  whole ss d a b new end is stands long s =
      let some = (runs_seal a b s.puts s.runs).0 in
      let none : left b ≡ [] = no_sites (left b) s.done in
      let all : seals (key_in (keys a)) (left a) (some.drawn ++ []) ≡ s.puts =
      some.are [] ∙ ap (λ (rs : List Site). s.puts ++ seals (key_in (keys a)) rs []) none ∙ append-nil s.puts in
      let puts : s.puts ≡ seals (key_in (keys a)) ss some.drawn =
      sym all ∙ ap (λ (bs : List Block). seals (key_in (keys a)) (left a) bs) (append-nil some.drawn)
      ∙ ap (λ (rs : List Site). seals (key_in (keys a)) rs some.drawn) is in
      let fits : AreFits (spans_of ss) s.puts = subst (λ (rs : List Site). AreFits (spans_of rs) s.puts) is s.fits in
      let trade : Trades s.puts (removed ss) (removed ss + grown ss) =
      subst (λ (rs : List Site). Trades s.puts (removed rs) (removed rs + grown rs)) is (some.trade none) in
      let here : length new ≡ end = long ∙ sym (s.size ∙ whole_size ss d s.puts (stands s.puts fits) trade) in
      record {
        drawn = some.drawn;
        count = omega (arith, some.count, ap draws_of none, ap draws_of is);
        draws = some.draws;
        written = sym (take-length new) ∙ ap (λ (n : ℕ). take n new) here ∙ s.written
            ∙ ap (λ (qs : List Put). doc_bytes (replaced qs d)) puts;
      }

  pub short : (ss : List Site) (a b : S) → left a ≡ ss → Stops One None_ a b → FellShort (seen a) (seen b) (draws_of ss)
  short ss a b is s =
      let some = (runs_seal a s.mid s.puts s.runs).0 in
      let stop = s.stop.0 in
      let fails : DrawFails stop.0.algorithm (seen s.mid) (seen b) = stop.3 in
      record {
        drawn = some.drawn;
        fewer = omega (arith, some.count, ap draws_of stop.2, fails.needs, ap draws_of is);
        draws = subst (λ (bs : List Block). Draws (seen a) (seen b) bs) (append-nil some.drawn)
            (draws_then some.draws fails.draws);
        unassured = omega (arith, some.draws.falls, fails.unassured);
        rose = omega (arith, some.draws.later, fails.rose);
      }
