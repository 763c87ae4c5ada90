-- How long a sealed document is.
use Rattle.std.proofs.Common.{◌≡◌, ◌∙◌, ℕ, ◌+◌, ◌-◌, ◌≤◌, List, [], ◌∷◌, length, None, arith, refl, sym, ap}
use Rattle.std.proofs.lemmas.List.Elements.{All-nil}
use Rattle.bson_tree.specs.Tree.{Tree, Items}
use Rattle.bson_tree.specs.Spelling.{value_bytes, items_bytes, doc_bytes}
use Rattle.bson_tree.proofs.Sizes.{framed_size}
use Rattle.bson_codec.specs.Borrowed.{At}
use Rattle.bson_splice.specs.Spans.{AreFits}
use Rattle.bson_splice.specs.Splices.{Put, spliced}
use Rattle.bson_splice.specs.Takes.{Takes, Trades, Caps}
use Rattle.bson_splice.specs.Whole.{HasRoomFor, StandsAt, replaced}
use Rattle.bson_splice.proofs.Splices.{spliced_items}
use Rattle.fle_outside.specs.Blocks.{Block, IsBlock, AreBlocks}
use Rattle.doc_rewrite.specs.Keys.{GivesLongIds, Lookup}
use Rattle.doc_rewrite.specs.Plans.{AreLong, IsSealedSize}
use Rattle.doc_rewrite.specs.Sealed.{put_of, seals, sealed, first_block, other_blocks}
use Rattle.doc_rewrite.specs.Sites.{Site, sealed_width, spans_of, grown}
use Rattle.doc_rewrite.proofs.Sizes.{key_long, sealed_size, first_long, other_are}

-- how many bytes are taken off
abbrev pub removed : List Site → ℕ
removed [] = 0
removed (s ∷ ss) = (s.end - s.start) + removed ss

-- a sealed value is longer
more : (n k l : ℕ) → sealed_width n + (k + l) ≡ (n + k) + ((sealed_width n - n) + l)
more n k l = omega arith

pub one_trade : (s : Site) (t : Tree) (n : ℕ) → s.end ≡ s.start + length (value_bytes t)
    → n ≡ sealed_width (length (value_bytes t))
    → n + (s.end - s.start) ≡ length (value_bytes t) + sealed_width (s.end - s.start)
one_trade s t n e is =
    let long : s.end - s.start ≡ length (value_bytes t) = omega (arith, e) in
    omega (arith, long, is, ap sealed_width long)

one_cap : (s : Site) (t : Tree) (n : ℕ) → s.end ≡ s.start + length (value_bytes t)
    → n ≤ sealed_width (length (value_bytes t))
    → n + (s.end - s.start) ≤ length (value_bytes t) + sealed_width (s.end - s.start)
one_cap s t n e is =
    let long : s.end - s.start ≡ length (value_bytes t) = omega (arith, e) in
    omega (arith, long, is, ap sealed_width long)

caps : (ss : List Site) (ps : List Put) → AreFits (spans_of ss) ps → Caps ps (removed ss) (removed ss + grown ss)
caps [] [] f = (refl, refl)
caps [] (p ∷ ps) f = absurd f
caps (s ∷ ss) [] f = absurd f
caps (s ∷ ss) (p ∷ ps) f = (
  s.end - s.start,
  sealed_width (s.end - s.start),
  removed ss,
  removed ss + grown ss,
  refl,
  sym (more (s.end - s.start) (removed ss) (grown ss)),
  λ t e. one_cap s t (length (value_bytes (p.value t)))
      (sym f.0.end ∙ e ∙ ap (λ (n : ℕ). n + length (value_bytes t)) f.0.start) (f.0.size t),
  caps ss ps f.1,
)

-- what takes the place of the first of them, and of the others
pub trades_one : (s : Site) (ss : List Site) (p : Put) (ps : List Put) → p.start ≡ s.start → p.end ≡ s.end
    → ((t : Tree) → length (value_bytes (p.value t)) ≡ sealed_width (length (value_bytes t)))
    → Trades ps (removed ss) (removed ss + grown ss)
    → Trades (p ∷ ps) (removed (s ∷ ss)) (removed (s ∷ ss) + grown (s ∷ ss))
trades_one s ss p ps from to long others = (
  s.end - s.start,
  sealed_width (s.end - s.start),
  removed ss,
  removed ss + grown ss,
  refl,
  sym (more (s.end - s.start) (removed ss) (grown ss)),
  λ t e. one_trade s t (length (value_bytes (p.value t))) (sym to ∙ e ∙ ap (λ (n : ℕ). n + length (value_bytes t)) from)
      (long t),
  others,
)

trades : (keys : Lookup) (ss : List Site) (blocks : List Block) → GivesLongIds keys → AreLong ss → AreBlocks blocks
    → Trades (seals keys ss blocks) (removed ss) (removed ss + grown ss)
trades keys [] blocks gives ids are = (refl, refl)
trades keys (s ∷ ss) blocks gives ids are =
    trades_one s ss (put_of keys s (first_block s.algorithm blocks))
    (seals keys ss (other_blocks s.algorithm blocks)) refl refl
    (λ t. sealed_size keys s (first_block s.algorithm blocks) t (key_long keys s gives ids.0)
    (first_long s.algorithm blocks are))
    (trades keys ss (other_blocks s.algorithm blocks) gives ids.1 (other_are s.algorithm blocks are))

fit : (keys : Lookup) (ss : List Site) (blocks : List Block) → GivesLongIds keys → AreLong ss → AreBlocks blocks
    → AreFits (spans_of ss) (seals keys ss blocks)
fit keys [] blocks gives ids are = tt
fit keys (s ∷ ss) blocks gives ids are = (
  record {
    start = refl;
    end = refl;
    size = λ t. omega (
      arith,
      sealed_size keys s (first_block s.algorithm blocks) t (key_long keys s gives ids.0)
          (first_long s.algorithm blocks are),
    );
  },
  fit keys ss (other_blocks s.algorithm blocks) gives ids.1 (other_are s.algorithm blocks are),
)

-- the document with what takes the places of these sites
pub whole_size : (ss : List Site) (d : At) (ps : List Put) → Takes (d.start + 4) d.tree ps []
    → Trades ps (removed ss) (removed ss + grown ss)
    → length (doc_bytes (replaced ps d)) ≡ length (doc_bytes d.tree) + grown ss
whole_size ss d ps taken trade =
    let s = spliced_items taken tt in
    let i = s.size (removed ss) (removed ss + grown ss) trade in
    let js = spliced (d.start + 4) ps d.tree in
    let k : i.0 ≡ 0 = i.2.0 in
    let l : i.1 ≡ 0 = i.2.1 in
    let made : length (doc_bytes js) ≡ length (doc_bytes (replaced ps d)) =
    ap (λ (is : Items). length (doc_bytes is)) s.made in
    omega (arith, i.3, k, l, made, framed_size (items_bytes js), framed_size (items_bytes d.tree))

module _ (ss : List Site) (d : At) (stands : StandsAt (spans_of ss) d) where
  pub room : (size : ℕ) → size ≡ length (doc_bytes d.tree) + grown ss → HasRoomFor (spans_of ss) d size
  room size long ps f =
      let s = spliced_items (stands ps f) tt in
      let i = s.most (removed ss) (removed ss + grown ss) (caps ss ps f) in
      let js = spliced (d.start + 4) ps d.tree in
      let k : i.0 ≡ 0 = i.2.0 in
      let l : i.1 ≡ 0 = i.2.1 in
      let made : length (doc_bytes js) ≡ length (doc_bytes (replaced ps d)) =
      ap (λ (is : Items). length (doc_bytes is)) s.made in
      omega (arith, i.3, k, l, made, long, framed_size (items_bytes js), framed_size (items_bytes d.tree))

  pub sealed_long : (n : ℕ) → n ≡ length (doc_bytes d.tree) + grown ss → AreLong ss → IsSealedSize ss d n
  unfolding sealed
  sealed_long n long ids keys blocks gives are =
      whole_size ss d (seals keys ss blocks) (stands (seals keys ss blocks) (fit keys ss blocks gives ids are))
      (trades keys ss blocks gives ids are) ∙ sym long

  -- how long it is under some keys, is how long it is under any
  pub size_is : (n : ℕ) → AreLong ss → IsSealedSize ss d n → n ≡ length (doc_bytes d.tree) + grown ss
  size_is n ids are =
      sym (are (λ need. None) [] (λ need f long e. absurd cc) (All-nil IsBlock))
      ∙ sealed_long (length (doc_bytes d.tree) + grown ss) refl ids (λ need. None) [] (λ need f long e. absurd cc)
      (All-nil IsBlock)
