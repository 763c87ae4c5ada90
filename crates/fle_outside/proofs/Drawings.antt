-- Blocks drawn one after another.
use Rattle.std.proofs.Common.{◌≡◌, ◌∙◌, Option, Some, None, Ok, Err, List, [], ◌∷◌, ◌++◌, refl, sym, ap, arith}
use Rattle.std.proofs.Common.{append_assoc, length-append}
use Rattle.std.specs.Prelude.{unwrap_or}
use Rattle.std.proofs.lemmas.List.Elements.{All-append}
use Rattle.fle_outside.specs.Blocks.{Block, DrawTakes, IsBlock}
use Rattle.fle_outside.specs.Seen.{Draws, EntropySeen}
use Rattle.fle_outside.specs.declared.answers.Failed.{Failed}

-- nothing is drawn
pub draws_none : (e : EntropySeen) → Draws e e []
draws_none e = record {
  blocks = λ k d lt. absurd (omega (arith, lt));
  first = λ all is. (all, refl, is);
  later = omega arith;
  falls = omega arith;
}

pub draws_then : {a b c : EntropySeen} {x y : List Block} → Draws a b x → Draws b c y → Draws a c (x ++ y)
draws_then {x = x} {y = y} one two = record {
  blocks = All-append IsBlock x y one.blocks two.blocks;
  first = λ all is.
      let f = one.first all is in
      let s = two.first f.0 f.2 in
      (s.0, f.1 ∙ (ap (λ (bs : List Block). x ++ bs) s.1 ∙ sym (append_assoc x y s.0)), s.2);
  later = omega (arith, one.later, two.later);
  falls = omega (arith, one.falls, two.falls, length-append x y);
}

some_is : (a b : List Block) → Some a ≡ Some b → a ≡ b
some_is a b e = ap (λ (o : Option (List Block)). unwrap_or o []) e

-- the blocks that are told begin with the one that was drawn
pub taken : (before after : Option (List Block)) (block : Block) → DrawTakes before after (Ok block)
    → (all : List Block) → before ≡ Some all
    → (rest : List Block) × (all ≡ (block ∷ []) ++ rest) × (after ≡ Some rest)
taken None after block t all is = absurd cc
taken (Some blocks) after block t all is = (t.0, sym (some_is blocks all is) ∙ t.1, t.2)

-- and are as before where a draw failed
pub kept : (before after : Option (List Block)) (fault : Failed) → DrawTakes before after (Err fault)
    → (all : List Block) → before ≡ Some all → after ≡ Some all
kept None after fault t all is = absurd cc
kept (Some blocks) after fault t all is = t ∙ is
