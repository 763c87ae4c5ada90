-- A buffer that is filled from its front, piece by piece.
use Rattle.std.proofs.Common.{◌≡◌, ℕ, ◌+◌, ◌≤◌, Option, Some, List, [], ◌++◌, length, take, drop, sym, ◌∙◌, ap, subst}
use Rattle.std.proofs.Common.{arith, append_assoc, append-nil, length-append, length-take-le}
use Rattle.std.proofs.lemmas.List.{take-append-le, drop-drop, take_at}
use Rattle.std.proofs.Math.Seq.{take-append-add, take-length}
use Rattle.fle_outside.specs.Reads.{ReadTakes}
use Rattle.fle_outside.specs.declared.answers.ReadAnswer.TheVariants as reads
use borrow.Rule.Slice.PartMut.{put_mid}

-- the first n bytes of what was read behind the place `at`
pub take-put_mid_more : (at k n : ℕ) (piece new : List ℕ) → at ≤ length piece → n ≤ length new
    → take (at + n) (put_mid at k piece new) ≡ take at piece ++ take n new
take-put_mid_more at k n piece new within some =
    let size : length (take at piece) ≡ at = length-take-le at piece within in
    let rest : List ℕ = new ++ drop k (drop at piece) in
    let front : take (length (take at piece) + n) (take at piece ++ rest) ≡ take at piece ++ take n rest =
    take-append-add (take at piece) rest n in
    let there : take (at + n) (take at piece ++ rest) ≡ take at piece ++ take n rest =
    subst (λ (m : ℕ). take (m + n) (take at piece ++ rest) ≡ take at piece ++ take n rest) size front in
    there ∙ ap (λ (x : List ℕ). take at piece ++ x) (take-append-le n new (drop k (drop at piece)) some)

-- the buffer is at least as long as what it is filled with
pub length-put_mid-≤ : (at k n : ℕ) (piece new : List ℕ) → at ≤ length piece → n ≤ length new
    → at + n ≤ length (put_mid at k piece new)
length-put_mid-≤ at k n piece new within some =
    omega (
      arith,
      length-append (take at piece) (new ++ drop k (drop at piece)),
      length-append new (drop k (drop at piece)),
      length-take-le at piece within,
    )

-- a further read keeps the front of the buffer what the source handed out
pub filled_more : (at k n : ℕ) (piece new told : List ℕ) (after : Option (List ℕ))
    → at ≤ length piece → n ≤ length new → told ≡ take at piece ++ drop at told
    → ReadTakes (Some (drop at told)) after (reads.Took n) new
    → (told ≡ take (at + n) (put_mid at k piece new) ++ drop (at + n) told) × (after ≡ Some (drop (at + n) told))
filled_more at k n piece new told after within some filled takes =
    let dropped : drop n (drop at told) ≡ drop (at + n) told = drop-drop n at told in
    let whole : told ≡ (take at piece ++ take n new) ++ drop (at + n) told =
    filled ∙ (ap (λ (x : List ℕ). take at piece ++ x) (takes.0 ∙ ap (λ (x : List ℕ). take n new ++ x) dropped)
    ∙ sym (append_assoc (take at piece) (take n new) (drop (at + n) told))) in (
      whole ∙ ap (λ (x : List ℕ). x ++ drop (at + n) told) (sym (take-put_mid_more at k n piece new within some)),
      takes.1 ∙ ap (λ (x : List ℕ). Some x) dropped,
    )

-- the source ended after `at` bytes; what its last call left behind them in the buffer is anything
pub filled_end : (at k : ℕ) (piece new told : List ℕ) (after : Option (List ℕ))
    → at ≤ length piece → told ≡ take at piece ++ drop at told → ReadTakes (Some (drop at told)) after reads.End new
    → (length told ≡ at) × (told ≡ take at (put_mid at k piece new)) × (after ≡ Some [])
filled_end at k piece new told after within filled takes =
    let all : told ≡ take at piece = filled ∙ (ap (λ (x : List ℕ). take at piece ++ x) takes.0
    ∙ append-nil (take at piece)) in
    let size : length (take at piece) ≡ at = length-take-le at piece within in (
      ap length all ∙ size,
      all ∙ sym (take_at (take at piece) (new ++ drop k (drop at piece)) at size),
      takes.1 ∙ ap (λ (x : List ℕ). Some x) takes.0,
    )

-- the buffer is filled
pub filled_whole : (at : ℕ) (piece told : List ℕ) (after : Option (List ℕ))
    → at ≡ length piece → told ≡ take at piece ++ drop at told → after ≡ Some (drop at told)
    → (told ≡ piece ++ drop (length piece) told) × (after ≡ Some (drop (length piece) told))
filled_whole at piece told after all filled left =
    let there = subst (λ (m : ℕ). told ≡ take m piece ++ drop m told) all filled in (
      there ∙ ap (λ (x : List ℕ). x ++ drop (length piece) told) (take-length piece),
      subst (λ (m : ℕ). after ≡ Some (drop m told)) all left,
    )
