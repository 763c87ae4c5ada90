-- Blocks that are all the same.
use Rattle.std.proofs.Common.{◌≡◌, ◌≢◌, ◌∙◌, ℕ, zero, suc, ◌+◌, ◌-◌, List, ◌∷◌, ◌++◌, length, take, replicate, Some}
use Rattle.std.proofs.Common.{arith, ap, refl, sym}
use Rattle.std.proofs.Math.Seq.{take-append_seam}
use Rattle.std.proofs.lemmas.List.{length-append, length-replicate, take-replicate}
use Rattle.bson_codec.specs.Borrowed.{At}
use Rattle.bson_tree.specs.Spelling.{doc_bytes}
use Rattle.doc_rewrite.specs.Keys.{Table, key_in}
use Rattle.doc_rewrite.specs.Sealed.{sealed}
use Rattle.doc_rewrite.specs.Sealing.{IsSealedWhole}
use Rattle.doc_rewrite.specs.Sites.{Site}
use Rattle.fle_outside.specs.Blocks.{Block}
use Rattle.fle_outside.specs.Seen.{EntropySeen}
use Rattle.fle_bench.specs.Documents.{sealed_bytes}
use Rattle.fle_bench.specs.declared.payload.TheConstants.{IV}

-- the first of equal elements are equal elements
pub first_same : {X : Type 0} (n : ℕ) (x : X) (xs ys : List X) → replicate n x ≡ xs ++ ys
    → xs ≡ replicate (length xs) x
first_same n x xs ys e =
    let long : n ≡ length xs + length ys = sym (length-replicate n x) ∙ ap length e ∙ length-append xs ys in
    sym (take-append_seam xs ys) ∙ ap (take (length xs)) (sym e) ∙ take-replicate (length xs) n x (omega (arith, long))

-- one of equal elements, and one less
pub one_same : {X : Type 0} (n : ℕ) (x : X) → n ≢ 0 → replicate n x ≡ x ∷ replicate (n - 1) x
one_same zero x some = absurd (some refl)
one_same (suc n) x some =
    let less : n ≡ suc n - 1 = omega arith in
    ap (λ (k : ℕ). x ∷ replicate k x) less

-- a document sealed with blocks that are all the same
pub sealed_same : (keys : Table) (ss : List Site) (d : At) (before after : EntropySeen) (n : ℕ)
    (bytes : List ℕ) → before.told ≡ Some (replicate n IV) → IsSealedWhole (key_in keys) ss d before after bytes
    → bytes ≡ sealed_bytes keys ss d
unfolding sealed_bytes
sealed_same keys ss d before after n bytes told whole =
    let first = whole.draws.first (replicate n IV) told in
    let same : whole.drawn ≡ replicate (length whole.drawn) IV =
    first_same n IV whole.drawn first.0 first.1 in
    whole.written ∙ ap (λ (bs : List Block). doc_bytes (sealed (key_in keys) ss bs d))
    (same ∙ ap (λ (k : ℕ). replicate k IV) whole.count)
