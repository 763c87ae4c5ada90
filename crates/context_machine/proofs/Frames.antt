-- Documents and arrays whose lengths are put in last.
use Rattle.std.proofs.Common.{◌≡◌, ◌∙◌, ℕ, ◌+◌, List, [], ◌∷◌, ◌++◌, length, refl, sym, ap, arith, append_assoc}
use Rattle.std.proofs.Common.{length-append}
use Rattle.std.proofs.lemmas.List.{append-nil}
use Rattle.bson_tree.specs.Tree.{Tree, Items, node, no_items, item}
use Rattle.bson_tree.specs.Spelling.{framed, doc_bytes, items_bytes}

abbrev four_zeros : List ℕ
four_zeros = 0 ∷ (0 ∷ (0 ∷ (0 ∷ [])))

-- what stands before the elements of a document under a name
pub grown : (old a b : List ℕ) (tag : ℕ) (name : List ℕ) → a ≡ old ++ (tag ∷ (name ++ 0 ∷ [])) → b ≡ a ++ four_zeros
    → length b ≡ length old + length name + 6
grown old a b tag name p q =
    omega (
      arith,
      ap length p,
      ap length q,
      length-append old (tag ∷ (name ++ 0 ∷ [])),
      length-append name (0 ∷ []),
      length-append a four_zeros,
    )

-- a document, or an array, under a name, once its length is put in
pub record Nested (old c new : List ℕ) (tag : ℕ) (name : List ℕ) (is : Items) : Type 0 where
  pub put : new ≡ old ++ items_bytes (item name (node tag is) no_items)
  pub size : length new ≡ length c + 1

pub nested : (old a b c new : List ℕ) (tag : ℕ) (name : List ℕ) (is : Items) (at : ℕ) → length a ≡ at
    → a ≡ old ++ (tag ∷ (name ++ 0 ∷ [])) → b ≡ a ++ four_zeros → c ≡ b ++ items_bytes is
    → ((front elements : List ℕ) → length front ≡ at → c ≡ front ++ (0 ∷ (0 ∷ (0 ∷ (0 ∷ elements))))
    → new ≡ front ++ framed elements)
    → Nested old c new tag name is
nested old a b c new tag name is at here p q r closed =
    let bytes = items_bytes is in
    let whole : c ≡ a ++ (0 ∷ (0 ∷ (0 ∷ (0 ∷ bytes)))) =
    r ∙ ap (λ (x : List ℕ). x ++ bytes) q ∙ append_assoc a four_zeros bytes in
    let made : new ≡ a ++ framed bytes = closed a bytes here whole in
    let head = tag ∷ (name ++ 0 ∷ []) in
    let same : framed bytes ≡ framed bytes ++ [] = sym (append-nil (framed bytes)) in
    record {
      put = made ∙ ap (λ (x : List ℕ). x ++ framed bytes) p ∙ append_assoc old head (framed bytes)
          ∙ ap (λ (x : List ℕ). old ++ x) (ap (λ (x : List ℕ). tag ∷ x) (append_assoc name (0 ∷ []) (framed bytes)))
          ∙ ap (λ (x : List ℕ). old ++ (tag ∷ (name ++ (0 ∷ x)))) same;
      size = omega (
        arith,
        ap length made,
        ap length whole,
        length-append a (framed bytes),
        length-append bytes (0 ∷ []),
        length-append a (0 ∷ (0 ∷ (0 ∷ (0 ∷ bytes)))),
      );
    }

-- a document of these elements, once its length is put in
pub whole : (a b new : List ℕ) (is : Items) → a ≡ four_zeros → b ≡ a ++ items_bytes is
    → ((front elements : List ℕ) → length front ≡ 0 → b ≡ front ++ (0 ∷ (0 ∷ (0 ∷ (0 ∷ elements))))
    → new ≡ front ++ framed elements)
    → new ≡ doc_bytes is
whole a b new is p q closed = closed [] (items_bytes is) refl (q ∙ ap (λ (x : List ℕ). x ++ items_bytes is) p)

-- one element, and those behind it
pub then : (old a b : List ℕ) (name : List ℕ) (t : Tree) (is : Items) → a ≡ old ++ items_bytes (item name t no_items)
    → b ≡ a ++ items_bytes is
    → b ≡ old ++ items_bytes (item name t is)
then old a b name t is p q = rw (q, p) (simp append_assoc)
