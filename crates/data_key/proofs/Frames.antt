-- A document whose length is put in last.
use Rattle.std.proofs.Common.{◌≡◌, ℕ, List, ◌++◌, append_assoc}
use Rattle.bson_tree.specs.Tree.{Tree, Items, no_items, item}
use Rattle.bson_tree.specs.Spelling.{items_bytes}

-- one element, and those behind it
pub one_item : (name : List ℕ) (t : Tree) (is : Items)
    → items_bytes (item name t is) ≡ items_bytes (item name t no_items) ++ items_bytes is
one_item name t is = simp append_assoc

-- four parts, each behind the one before
pub four : (old a b c d w x y z : List ℕ) → a ≡ old ++ w → b ≡ a ++ x → c ≡ b ++ y → d ≡ c ++ z
    → d ≡ old ++ (w ++ (x ++ (y ++ z)))
four old a b c d w x y z p q r s = rw (s, r, q, p) (simp append_assoc)
