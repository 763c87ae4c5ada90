-- How the logic stores a tree: as a list of words, the outer word first, read back from the end.
use Rattle.std.specs.Prelude.{◌≡◌, ℕ, List, [], ◌∷◌, ◌==◌, cond, refl}
use Rattle.std.specs.Coded.{Coded, code_by, coded_list, coded_ℕ}
use Rattle.std.proofs.Common.{ap, ◌∙◌}
use Rattle.bson_tree.specs.Tree.{Tree, Items, leaf, node, no_items, item}

-- what was read so far, the newest first
pub record Stack : Type 0 where
  pub trees : List Tree
  pub lists : List Items

-- one more tree was read
abbrev pub push_tree : Tree → Stack → Stack
push_tree t s = record { trees = t ∷ s.trees; lists = s.lists }

-- one more list of elements was read
abbrev pub push_items : Items → Stack → Stack
push_items is s = record { trees = s.trees; lists = is ∷ s.lists }

-- the list that was read last; an empty one, where none was
abbrev pub first_list : List Items → Items
first_list [] = no_items
first_list (is ∷ rest) = is

-- the tree that was read last; an empty leaf, where none was
abbrev pub first_tree : List Tree → Tree
first_tree [] = leaf 0 []
first_tree (t ∷ rest) = t

-- what was read before the last
abbrev pub rest_of : {A : Type 0} → List A → List A
rest_of [] = []
rest_of (x ∷ rest) = rest

-- the type of the value that a word begins with, or 0
abbrev pub first_byte : List ℕ → ℕ
first_byte [] = 0
first_byte (b ∷ rest) = b

-- the newest list becomes a node of this type
abbrev pub close_node : ℕ → Stack → Stack
close_node tag s = record { trees = node tag (first_list s.lists) ∷ s.trees; lists = rest_of s.lists }

-- the newest tree is put before the newest list
abbrev pub close_item : List ℕ → Stack → Stack
close_item name s = record {
  trees = rest_of s.trees;
  lists = item name (first_tree s.trees) (first_list s.lists) ∷ rest_of s.lists;
}

-- the words of a tree and of a list, before other words
abbrev mutual
  pub put_tree : Tree → List (List ℕ) → List (List ℕ)
  put_tree (leaf tag bytes) words = (0 ∷ (tag ∷ bytes)) ∷ words
  put_tree (node tag is) words = (1 ∷ (tag ∷ [])) ∷ put_items is words

  pub put_items : Items → List (List ℕ) → List (List ℕ)
  put_items no_items words = (2 ∷ []) ∷ words
  put_items (item name t is) words = (3 ∷ name) ∷ put_tree t (put_items is words)

-- a word, read: 0 for a leaf, 1 for a document or an array, 2 for the end of a list, and 3 for an element
abbrev pub take_word : List ℕ → Stack → Stack
take_word [] s = s
take_word (kind ∷ word) s =
    cond (kind == 0) (push_tree (leaf (first_byte word) (rest_of word)) s)
    (cond (kind == 1) (close_node (first_byte word) s)
    (cond (kind == 2) (push_items no_items s) (close_item word s)))

-- words, read from the end
abbrev pub take_words : List (List ℕ) → Stack
take_words [] = record { trees = []; lists = [] }
take_words (word ∷ words) = take_word word (take_words words)

-- reading gives back what was put
mutual
  pub tree_back : (t : Tree) (words : List (List ℕ)) → take_words (put_tree t words) ≡ push_tree t (take_words words)
  tree_back (leaf tag bytes) words = refl
  tree_back (node tag is) words = ap (close_node tag) (items_back is words)

  pub items_back : (is : Items) (words : List (List ℕ))
      → take_words (put_items is words) ≡ push_items is (take_words words)
  items_back no_items words = refl
  items_back (item name t is) words =
      ap (close_item name) (tree_back t (put_items is words) ∙ ap (push_tree t) (items_back is words))

-- the list that words are read as
abbrev pub read_items : List (List ℕ) → Items
read_items words = first_list (take_words words).lists

pub read_items-put_items : (is : Items) → read_items (put_items is []) ≡ is
read_items-put_items is = ap (λ (s : Stack). first_list s.lists) (items_back is [])

-- lists of elements are stored as words, which are read as the list they were made from
abbrev pub coded_items : Coded Items
coded_items = code_by (List (List ℕ)) (coded_list (coded_list coded_ℕ))
    (λ is. put_items is []) read_items read_items-put_items
