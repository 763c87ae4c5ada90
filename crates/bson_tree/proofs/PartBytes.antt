-- What is spelled of bytes has parts that are bytes.
use Rattle.std.proofs.Common.{ℕ, ◌<◌, List, ◌++◌, length, refl, subst}
use Rattle.std.specs.List.{All}
use Rattle.std.proofs.lemmas.List.{take_at, drop_at}
use Rattle.std.proofs.lemmas.List.Elements.{All-take, All-drop, All-tail}
use Rattle.bson_tree.specs.Tree.{Tree, Items, item, tag_of}
use Rattle.bson_tree.specs.Spelling.{value_bytes, items_bytes}

-- each of these is a byte
abbrev pub Bytes : List ℕ → Type 0
Bytes bs = All (λ b. b < 256) bs

pub front_of : (xs ys : List ℕ) → Bytes (xs ++ ys) → Bytes xs
front_of xs ys h = subst Bytes (take_at xs ys (length xs) refl) (All-take (λ b. b < 256) (length xs) (xs ++ ys) h)

pub back_of : (xs ys : List ℕ) → Bytes (xs ++ ys) → Bytes ys
back_of xs ys h = subst Bytes (drop_at xs ys (length xs) refl) (All-drop (λ b. b < 256) (length xs) (xs ++ ys) h)

pub value_of : (name : List ℕ) (t : Tree) (is : Items) → Bytes (items_bytes (item name t is)) → Bytes (value_bytes t)
value_of name t is h =
    front_of (value_bytes t) (items_bytes is) (All-tail (λ b. b < 256) 0 _
    (back_of name _ (All-tail (λ b. b < 256) (tag_of t) _ h)))

pub others_of : (name : List ℕ) (t : Tree) (is : Items) → Bytes (items_bytes (item name t is)) → Bytes (items_bytes is)
others_of name t is h =
    back_of (value_bytes t) (items_bytes is) (All-tail (λ b. b < 256) 0 _
    (back_of name _ (All-tail (λ b. b < 256) (tag_of t) _ h)))
