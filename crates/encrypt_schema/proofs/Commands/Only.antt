-- The only element of a name among elements, by the first ones and the others.
use Rattle.std.proofs.Common.{◌≡◌, ℕ, ◌+◌, Bool, true, false, cond, ◌||◌, List, length, Option, Some, None, refl, ap}
use Rattle.bson_tree.specs.Tree.{Tree, Items, no_items, item}
use Rattle.bson_tree.specs.Spelling.{value_bytes}
use Rattle.bson_codec.specs.Borrowed.{Elem}
use Rattle.encrypt_schema.specs.Language.Names.{named, is_among}
use Rattle.encrypt_schema.specs.Language.Values.{names_of}
use Rattle.encrypt_schema.specs.Commands.Pointers.{only}

-- the only element of a name, where this one was found before elements that begin at `at`
abbrev pub left : Option Elem → List ℕ → ℕ → Items → Option Elem
left None word at is = only word at is
left (Some e) word at is = cond (is_among word (names_of is)) None (Some e)

-- an element of another name changes nothing
pub left_other : (o : Option Elem) (word : List ℕ) (at : ℕ) (name : List ℕ) (t : Tree) (is : Items)
    → named word name ≡ false
    → left o word at (item name t is) ≡ left o word (at + (2 + length name) + length (value_bytes t)) is
left_other None word at name t is h =
    ap (λ (b : Bool). cond b (cond (is_among word (names_of is)) None (Some (record {
      name = name;
      tree = t;
      start = at + (2 + length name);
    }))) (only word (at + (2 + length name) + length (value_bytes t)) is)) h
left_other (Some e) word at name t is h =
    ap (λ (b : Bool). cond (b || is_among word (names_of is)) None (Some e)) h

-- one of the name is the only one, unless there is another
pub left_first : (word : List ℕ) (at : ℕ) (name : List ℕ) (t : Tree) (is : Items) → named word name ≡ true
    → only word at (item name t is)
    ≡ left (Some (record { name = name; tree = t; start = at + (2 + length name) })) word
    (at + (2 + length name) + length (value_bytes t)) is
left_first word at name t is h =
    ap (λ (b : Bool). cond b (cond (is_among word (names_of is)) None (Some (record {
      name = name;
      tree = t;
      start = at + (2 + length name);
    }))) (only word (at + (2 + length name) + length (value_bytes t)) is)) h

-- a second one is too many
pub left_second : (e : Elem) (word : List ℕ) (at : ℕ) (name : List ℕ) (t : Tree) (is : Items)
    → named word name ≡ true → left (Some e) word at (item name t is) ≡ None
left_second e word at name t is h =
    ap (λ (b : Bool). cond (b || is_among word (names_of is)) None (Some e)) h

pub left_end : (o : Option Elem) (word : List ℕ) (at : ℕ) → left o word at no_items ≡ o
left_end None word at = refl
left_end (Some e) word at = refl

pub ruleset left_is = (left_other, left_first, left_second, left_end)
