-- A few names before an element, at the front of an array.
use Rattle.std.proofs.Common.{◌≡◌, ◌∙◌, ℕ, ◌+◌, ◌<◌, ◌≤◌, Bool, true, false, ◌&&◌, ◌||◌, not, List, [], ◌∷◌, ◌++◌}
use Rattle.std.proofs.Common.{length, take, slice_set, Bor, refl, sym, ap, arith}
use Rattle.std.proofs.lemmas.List.{length-set, take_more_set}
use Rattle.bson_tree.specs.Tree.{Tree, Items, item}
use Rattle.encrypt_schema.specs.Language.Names.{named, is_among}
use Rattle.encrypt_schema.specs.Language.Values.{are_distinct, distinct_behind}
use Rattle.encrypt_schema.specs.Views.Borrowed.{names}
use Rattle.encrypt_schema.specs.Views.Few.{few}

-- the front has the names before, and what is left tells of the whole
pub record Few (words : List (Bor (List ℕ))) (count : ℕ) (left whole : Items) : Type 0 where
  pub before : List (List ℕ)
  pub long : length words ≡ few
  pub room : count ≤ few
  pub known : (name : List ℕ) → is_among name (names (take count words)) ≡ is_among name before
  pub read : distinct_behind before left ≡ are_distinct whole

or_swap : (a b c : Bool) → (a || (b || c)) ≡ (b || (a || c))
or_swap true true c = refl
or_swap true false c = refl
or_swap false true c = refl
or_swap false false c = refl

among_push : (name : List ℕ) (words : List (Bor (List ℕ))) (word : Bor (List ℕ))
    → is_among name (names (words ++ word ∷ [])) ≡ (named name word.now || is_among name (names words))
among_push name [] word = refl
among_push name (w ∷ words) word =
    ap (λ (b : Bool). named name w.now || b) (among_push name words word)
    ∙ or_swap (named name w.now) (named name word.now) (is_among name (names words))

-- what a name tells of the whole, by whether it stands before
pub told : (before : List (List ℕ)) (name : List ℕ) (t : Tree) (here left : Items) (b : Bool) → here ≡ item name t left
    → is_among name before ≡ b
    → distinct_behind before here ≡ (not b && distinct_behind (name ∷ before) left)
told before name t here left b step is =
    ap (distinct_behind before) step
    ∙ ap (λ (x : Bool). not x && distinct_behind (name ∷ before) left) is

-- a new name stands behind the others
pub one_more : (words : List (Bor (List ℕ))) (count : ℕ) (word : Bor (List ℕ)) (t : Tree) (here left whole : Items)
    → Few words count here whole → here ≡ item word.now t left
    → is_among word.now (names (take count words)) ≡ false → count < few
    → Few (slice_set words count word) (count + 1) left whole
one_more words count word t here left whole f step new room =
    let long = f.long in
    let inside : count < length words = omega (arith, long, room) in
    record {
      before = word.now ∷ f.before;
      long = length-set words count word ∙ f.long;
      room = omega (arith, room);
      known = λ name. ap (λ (ws : List (Bor (List ℕ))). is_among name (names ws))
          (take_more_set words count word inside)
          ∙ among_push name (take count words) word
          ∙ ap (λ (b : Bool). named name word.now || b) (f.known name);
      read = sym (told f.before word.now t here left false step (sym (f.known word.now) ∙ new)) ∙ f.read;
    }
