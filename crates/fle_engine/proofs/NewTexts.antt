-- The names of a new key, read one by one.
use Rattle.std.proofs.Common.{◌≡◌, ◌∙◌, ℕ, Bool, true, false, cond, List, [], ◌∷◌, ◌++◌, Option, Some, None, Err}
use Rattle.std.proofs.Common.{refl, sym, ap, append_assoc, append-nil, inl, inr}
use Rattle.std.proofs.lemmas.Bool.{cases_Bool}
use Rattle.std.proofs.lemmas.Str.{IsUtf8-from_is_utf8, is_utf8-from_IsUtf8}
use Rattle.std.specs.Prelude.{IsUtf8}
use Rattle.std.specs.Str.{is_utf8}
use Rattle.bson_codec.specs.Values.{text_value}
use Rattle.bson_tree.specs.Tree.{Tree, Items, item, no_items}
use Rattle.fle_engine.specs.NewNames.{TextsAre, accepted_names, and_texts, names_said, new_names, texts_in, utf8_text}
use Rattle.fle_engine.specs.declared.key_stop.KeyStop.{KeyStop}
use Rattle.fle_engine.specs.declared.key_stop.KeyStop.TheVariants as key_stops
use Rattle.fle_words.specs.Words.{are_names}

-- bytes that are UTF-8 are a text, and no others
pub utf8_is : (bytes : List ℕ) → IsUtf8 bytes → utf8_text (Some bytes) ≡ Some bytes
utf8_is bytes is = ap (λ (b : Bool). cond b (Some bytes) None) (is_utf8-from_IsUtf8 bytes is)

pub utf8_isnt : (bytes : List ℕ) → (IsUtf8 bytes → ⊥) → utf8_text (Some bytes) ≡ None
utf8_isnt bytes isnt =
    elim (cases_Bool (is_utf8 bytes)) [
      | inl is ↦ absurd (isnt (IsUtf8-from_is_utf8 bytes is))
      | inr other ↦ ap (λ (b : Bool). cond b (Some bytes) None) other
    ]

-- these texts, then the others
abbrev pub put_before : List (List ℕ) → Option (List (List ℕ)) → Option (List (List ℕ))
put_before xs None = None
put_before xs (Some ys) = Some (xs ++ ys)

pub before_none : (others : Option (List (List ℕ))) → put_before [] others ≡ others
before_none None = refl
before_none (Some ys) = refl

-- one more text goes from those that are left to those before
one_more : (xs : List (List ℕ)) (x : List ℕ) (others : Option (List (List ℕ)))
    → put_before (xs ++ x ∷ []) others ≡ put_before xs (and_texts (Some x) others)
one_more xs x None = refl
one_more xs x (Some ys) = ap (λ (zs : List (List ℕ)). Some zs) (append_assoc xs (x ∷ []) ys)

pub texts_behind : (xs now : List (List ℕ)) (text : List ℕ) (name : List ℕ) (t : Tree) (left rest : Items)
    (whole : Option (List (List ℕ))) → now ≡ xs ++ text ∷ [] → Some text ≡ utf8_text (text_value t)
    → left ≡ item name t rest → put_before xs (texts_in left) ≡ whole → put_before now (texts_in rest) ≡ whole
texts_behind xs now text name t left rest whole put is step before =
    ap (λ (ys : List (List ℕ)). put_before ys (texts_in rest)) put ∙ one_more xs text (texts_in rest)
    ∙ ap (λ (o : Option (List ℕ)). put_before xs (and_texts o (texts_in rest))) is
    ∙ ap (λ (is : Items). put_before xs (texts_in is)) (sym step) ∙ before

-- a value that is none leaves no names
pub no_texts : (xs : List (List ℕ)) (name : List ℕ) (t : Tree) (left rest : Items) (whole : Option (List (List ℕ)))
    → None ≡ utf8_text (text_value t) → left ≡ item name t rest → put_before xs (texts_in left) ≡ whole → whole ≡ None
no_texts xs name t left rest whole isnt step before =
    sym before ∙ ap (λ (is : Items). put_before xs (texts_in is)) step
    ∙ ap (λ (o : Option (List ℕ)). put_before xs (and_texts o (texts_in rest))) (sym isnt)

-- where none is left, all were read
pub all_texts : (xs : List (List ℕ)) (left : Items) (whole : Option (List (List ℕ))) → left ≡ no_items
    → put_before xs (texts_in left) ≡ whole → whole ≡ Some xs
all_texts xs left whole none before =
    sym before ∙ ap (λ (is : Items). put_before xs (texts_in is)) none
    ∙ ap (λ (ys : List (List ℕ)). Some ys) (append-nil xs)

-- ---- whether a new key can have them

pub names_accepted : (d : Items) (names : List (List ℕ)) → names_said d ≡ Some names → are_names names ≡ true
    → new_names d ≡ Some names
unfolding new_names
names_accepted d names said are =
    ap accepted_names said ∙ ap (λ (b : Bool). cond b (Some names) None) are

pub names_refused : (d : Items) (names : List (List ℕ)) → names_said d ≡ Some names → are_names names ≡ false
    → new_names d ≡ None
unfolding new_names
names_refused d names said arent =
    ap accepted_names said ∙ ap (λ (b : Bool). cond b (Some names) None) arent

names_unsaid : (d : Items) → names_said d ≡ None → new_names d ≡ None
unfolding new_names
names_unsaid d unsaid = ap accepted_names unsaid

-- what isn't said isn't accepted
pub names_stopped : (d : Items) (stop : KeyStop) → TextsAre (names_said d) (Err stop)
    → TextsAre (new_names d) (Err stop)
names_stopped d (key_stops.Faulty fault) is = absurd is
names_stopped d key_stops.Damaged is = absurd is
names_stopped d key_stops.Names is = names_unsaid d is
names_stopped d (key_stops.Undrawn wanted) is = absurd is
names_stopped d key_stops.Memory is = tt
