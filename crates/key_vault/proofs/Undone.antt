-- What is put of a key can be taken back: then all numbers are as before.
use Rattle.std.proofs.Common.{◌≡◌, ◌∙◌, ℕ, ◌+◌, ◌<◌, Bool, true, false, cond, ◌||◌, List, [], ◌∷◌, length}
use Rattle.std.proofs.Common.{zero, suc, take, ◌++◌, Option, Some, None, IfSome, get_or, bytes_eq, refl, sym, ap}
use Rattle.std.proofs.Common.{subst, arith}
use Rattle.std.proofs.lemmas.Bool.{false≢true, lt-ltb}
use Rattle.std.proofs.lemmas.List.Folds.{list_any_at}
use Rattle.std.specs.List.{list_any}
use Rattle.std.specs.Prelude.{◌==◌}
use Rattle.bson_tree.specs.NameNumbers.{hash_of, number_of_name}
use Rattle.data_key.specs.declared.key_doc.KeyDoc.{KeyDoc}
use Rattle.key_vault.specs.declared.numbers.Numbers.{Numbers}
use Rattle.key_vault.specs.declared.place.Place.{Place}
use Rattle.key_vault.specs.Keys.{place_from}
use Rattle.key_vault.specs.Numbers.{AreOf, first_of, number_of, or_first}
use Rattle.key_vault.specs.Undoing.{ChangesOnly, TakesBack, first_back, has_hash, has_text, number_back, number_below}
use Rattle.key_vault.specs.Undoing.{place_below}

-- one change after another
pub changed_more : {n : ℕ} {texts : List (List ℕ)} {old mid now : Numbers}
    → ChangesOnly n texts old mid → ChangesOnly n texts mid now → ChangesOnly n texts old now
changed_more first next = record {
  firsts = λ hash. next.firsts hash ∙ first.firsts hash;
  others = λ text. next.others text ∙ first.others text;
}

widen_by : {A : Type 0} (b c : Bool) (f : A → A) (x y : A) → (b ≡ false → c ≡ false)
    → cond (c || false) (f y) y ≡ cond (c || false) (f x) x → cond b (f y) y ≡ cond b (f x) x
widen_by true true f x y off e = e
widen_by true false f x y off e = ap f e
widen_by false true f x y off e = absurd (false≢true (sym (off refl)))
widen_by false false f x y off e = e

off_at : (p : List ℕ → Bool) (texts : List (List ℕ)) (i : ℕ) (d : List ℕ) (b : Bool) → i < length texts
    → p (get_or texts i d) ≡ b → list_any p texts ≡ false → b ≡ false
off_at p texts i d true room is none = sym (list_any_at p texts i d room is) ∙ none
off_at p texts i d false room is none = refl

-- a change of one text among these
pub changed_among : (n : ℕ) (texts : List (List ℕ)) (i : ℕ) (d : List ℕ) (old now : Numbers) → i < length texts
    → ChangesOnly n (get_or texts i d ∷ []) old now → ChangesOnly n texts old now
changed_among n texts i d old now room one = record {
  firsts = λ hash. widen_by (has_hash texts hash) (hash_of (get_or texts i d) == hash) (place_below n)
      (first_of old.firsts hash) (first_of now.firsts hash)
      (off_at (λ text. hash_of text == hash) texts i d (hash_of (get_or texts i d) == hash) room refl)
      (one.firsts hash);
  others = λ text. widen_by (has_text texts text) (bytes_eq (get_or texts i d) text) (number_below n)
      (number_of_name old.others text) (number_of_name now.others text)
      (off_at (λ t. bytes_eq t text) texts i d (bytes_eq (get_or texts i d) text) room refl)
      (one.others text);
}

-- one more of these texts
pub changed_next : {n : ℕ} {texts : List (List ℕ)} {old mid : Numbers} (now : Numbers) (i : ℕ) (d text : List ℕ)
    → ChangesOnly n texts old mid → i < length texts → get_or texts i d ≡ text → ChangesOnly n (text ∷ []) mid now
    → ChangesOnly n texts old now
changed_next {n = n} {texts = texts} {mid = mid} now i d text so_far room item one =
    changed_more so_far (changed_among n texts i d mid now room
    (subst (λ (t : List ℕ). ChangesOnly n (t ∷ []) mid now) (sym item) one))

-- what goes
pub gone : {A : Type 0} (c : Bool) (f : Option A → Option A) (before now : Option A)
    → (c ≡ true → f before ≡ None) → now ≡ cond c None before → now ≡ cond c (f before) before
gone true f before now goes is = is ∙ sym (goes refl)
gone false f before now goes is = is

-- in the midst of texts that are taken back: what is left gives what the whole gives
pub record Taking (n : ℕ) (left whole : List (List ℕ)) (old now : Numbers) : Type 0 where
  pub firsts : (hash : ℕ) → first_back n left now hash ≡ first_back n whole old hash
  pub others : (text : List ℕ) → number_back n left now text ≡ number_back n whole old text

-- both maps tell the same
pub record AreSame (old now : Numbers) : Type 0 where
  pub firsts : (hash : ℕ) → first_of now.firsts hash ≡ first_of old.firsts hash
  pub others : (text : List ℕ) → number_of_name now.others text ≡ number_of_name old.others text

all_below : (n : ℕ) (o : Option Place) → IfSome o (λ p. p.key < n) → place_below n o ≡ o
all_below n None below = refl
all_below n (Some place) below = ap (λ (b : Bool). cond b (Some place) None) (lt-ltb place.key n below)

all_numbers_below : (n : ℕ) (o : Option ℕ) → IfSome o (λ m. m < n) → number_below n o ≡ o
all_numbers_below n None below = refl
all_numbers_below n (Some m) below = ap (λ (b : Bool). cond b (Some m) None) (lt-ltb m n below)

alone : {A : Type 0} (b : Bool) (x y : A) → x ≡ y → cond b x y ≡ y
alone true x y e = e
alone false x y e = refl

-- what was put of a key is taken back, so that both maps tell what they told before
pub restored : (n : ℕ) (texts : List (List ℕ)) (old mid now : Numbers)
    → ((hash : ℕ) → IfSome (first_of old.firsts hash) (λ p. p.key < n))
    → ((text : List ℕ) → IfSome (number_of_name old.others text) (λ m. m < n))
    → ChangesOnly n texts old mid → TakesBack n texts mid now → AreSame old now
restored n texts old mid now places numbers only taken = record {
  firsts = λ hash. taken.firsts hash ∙ only.firsts hash
      ∙ alone (has_hash texts hash) _ _ (all_below n (first_of old.firsts hash) (places hash));
  others = λ text. taken.others text ∙ only.others text
      ∙ alone (has_text texts text) _ _ (all_numbers_below n (number_of_name old.others text) (numbers text));
}

-- the same numbers, and the same places
pub same_numbers : (keys : List KeyDoc) (old now : Numbers) → AreSame old now
    → (text : List ℕ) → number_of keys now text ≡ number_of keys old text
same_numbers keys old now same text =
    ap (λ (o : Option ℕ). or_first keys text o (first_of now.firsts (hash_of text))) (same.others text)
    ∙ ap (or_first keys text (number_of_name old.others text)) (same.firsts (hash_of text))

pub same_places : (keys : List KeyDoc) (old now : Numbers) → AreSame old now → AreOf keys old → AreOf keys now
same_places keys old now same are hash =
    subst (λ (o : Option Place). IfSome o (λ p. p.key < length keys)) (sym (same.firsts hash)) (are hash)

placed_by : (b : Bool) (m : ℕ) (o : Option ℕ) (all : ℕ) → m < all → IfSome o (λ k. k < all)
    → IfSome (cond b (Some m) o) (λ k. k < all)
placed_by true m o all here others = here
placed_by false m o all here others = others

placed_below : (test : KeyDoc → Bool) (m : ℕ) (keys : List KeyDoc)
    → IfSome (place_from m test keys) (λ k. k < m + length keys)
placed_below test m [] = tt
placed_below test m (key ∷ keys) =
    let next : m + 1 + length keys ≡ m + length (key ∷ keys) = omega arith in
    placed_by (test key) m (place_from (m + 1) test keys) (m + length (key ∷ keys)) (omega arith)
    (subst (λ (all : ℕ). IfSome (place_from (m + 1) test keys) (λ k. k < all)) next (placed_below test (m + 1) keys))

numbered_by : (keys : List KeyDoc) (text : List ℕ) (o : Option ℕ) (f : Option Place) (placed : Option ℕ)
    → or_first keys text o f ≡ placed → IfSome placed (λ k. k < length keys) → IfSome o (λ k. k < length keys)
numbered_by keys text None f placed is below = tt
numbered_by keys text (Some n) f placed is below =
    subst (λ (o : Option ℕ). IfSome o (λ k. k < length keys)) (sym is) below

-- the numbers of texts are those of keys
pub numbered_below : (keys : List KeyDoc) (old : Numbers) (test : List ℕ → KeyDoc → Bool)
    → ((text : List ℕ) → number_of keys old text ≡ place_from 0 (test text) keys)
    → (text : List ℕ) → IfSome (number_of_name old.others text) (λ m. m < length keys)
numbered_below keys old test known text =
    numbered_by keys text (number_of_name old.others text) (first_of old.firsts (hash_of text))
    (place_from 0 (test text) keys) (known text)
    (subst (λ (all : ℕ). IfSome (place_from 0 (test text) keys) (λ k. k < all)) (omega arith)
    (placed_below (test text) 0 keys))

-- the numbers of texts by a test of keys are kept, and their places
pub record Keeps (keys : List KeyDoc) (test : List ℕ → KeyDoc → Bool) (now : Numbers) : Type 0 where
  pub numbers : (text : List ℕ) → number_of keys now text ≡ place_from 0 (test text) keys
  pub places : AreOf keys now

-- what was put of a key behind these is taken back, so that the numbers are those of the keys before
pub keeps_numbers : (keys : List KeyDoc) (test : List ℕ → KeyDoc → Bool) (n : ℕ) (texts : List (List ℕ))
    (old mid now : Numbers)
    → n ≡ length keys → ((text : List ℕ) → number_of keys old text ≡ place_from 0 (test text) keys) → AreOf keys old
    → ChangesOnly n texts old mid → TakesBack n texts mid now → Keeps keys test now
keeps_numbers keys test n texts old mid now count known are only taken =
    let same = restored (length keys) texts old mid now are (numbered_below keys old test known)
    (subst (λ (m : ℕ). ChangesOnly m texts old mid) count only)
    (subst (λ (m : ℕ). TakesBack m texts mid now) count taken) in
    record {
      numbers = λ text. same_numbers keys old now same text ∙ known text;
      places = same_places keys old now same are;
    }

-- the keys without the last
pub front_is : (keys : List KeyDoc) (key : KeyDoc) (n : ℕ) → n ≡ length keys → take n (keys ++ key ∷ []) ≡ keys
front_is [] key zero e = refl
front_is [] key (suc n) e = absurd (omega (arith, e))
front_is (d ∷ keys) key zero e = absurd (omega (arith, e))
front_is (d ∷ keys) key (suc n) e = ap (λ (ds : List KeyDoc). d ∷ ds) (front_is keys key n (omega (arith, e)))
