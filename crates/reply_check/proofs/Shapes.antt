-- Where nothing of a reply is misshapen, each name that is read stands at most once and has its type, and back.
use Rattle.std.proofs.Common.{◌≡◌, ◌∙◌, ◌⊎◌, inl, inr, ℕ, ◌+◌, Bool, true, false, not, ◌||◌, cond, List, [], ◌∷◌, ◌++◌}
use Rattle.std.proofs.Common.{length, Option, Some, None, refl, sym, ap, ap₂, subst}
use Rattle.std.proofs.lemmas.Bool.Decides.{Decides-eqb}
use Rattle.std.proofs.lemmas.Slice.Eq.{bytes_eq-Decides}
use Rattle.std.specs.Prelude.{◌==◌, bytes_eq, codes}
use Rattle.bson_codec.specs.Borrowed.{Elem}
use Rattle.bson_tree.specs.Spelling.{value_bytes}
use Rattle.bson_tree.specs.Tree.{Tree, Items, no_items, item, tag_of}
use Rattle.encrypt_schema.specs.Language.Names.{named, is_among}
use Rattle.reply_check.specs.Right.{values_of}
use Rattle.reply_check.specs.Wrong.{field, first_misshapen, is_misshapen}
use Rattle.reply_check.specs.Wrong.{type_read}
use Rattle.reply_check.proofs.Trees.{one_test}

-- ---- names

is_word : (name word : List ℕ) → named name word ≡ true → name ≡ word
unfolding named
is_word name word h = (bytes_eq-Decides name word).0 h

of_word : (word : List ℕ) → named word word ≡ true
unfolding named
of_word word = (bytes_eq-Decides word word).1 refl

turned : (name word : List ℕ) → named name word ≡ named word name
unfolding named
turned name word =
    one_test (bytes_eq name word) (bytes_eq word name)
    (λ h. (bytes_eq-Decides word name).1 (sym ((bytes_eq-Decides name word).0 h)))
    (λ h. (bytes_eq-Decides name word).1 (sym ((bytes_eq-Decides word name).0 h)))

or_last : (b : Bool) → (b || false) ≡ b
or_last true = refl
or_last false = refl

or_behind : (a b c : Bool) → (a || (b || c)) ≡ ((a || b) || c)
or_behind true b c = refl
or_behind false b c = refl

either : (a b : Bool) → (a || b) ≡ false → (a ≡ false) × (b ≡ false)
either true b e = cc
either false b e = (refl, e)

not_false : (b : Bool) → not b ≡ false → b ≡ true
not_false true e = refl
not_false false e = cc

apart_by : (b : Bool) → b ≡ true → b ≡ false → ⊥
apart_by true p q = cc
apart_by false p q = cc

among_next : (word name : List ℕ) (names : List (List ℕ))
    → is_among word (names ++ name ∷ []) ≡ (is_among word names || named word name)
among_next word name [] = or_last (named word name)
among_next word name (other ∷ names) =
    ap (λ (b : Bool). named word other || b) (among_next word name names)
    ∙ or_behind (named word other) (is_among word names) (named word name)

-- ---- where nothing is misshapen, a word that is read stands at most once, and has its type

-- the values of a word, by the element that is found
abbrev pub Found : ℕ → List Tree → Option Elem → Type 0
Found tag ts None = ts ≡ []
Found tag ts (Some e) = (ts ≡ e.tree ∷ []) × (tag_of e.tree ≡ tag)

pub record Once (tag : ℕ) (word : List ℕ) (elder : List (List ℕ)) (at : ℕ) (is : Items) : Type 0 where
  pub no_more : is_among word elder ≡ true → values_of word is ≡ []
  pub found : is_among word elder ≡ false → Found tag (values_of word is) (field word at is)

no_some : (b : Bool) (at : ℕ) (o : Option ℕ) → cond b (Some at) o ≡ None → (b ≡ false) × (o ≡ None)
no_some true at o e = cc
no_some false at o e = (refl, e)

-- the element is of this word
once_here : (tag : ℕ) (word : List ℕ) (elder : List (List ℕ)) (at : ℕ) (name : List ℕ) (t : Tree) (is : Items)
    → type_read word ≡ Some tag → named name word ≡ true → is_misshapen elder name t ≡ false
    → Once tag word (elder ++ name ∷ []) (at + (2 + length name) + length (value_bytes t)) is
    → Once tag word elder at (item name t is)
once_here tag word elder at name t is read on shaped rest =
    let same : name ≡ word = is_word name word on in
    let tests : (not (tag_of t == tag) || is_among word elder) ≡ false =
    rw read at (subst (λ (n : List ℕ). is_misshapen elder n t ≡ false) same shaped) in
    let both = either (not (tag_of t == tag)) (is_among word elder) tests in
    let again : is_among word (elder ++ name ∷ []) ≡ true =
    among_next word name elder
    ∙ ap₂ (λ (a b : Bool). a || b) both.1 (sym (turned name word) ∙ on) in
    let one : values_of word (item name t is) ≡ t ∷ [] =
    ap (λ (b : Bool). cond b (t ∷ values_of word is) (values_of word is)) on
    ∙ ap (λ (ts : List Tree). t ∷ ts) (rest.no_more again) in
    record {
      no_more = λ h. absurd (apart_by (is_among word elder) h both.1);
      found = λ h. rw on (
        rw on at one,
        (Decides-eqb (tag_of t) tag).0 (not_false (tag_of t == tag) both.0),
      );
    }

-- it is of another one
once_there : (tag : ℕ) (word : List ℕ) (elder : List (List ℕ)) (at : ℕ) (name : List ℕ) (t : Tree) (is : Items)
    → named name word ≡ false
    → Once tag word (elder ++ name ∷ []) (at + (2 + length name) + length (value_bytes t)) is
    → Once tag word elder at (item name t is)
once_there tag word elder at name t is off rest =
    let same : is_among word (elder ++ name ∷ []) ≡ is_among word elder =
    among_next word name elder
    ∙ ap (λ (b : Bool). is_among word elder || b) (sym (turned name word) ∙ off)
    ∙ or_last (is_among word elder) in
    record {
      no_more = λ h. rw off (rest.no_more (same ∙ h));
      found = λ h. rw off (rest.found (same ∙ h));
    }

once_by : (b : Bool) (tag : ℕ) (word : List ℕ) (elder : List (List ℕ)) (at : ℕ) (name : List ℕ) (t : Tree) (is : Items)
    → named name word ≡ b → type_read word ≡ Some tag → is_misshapen elder name t ≡ false
    → Once tag word (elder ++ name ∷ []) (at + (2 + length name) + length (value_bytes t)) is
    → Once tag word elder at (item name t is)
once_by true tag word elder at name t is on read shaped rest = once_here tag word elder at name t is read on shaped rest
once_by false tag word elder at name t is off read shaped rest = once_there tag word elder at name t is off rest

pub once : (tag : ℕ) (word : List ℕ) → type_read word ≡ Some tag → (elder : List (List ℕ)) (at : ℕ) (is : Items)
    → first_misshapen elder at is ≡ None → Once tag word elder at is
once tag word read elder at no_items e = record { no_more = λ h. refl; found = λ h. refl }
once tag word read elder at (item name t is) e =
    let parts = no_some (is_misshapen elder name t) (at + (2 + length name)) _ e in
    once_by (named name word) tag word elder at name t is refl read parts.0
    (once tag word read (elder ++ name ∷ []) (at + (2 + length name) + length (value_bytes t)) is parts.1)

-- ---- where each word stands once with its type, nothing is misshapen

-- the values of a word: none, or one of its type that isn't behind another one
abbrev Fine : ℕ → List Tree → Bool → Type 0
Fine tag ts among = (ts ≡ []) ⊎ ((among ≡ false) × ((t : Tree) × (ts ≡ t ∷ []) × (tag_of t ≡ tag)))

AreFine : List (List ℕ) → Items → Type 0
AreFine elder is =
    (word : List ℕ) (tag : ℕ) → type_read word ≡ Some tag → Fine tag (values_of word is) (is_among word elder)

pub head_is : (t u : Tree) (ts us : List Tree) → t ∷ ts ≡ u ∷ us → (t ≡ u) × (ts ≡ us)
head_is t u ts us e = (cc, cc)

shaped_by : (read : Option ℕ) (elder : List (List ℕ)) (name : List ℕ) (t : Tree) (ts : List Tree)
    → type_read name ≡ read
    → ((tag : ℕ) → read ≡ Some tag → Fine tag (t ∷ ts) (is_among name elder))
    → is_misshapen elder name t ≡ false
shaped_by None elder name t ts e h = rw e refl
shaped_by (Some tag) elder name t ts e h = elim (h tag refl) [
  | inl none ↦ absurd cc
  | inr one ↦
      let on : (tag_of t == tag) ≡ true =
      (Decides-eqb (tag_of t) tag).1 (ap tag_of (head_is t one.1.0 ts [] one.1.1).0 ∙ one.1.2) in
      rw (e, on, one.0) refl
]

fine_by : (b : Bool) (elder : List (List ℕ)) (name : List ℕ) (t : Tree) (is : Items) (word : List ℕ) (tag : ℕ)
    → named name word ≡ b → Fine tag (cond b (t ∷ values_of word is) (values_of word is)) (is_among word elder)
    → Fine tag (values_of word is) (is_among word (elder ++ name ∷ []))
fine_by true elder name t is word tag on h = elim h [
  | inl none ↦ absurd cc
  | inr one ↦ inl (head_is t one.1.0 (values_of word is) [] one.1.1).1
]
fine_by false elder name t is word tag off h =
    let same : is_among word elder ≡ is_among word (elder ++ name ∷ []) =
    sym (or_last (is_among word elder))
    ∙ sym (ap (λ (b : Bool). is_among word elder || b) (sym (turned name word) ∙ off))
    ∙ sym (among_next word name elder) in
    subst (λ (b : Bool). Fine tag (values_of word is) b) same h

all_shaped : (elder : List (List ℕ)) (at : ℕ) (is : Items) → AreFine elder is → first_misshapen elder at is ≡ None
unfolding AreFine
all_shaped elder at no_items h = refl
all_shaped elder at (item name t is) h =
    let own : (tag : ℕ) → type_read name ≡ Some tag → Fine tag (t ∷ values_of name is) (is_among name elder) =
    λ tag read. rw (of_word name) at (h name tag read) in
    let shaped : is_misshapen elder name t ≡ false =
    shaped_by (type_read name) elder name t (values_of name is) refl own in
    rw shaped (all_shaped (elder ++ name ∷ []) (at + (2 + length name) + length (value_bytes t)) is
    (λ word tag read. fine_by (named name word) elder name t is word tag refl (h word tag read)))

-- ---- the words of a reply

pub first_word : type_read (codes "hasEncryptionPlaceholders") ≡ Some 8
unfolding type_read named
first_word = refl

pub second_word : type_read (codes "schemaRequiresEncryption") ≡ Some 8
unfolding type_read named
second_word = refl

pub result_word : type_read (codes "result") ≡ Some 3
unfolding type_read named
result_word = refl

-- a reply whose words stand once has no misshapen element
module _ (r : Items) (a b c : Tree)
    (p : values_of (codes "hasEncryptionPlaceholders") r ≡ a ∷ []) (pt : tag_of a ≡ 8)
    (q : values_of (codes "schemaRequiresEncryption") r ≡ b ∷ []) (qt : tag_of b ≡ 8)
    (s : values_of (codes "result") r ≡ c ∷ []) (st : tag_of c ≡ 3) where
  some_is : (n m : ℕ) → Some n ≡ Some m → n ≡ m
  some_is n m e = cc

  one_value : (word w : List ℕ) (t : Tree) (n tag : ℕ) → word ≡ w → values_of w r ≡ t ∷ [] → tag_of t ≡ n
      → Some n ≡ Some tag → Fine tag (values_of word r) false
  one_value word w t n tag same is has e =
      inr (refl, (t, ap (λ (x : List ℕ). values_of x r) same ∙ is, has ∙ some_is n tag e))

  fine_word : (x y z : Bool) (word : List ℕ) (tag : ℕ)
      → named word (codes "hasEncryptionPlaceholders") ≡ x → named word (codes "schemaRequiresEncryption") ≡ y
      → named word (codes "result") ≡ z
      → cond x (Some 8) (cond y (Some 8) (cond z (Some 3) None)) ≡ Some tag
      → Fine tag (values_of word r) false
  fine_word true y z word tag h i j e =
      one_value word (codes "hasEncryptionPlaceholders") a 8 tag (is_word word _ h) p pt e
  fine_word false true z word tag h i j e =
      one_value word (codes "schemaRequiresEncryption") b 8 tag (is_word word _ i) q qt e
  fine_word false false true word tag h i j e = one_value word (codes "result") c 3 tag (is_word word _ j) s st e
  fine_word false false false word tag h i j e = absurd cc

  pub none_misshapen : (at : ℕ) → first_misshapen [] at r ≡ None
  unfolding AreFine type_read
  none_misshapen at =
      all_shaped [] at r
      (λ word tag read. fine_word (named word (codes "hasEncryptionPlaceholders"))
      (named word (codes "schemaRequiresEncryption")) (named word (codes "result")) word tag refl refl refl read)
