-- Pieces of bytes taken off the front, one after the other.
use Rattle.std.proofs.Common.{◌≡◌, ◌∙◌, ℕ, ◌+◌, Bool, true, false, ◌||◌, List}
use Rattle.std.proofs.Common.{[], ◌∷◌, ◌++◌, length, Option, Some, None}
use Rattle.std.proofs.Common.{Bor, MatchOption, refl, sym, ap, arith, append_assoc, append-nil, length-append}
use Rattle.std.proofs.lemmas.List.{append_cancel_left}
use Rattle.std.proofs.lemmas.Slice.Eq.{bytes_eq-Decides}
use Rattle.std.specs.Prelude.{bytes_eq, codes}
use Rattle.std.specs.Int.{to_le_bytes, w32}
use Rattle.std.specs.List.{list_any}
use Rattle.bson_tree.specs.Tree.{Tree, leaf, no_items, item}
use Rattle.bson_tree.specs.Spelling.{value_bytes, items_bytes, doc_bytes}
use Rattle.bson_tree.proofs.Sizes.{element_size}
use Rattle.encrypt_schema.specs.declared.schema.policy.Algorithm.{Algorithm}
use Rattle.payload6.specs.Payload.{algorithm_number}
use Rattle.payload6.specs.Marking.{key_name, key_value, marking_fields}
use Rattle.payload6.specs.Needs.{Need, Id, Name, need_bytes}
use Rattle.command_marker.proofs.Frames.{one_item}
use Rattle.reply_check.specs.declared.markings.Field.{Field}
use Rattle.reply_check.specs.declared.markings.Field.TheVariants as fields
use Rattle.reply_check.specs.Fields.{field_bytes, key_field}
use Rattle.reply_check.specs.Orders.{orders}
use Rattle.reply_check.proofs.Trees.{one_test}

-- what stands behind a piece, where it stands first
abbrev pub Behind : List ℕ → List ℕ → Option (Bor (List ℕ)) → Type 0
Behind xs a r = MatchOption r ((rest : List ℕ) → xs ≡ a ++ rest → ⊥) (λ x. xs ≡ a ++ x.now)

-- and behind two
abbrev pub BehindBoth : List ℕ → List ℕ → List ℕ → Option (Bor (List ℕ)) → Type 0
BehindBoth xs a b r =
    MatchOption r ((rest : List ℕ) → xs ≡ a ++ (b ++ rest) → ⊥) (λ x. xs ≡ a ++ (b ++ x.now))

pub joined : (xs a b mid : List ℕ) (r : Option (Bor (List ℕ))) → xs ≡ a ++ mid → Behind mid b r → BehindBoth xs a b r
joined xs a b mid None e h = λ rest f. h rest (append_cancel_left a mid (b ++ rest) (sym e ∙ f))
joined xs a b mid (Some x) e h = e ∙ ap (λ (ys : List ℕ). a ++ ys) h

-- the field that names the key
nil_behind : (xs rest : List ℕ) → xs ++ rest ≡ (xs ++ []) ++ rest
nil_behind xs rest = ap (λ (ys : List ℕ). ys ++ rest) (sym (append-nil xs))

text_behind : (size name rest : List ℕ)
    → size ++ (name ++ ((0 ∷ []) ++ rest)) ≡ ((size ++ (name ++ 0 ∷ [])) ++ []) ++ rest
text_behind size name rest =
    ap (λ (xs : List ℕ). size ++ xs) (sym (append_assoc name (0 ∷ []) rest))
    ∙ sym (append_assoc size (name ++ 0 ∷ []) rest)
    ∙ nil_behind (size ++ (name ++ 0 ∷ [])) rest

pub name_piece : (size name rest : List ℕ) → size ≡ to_le_bytes w32 (length name + 1)
    → (2 ∷ 107 ∷ 97 ∷ 0 ∷ []) ++ (size ++ (name ++ ((0 ∷ []) ++ rest))) ≡ key_field (Name name) ++ rest
name_piece size name rest is =
    ap (λ (xs : List ℕ). 2 ∷ 107 ∷ 97 ∷ 0 ∷ xs) (text_behind size name rest)
    ∙ ap (λ (xs : List ℕ). (2 ∷ 107 ∷ 97 ∷ 0 ∷ ((xs ++ (name ++ 0 ∷ [])) ++ [])) ++ rest) is

-- what stands behind the length of a name
pub name_none : (xs size name : List ℕ) → size ≡ to_le_bytes w32 (length name + 1)
    → ((rest : List ℕ) → xs ≡ (2 ∷ 107 ∷ 97 ∷ 0 ∷ []) ++ (size ++ rest) → ⊥)
    → (rest : List ℕ) → xs ≡ key_field (Name name) ++ rest → ⊥
name_none xs size name is h rest e = h (name ++ ((0 ∷ []) ++ rest)) (e ∙ sym (name_piece size name rest is))

pub name_behind : (xs size name text : List ℕ) (r : Option (Bor (List ℕ)))
    → size ≡ to_le_bytes w32 (length name + 1)
    → xs ≡ (2 ∷ 107 ∷ 97 ∷ 0 ∷ []) ++ (size ++ text)
    → BehindBoth text name (0 ∷ []) r → Behind xs (key_field (Name name)) r
name_behind xs size name text None is e h =
    λ rest f. h rest (append_cancel_left (2 ∷ 107 ∷ 97 ∷ 0 ∷ size) text (name ++ ((0 ∷ []) ++ rest))
    (sym e ∙ f ∙ sym (name_piece size name rest is)))
name_behind xs size name text (Some x) is e h =
    e ∙ ap (λ (ys : List ℕ). (2 ∷ 107 ∷ 97 ∷ 0 ∷ []) ++ (size ++ ys)) h ∙ name_piece size name x.now is

-- the name and the value of the field that names the key have seven bytes more than the id or the name
key_parts : (need : Need)
    → length (key_name need) + length (value_bytes (key_value need)) ≡ length (need_bytes need) + 7
key_parts (Id id) = omega arith
key_parts (Name name) = omega (arith, length-append name (0 ∷ []))

-- ---- tests of whole bytes

no_test : (xs a b : List ℕ) (r : Bool) → bytes_eq xs (a ++ b) ≡ r → ((rest : List ℕ) → xs ≡ a ++ rest → ⊥)
    → false ≡ r
no_test xs a b true e h = absurd (h b ((bytes_eq-Decides xs (a ++ b)).0 e))
no_test xs a b false e h = refl

pub stops : (xs a b : List ℕ) → ((rest : List ℕ) → xs ≡ a ++ rest → ⊥) → false ≡ bytes_eq xs (a ++ b)
stops xs a b h = no_test xs a b (bytes_eq xs (a ++ b)) refl h

pub goes : (xs a b rest : List ℕ) → xs ≡ a ++ rest → bytes_eq rest b ≡ bytes_eq xs (a ++ b)
goes xs a b rest e =
    one_test (bytes_eq rest b) (bytes_eq xs (a ++ b))
    (λ h. (bytes_eq-Decides xs (a ++ b)).1 (e ∙ ap (λ (ys : List ℕ). a ++ ys) ((bytes_eq-Decides rest b).0 h)))
    (λ h. (bytes_eq-Decides rest b).1
    (append_cancel_left a rest b (sym e ∙ (bytes_eq-Decides xs (a ++ b)).0 h)))

-- ---- one order of three fields

-- the elements of a document, one by one
three : (a b c : List ℕ) (x y z : Tree)
    → items_bytes (item a x (item b y (item c z no_items))) ++ 0 ∷ []
    ≡ items_bytes (item a x no_items)
    ++ (items_bytes (item b y no_items) ++ (items_bytes (item c z no_items) ++ 0 ∷ []))
three a b c x y z =
    ap (λ (xs : List ℕ). xs ++ 0 ∷ [])
    (one_item a x (item b y (item c z no_items))
    ∙ ap (λ (xs : List ℕ). items_bytes (item a x no_items) ++ xs) (one_item b y (item c z no_items)))
    ∙ append_assoc (items_bytes (item a x no_items))
    (items_bytes (item b y no_items) ++ items_bytes (item c z no_items)) (0 ∷ [])
    ∙ ap (λ (xs : List ℕ). items_bytes (item a x no_items) ++ xs)
    (append_assoc (items_bytes (item b y no_items)) (items_bytes (item c z no_items)) (0 ∷ []))

three_size : (a b c : List ℕ) (x y z : Tree)
    → length (items_bytes (item a x (item b y (item c z no_items))))
    ≡ length a + length b + length c + length (value_bytes x) + length (value_bytes y) + length (value_bytes z) + 6
three_size a b c x y z =
    omega (
      arith,
      element_size a x (item b y (item c z no_items)),
      element_size b y (item c z no_items),
      element_size c z no_items,
    )

-- the contents of a binary, by what stands behind 00 and the document's length
one_order : (contents bytes : List ℕ) (n : ℕ) (a b c : List ℕ) (x y z : Tree)
    → contents ≡ (0 ∷ []) ++ (to_le_bytes w32 n ++ bytes)
    → length a + length b + length c + length (value_bytes x) + length (value_bytes y) + length (value_bytes z) + 11 ≡ n
    → bytes_eq bytes (items_bytes (item a x no_items)
    ++ (items_bytes (item b y no_items) ++ (items_bytes (item c z no_items) ++ 0 ∷ [])))
    ≡ bytes_eq contents (0 ∷ doc_bytes (item a x (item b y (item c z no_items))))
one_order contents bytes n a b c x y z is size =
    let js = item a x (item b y (item c z no_items)) in
    let long : n ≡ length (items_bytes js) + 5 = omega (arith, size, three_size a b c x y z) in
    ap (λ (ys : List ℕ). bytes_eq bytes ys) (sym (three a b c x y z))
    ∙ goes contents (0 ∷ to_le_bytes w32 n) (items_bytes js ++ 0 ∷ []) bytes is
    ∙ ap (λ (k : ℕ). bytes_eq contents (0 ∷ (to_le_bytes w32 k ++ (items_bytes js ++ 0 ∷ [])))) long

-- they are none where something else stands there
one_none : (contents : List ℕ) (n : ℕ) (a b c : List ℕ) (x y z : Tree)
    → ((rest : List ℕ) → contents ≡ (0 ∷ []) ++ (to_le_bytes w32 n ++ rest) → ⊥)
    → length a + length b + length c + length (value_bytes x) + length (value_bytes y) + length (value_bytes z) + 11 ≡ n
    → bytes_eq contents (0 ∷ doc_bytes (item a x (item b y (item c z no_items)))) ≡ false
one_none contents n a b c x y z none size =
    let js = item a x (item b y (item c z no_items)) in
    let long : n ≡ length (items_bytes js) + 5 = omega (arith, size, three_size a b c x y z) in
    ap (λ (k : ℕ). bytes_eq contents (0 ∷ (to_le_bytes w32 k ++ (items_bytes js ++ 0 ∷ [])))) (sym long)
    ∙ sym (stops contents (0 ∷ to_le_bytes w32 n) (items_bytes js ++ 0 ∷ []) none)

-- ---- all orders

unfoldable pub any_six : Bool → Bool → Bool → Bool → Bool → Bool → Bool
any_six a b c d e f = a || (b || (c || (d || (e || (f || false)))))

or_true : (a : Bool) → (a || true) ≡ true
or_true true = refl
or_true false = refl

pub first_of_six : (a b c d e f : Bool) → a ≡ true → true ≡ any_six a b c d e f
unfolding any_six
first_of_six a b c d e f h = rw h refl

pub second_of_six : (a b c d e f : Bool) → b ≡ true → true ≡ any_six a b c d e f
unfolding any_six
second_of_six a b c d e f h = rw h (sym (or_true a))

pub third_of_six : (a b c d e f : Bool) → c ≡ true → true ≡ any_six a b c d e f
unfolding any_six
third_of_six a b c d e f h = rw (h, or_true b) (sym (or_true a))

pub fourth_of_six : (a b c d e f : Bool) → d ≡ true → true ≡ any_six a b c d e f
unfolding any_six
fourth_of_six a b c d e f h = rw (h, or_true c, or_true b) (sym (or_true a))

pub fifth_of_six : (a b c d e f : Bool) → e ≡ true → true ≡ any_six a b c d e f
unfolding any_six
fifth_of_six a b c d e f h = rw (h, or_true d, or_true c, or_true b) (sym (or_true a))

or_none : (a : Bool) → a ≡ (a || false)
or_none true = refl
or_none false = refl

pub last_of_six : (a b c d e f r : Bool) → a ≡ false → b ≡ false → c ≡ false → d ≡ false → e ≡ false → r ≡ f
    → r ≡ any_six a b c d e f
unfolding any_six
last_of_six a b c d e f r p q s t u v = rw (p, q, s, t, u) (v ∙ or_none f)

module _ (algorithm : Algorithm) (need : Need) (t : Tree) (contents bytes : List ℕ)
    (is : contents
    ≡ (0 ∷ []) ++ (to_le_bytes w32 (length (value_bytes t) + length (need_bytes need) + 24) ++ bytes)) where
  -- the fields in this order stand in the contents
  abbrev pub stands : Field → Field → Field → Bool
  stands a b c =
      bytes_eq bytes (field_bytes algorithm need t a
      ++ (field_bytes algorithm need t b ++ (field_bytes algorithm need t c ++ 0 ∷ [])))

  pub somehow :
      any_six (stands fields.Value fields.Algorithm fields.Key) (stands fields.Algorithm fields.Value fields.Key)
      (stands fields.Algorithm fields.Key fields.Value) (stands fields.Value fields.Key fields.Algorithm)
      (stands fields.Key fields.Value fields.Algorithm) (stands fields.Key fields.Algorithm fields.Value)
      ≡ list_any (λ js. bytes_eq contents (0 ∷ doc_bytes js)) (orders (marking_fields algorithm need t))
  unfolding marking_fields any_six
  somehow =
      let v = codes "v" in
      let a = codes "a" in
      let k = key_name need in
      let y = leaf 16 (algorithm_number algorithm ∷ 0 ∷ 0 ∷ 0 ∷ []) in
      let z = key_value need in
      let n = length (value_bytes t) + length (need_bytes need) + 24 in
      let parts = key_parts need in
      let p1 = one_order contents bytes n v a k t y z is (omega (arith, parts)) in
      let p2 = one_order contents bytes n a v k y t z is (omega (arith, parts)) in
      let p3 = one_order contents bytes n a k v y z t is (omega (arith, parts)) in
      let p4 = one_order contents bytes n v k a t z y is (omega (arith, parts)) in
      let p5 = one_order contents bytes n k v a z t y is (omega (arith, parts)) in
      let p6 = one_order contents bytes n k a v z y t is (omega (arith, parts)) in
      rw (p1, p2, p3, p4, p5, p6) refl

-- nor in any order
pub nowhere : (algorithm : Algorithm) (need : Need) (t : Tree) (contents : List ℕ)
    → ((rest : List ℕ) → contents
    ≡ (0 ∷ []) ++ (to_le_bytes w32 (length (value_bytes t) + length (need_bytes need) + 24) ++ rest) → ⊥)
    → false ≡ list_any (λ js. bytes_eq contents (0 ∷ doc_bytes js)) (orders (marking_fields algorithm need t))
unfolding marking_fields
nowhere algorithm need t contents none =
    let v = codes "v" in
    let a = codes "a" in
    let k = key_name need in
    let y = leaf 16 (algorithm_number algorithm ∷ 0 ∷ 0 ∷ 0 ∷ []) in
    let z = key_value need in
    let n = length (value_bytes t) + length (need_bytes need) + 24 in
    let parts = key_parts need in
    let p1 = one_none contents n v a k t y z none (omega (arith, parts)) in
    let p2 = one_none contents n a v k y t z none (omega (arith, parts)) in
    let p3 = one_none contents n a k v y z t none (omega (arith, parts)) in
    let p4 = one_none contents n v k a t z y none (omega (arith, parts)) in
    let p5 = one_none contents n k v a z t y none (omega (arith, parts)) in
    let p6 = one_none contents n k a v z y t none (omega (arith, parts)) in
    rw (p1, p2, p3, p4, p5, p6) refl
