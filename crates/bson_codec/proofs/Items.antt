-- What an element's parts say of its tree.
use Rattle.std.proofs.Common.{◌≡◌, ℕ, ◌-◌, ◌+◌, ◌<◌, ◌^◌, Ok, ◌≤◌, Bool, true, false, cond, List, [], ◌∷◌, ◌++◌, length}
use Rattle.std.proofs.Common.{get_or, take, drop, Option, Some, refl, sym, ap, subst, ◌∙◌, arith}
use Rattle.bson_tree.specs.Tree.{Tree, Items, leaf, node, tag_of}
use Rattle.std.proofs.lemmas.List.{take_at, drop_at, length-append}
use Rattle.bson_tree.specs.Spelling.{value_bytes, items_bytes, doc_bytes}
use Rattle.bson_codec.specs.declared.table.ValueLayout.{ValueLayout}
use Rattle.bson_codec.specs.declared.table.ValueLayout.TheVariants as values
use Rattle.bson_codec.specs.declared.table.RawLayout.TheVariants as raws
use Rattle.bson_codec.specs.Table.{layout_of}
use Rattle.bson_codec.specs.Borrowed.{doc_of, elements_of, is_inner, value_tree, SpellsDoc, SpellsElements, SpellsValue}
use Rattle.bson_codec.specs.Layout.{IsDoc, IsItems, IsValue, IsScope, HasLayout, IsString, IsBinary, string_bytes}
use Rattle.bson_codec.specs.Layout.{binary_bytes, scope_bytes, level_limit}
use Rattle.bson_codec.specs.Reading.{string_at}
use Rattle.bson_codec.proofs.Pieces.{Begins, begins_of}
use Rattle.bson_codec.proofs.Steps.{ok_is}
use Rattle.bson_codec.proofs.Raws.{string_again}
use Rattle.bson_codec.proofs.Elements.{typed}
use Rattle.bson_codec.proofs.Views.{doc_of_spelling}
use Rattle.bson_codec.proofs.Deeper.{inside_is_doc}
use Rattle.bson_codec.proofs.Fronts.{is_document, layout_is, value_tree_is, elements_of_spelling}

type_by : (b : Bool) (tag : ℕ) (bs : List ℕ) → tag_of (cond b (node tag (doc_of bs)) (leaf tag bs)) ≡ tag
type_by true tag bs = refl
type_by false tag bs = refl

pub type_is : (tag : ℕ) (bs : List ℕ) → tag_of (value_tree tag bs) ≡ tag
type_is tag bs = type_by (is_inner tag) tag bs

pub value_is : (tag : ℕ) (bs : List ℕ) → SpellsValue tag bs → value_bytes (value_tree tag bs) ≡ bs
value_is tag bs s =
    let same : value_tree tag bs ≡ s.tree = ap (λ (k : ℕ). value_tree k bs) (sym s.type)
    ∙ ap (value_tree (tag_of s.tree)) s.parts ∙ value_tree_is s.tree s.laid in
    ap value_bytes same ∙ sym s.parts

-- the value of a type that holds no document is raw
pub raw_tree : (tag kind : ℕ) (bs parts : List ℕ) → tag ≡ kind → is_inner kind ≡ false → bs ≡ parts
    → value_tree tag bs ≡ leaf kind parts
raw_tree tag kind bs parts same raw e =
    rw (same, e) (ap (λ (b : Bool). cond b (node kind (doc_of parts)) (leaf kind parts)) raw)

-- ---- documents inside

inside_of_value : (layout : ValueLayout) (t : Tree) → is_document layout ≡ true
    → HasLayout (IsItems (level_limit - 1)) (Some layout) t → SpellsDoc (value_bytes t)
inside_of_value values.Document (leaf tag bytes) e laid = absurd laid
inside_of_value values.Document (node tag is) e laid = record { tree = is; doc = inside_is_doc is laid; parts = refl }
inside_of_value (values.Raw layout) t e laid = absurd cc

pub child_spells : (tag : ℕ) (bs : List ℕ) → SpellsValue tag bs → is_inner tag ≡ true → SpellsDoc bs
child_spells tag bs s inner =
    let layout = typed (IsItems (level_limit - 1)) (layout_of (tag_of s.tree)) s.tree s.laid in
    let laid : HasLayout (IsItems (level_limit - 1)) (Some layout.layout) s.tree =
    subst (λ (o : Option ValueLayout). HasLayout (IsItems (level_limit - 1)) o s.tree) layout.is s.laid in
    let doc : is_document layout.layout ≡ true = layout_is (tag_of s.tree) layout.layout layout.is ∙ ap is_inner s.type
    ∙ inner in
    subst SpellsDoc (sym s.parts) (inside_of_value layout.layout s.tree doc laid)

-- the elements of a document's bytes
doc_elements : (bs : List ℕ) (is : Items) → bs ≡ doc_bytes is → take (length bs - 1 - 4) (drop 4 bs) ≡ items_bytes is
doc_elements bs is e =
    let elements = items_bytes is in
    let tail : drop 4 bs ≡ elements ++ 0 ∷ [] = ap (drop 4) e in
    let size : length elements ≡ length bs - 1 - 4 = omega (arith, ap length e, length-append elements (0 ∷ [])) in
    ap (take (length bs - 1 - 4)) tail ∙ take_at elements (0 ∷ []) (length bs - 1 - 4) size

pub items_are : (bs : List ℕ) → SpellsDoc bs → elements_of (take (length bs - 1 - 4) (drop 4 bs)) ≡ doc_of bs
items_are bs s = elements_of_spelling _ s.tree s.doc.inside (doc_elements bs s.tree s.parts)
    ∙ sym (doc_of_spelling bs s.tree s.doc s.parts)

-- ---- strings and binaries

string_leaf : (t : Tree) → HasLayout (IsItems (level_limit - 1)) (Some (values.Raw raws.Text)) t
    → IsString (value_bytes t)
string_leaf (leaf tag bytes) laid = laid
string_leaf (node tag is) laid = absurd laid

binary_leaf : (t : Tree) → HasLayout (IsItems (level_limit - 1)) (Some (values.Raw raws.Binary)) t
    → IsBinary (value_bytes t)
binary_leaf (leaf tag bytes) laid = laid
binary_leaf (node tag is) laid = absurd laid

row_two : layout_of 2 ≡ Some (values.Raw raws.Text)
unfolding layout_of
row_two = refl

row_five : layout_of 5 ≡ Some (values.Raw raws.Binary)
unfolding layout_of
row_five = refl

pub string_spelled : (bs : List ℕ) → SpellsValue 2 bs → IsString bs
string_spelled bs s =
    let laid = subst (λ (o : Option ValueLayout). HasLayout (IsItems (level_limit - 1)) o s.tree)
    (ap layout_of s.type ∙ row_two) s.laid in
    subst IsString (sym s.parts) (string_leaf s.tree laid)

pub binary_spelled : (bs : List ℕ) → SpellsValue 5 bs → IsBinary bs
binary_spelled bs s =
    let laid = subst (λ (o : Option ValueLayout). HasLayout (IsItems (level_limit - 1)) o s.tree)
    (ap layout_of s.type ∙ row_five) s.laid in
    subst IsBinary (sym s.parts) (binary_leaf s.tree laid)

-- the parts of a string's bytes
pub text_is : (bs : List ℕ) → IsString bs → bs ≡ string_bytes (take (length bs - 5) (drop 4 bs))
text_is bs s =
    let tail : drop 4 bs ≡ s.text ++ 0 ∷ [] = ap (drop 4) s.parts in
    let size : length s.text ≡ length bs - 5 = omega (arith, ap length s.parts, length-append s.text (0 ∷ [])) in
    let text : take (length bs - 5) (drop 4 bs) ≡ s.text =
    ap (take (length bs - 5)) tail ∙ take_at s.text (0 ∷ []) (length bs - 5) size in
    s.parts ∙ ap string_bytes (sym text)

pub string_long : (bs : List ℕ) → IsString bs → 5 ≤ length bs
string_long bs s = omega (arith, ap length s.parts, length-append s.text (0 ∷ []))

-- the parts of a binary's bytes
pub contents_are : (bs : List ℕ) → IsBinary bs → bs ≡ binary_bytes (get_or (drop 4 bs) 0 0) (drop 1 (drop 4 bs))
contents_are bs s =
    let tail : drop 4 bs ≡ s.subtype ∷ s.contents = ap (drop 4) s.parts in
    s.parts ∙ ap (λ (x : List ℕ). binary_bytes (get_or x 0 0) (drop 1 x)) (sym tail)

pub binary_long : (bs : List ℕ) → IsBinary bs → 5 ≤ length bs
binary_long bs s = omega (arith, ap length s.parts)

-- ---- layouts, and code with its scope

pub value_laid : (tag : ℕ) (bs : List ℕ) → SpellsValue tag bs → IsValue (IsItems (level_limit - 1)) (value_tree tag bs)
value_laid tag bs s =
    let same : value_tree tag bs ≡ s.tree = ap (λ (k : ℕ). value_tree k bs) (sym s.type)
    ∙ ap (value_tree (tag_of s.tree)) s.parts ∙ value_tree_is s.tree s.laid in
    subst (IsValue (IsItems (level_limit - 1))) (sym same) s.laid

scope_leaf : (t : Tree) → HasLayout (IsItems (level_limit - 1)) (Some (values.Raw raws.Scope)) t
    → IsScope (IsItems (level_limit - 1)) (value_bytes t)
scope_leaf (leaf tag bytes) laid = laid
scope_leaf (node tag is) laid = absurd laid

row_fifteen : layout_of 15 ≡ Some (values.Raw raws.Scope)
unfolding layout_of
row_fifteen = refl

pub scope_spelled : (bs : List ℕ) → SpellsValue 15 bs → IsScope (IsItems (level_limit - 1)) bs
scope_spelled bs s =
    let laid = subst (λ (o : Option ValueLayout). HasLayout (IsItems (level_limit - 1)) o s.tree)
    (ap layout_of s.type ∙ row_fifteen) s.laid in
    subst (IsScope (IsItems (level_limit - 1))) (sym s.parts) (scope_leaf s.tree laid)

-- the parts of a scope's bytes
pub record ScopeKnown (bs : List ℕ) : Type 0 where
  pub code : List ℕ
  pub scope : Items
  pub long : 4 ≤ length bs
  pub inside : drop 4 bs ≡ string_bytes code ++ doc_bytes scope
  pub width : length (string_bytes code) ≡ length code + 5
  pub read : string_at 0 (drop 4 bs) ≡ Ok (length code + 5)
  pub text : take (length code) (drop 4 (take (length code + 5) (drop 4 bs))) ≡ code
  pub rest : drop (length code + 5) (drop 4 bs) ≡ doc_bytes scope
  pub doc : IsDoc scope
  pub parts : bs ≡ scope_bytes code scope
  pub size : length bs ≡ length code + 9 + length (doc_bytes scope)
  pub small : length bs < 2 ^ 31

pub scope_known : (bs : List ℕ) → SpellsValue 15 bs → ScopeKnown bs
scope_known bs s =
    let k = scope_spelled bs s in
    let code = k.code in
    let doc = doc_bytes k.scope in
    let width : length (string_bytes code) ≡ length code + 5 = omega (arith, length-append code (0 ∷ [])) in
    let inside : drop 4 bs ≡ string_bytes code ++ doc = ap (drop 4) k.parts in
    let sum : length (string_bytes code ++ doc) ≡ length (string_bytes code) + length doc =
    length-append (string_bytes code) doc in
    let size : length bs ≡ length code + 9 + length doc = omega (arith, ap length k.parts, sum, width) in
    let small : length code + 5 < 2 ^ 31 = omega (arith, k.fits, ap length k.parts, size) in
    let begins : Begins (string_bytes code ++ doc) (string_bytes code) (length (string_bytes code)) =
    begins_of (string_bytes code) doc in
    let begins' : Begins (string_bytes code ++ doc) (string_bytes code) (length code + 5) =
    subst (λ (m : ℕ). Begins (string_bytes code ++ doc) (string_bytes code) m) width begins in
    let read : string_at 0 (string_bytes code ++ doc) ≡ Ok (length code + 5) =
    string_again 0 (string_bytes code ++ doc) code (length code + 5) (omega (arith, small)) begins' in
    let front : take (length code + 5) (drop 4 bs) ≡ string_bytes code =
    ap (take (length code + 5)) inside ∙ take_at (string_bytes code) doc (length code + 5) width in
    let ended : drop 4 (string_bytes code) ≡ code ++ 0 ∷ [] = refl in
    record {
      code = code;
      scope = k.scope;
      long = omega (arith, size);
      inside = inside;
      width = width;
      read = ap (string_at 0) inside ∙ read;
      text = ap (λ (x : List ℕ). take (length code) (drop 4 x)) front ∙ take_at code (0 ∷ []) (length code) refl;
      rest = ap (drop (length code + 5)) inside ∙ drop_at (string_bytes code) doc (length code + 5) width;
      doc = inside_is_doc k.scope (record { inside = k.inside; fits = omega (arith, k.fits, ap length k.parts, size) });
      parts = k.parts;
      size = size;
      small = omega (arith, k.fits, ap length k.parts);
    }

-- what was read of a scope's bytes is its parts
pub record ScopeCut (bs : List ℕ) (n : ℕ) : Type 0 where
  pub long : 5 ≤ length (take n (drop 4 bs))
  pub spells : SpellsDoc (drop n (drop 4 bs))
  pub parts : bs ≡ scope_bytes (take (length (take n (drop 4 bs)) - 5) (drop 4 (take n (drop 4 bs))))
      (doc_of (drop n (drop 4 bs)))

scope_cut_at : (bs : List ℕ) (k : ScopeKnown bs) → ScopeCut bs (length k.code + 5)
scope_cut_at bs k =
    let n : ℕ = length k.code + 5 in
    let rest : drop n (drop 4 bs) ≡ doc_bytes k.scope = k.rest in
    let front : take n (drop 4 bs) ≡ string_bytes k.code =
    ap (take n) k.inside ∙ take_at (string_bytes k.code) (doc_bytes k.scope) n k.width in
    let wide : length (take n (drop 4 bs)) ≡ n = ap length front ∙ k.width in
    let less : length (take n (drop 4 bs)) - 5 ≡ length k.code = omega (arith, wide) in
    let doc : doc_of (drop n (drop 4 bs)) ≡ k.scope = doc_of_spelling (drop n (drop 4 bs)) k.scope k.doc rest in
    let text : take (length (take n (drop 4 bs)) - 5) (drop 4 (take n (drop 4 bs))) ≡ k.code =
    ap (λ (m : ℕ). take m (drop 4 (take n (drop 4 bs)))) less ∙ k.text in
    record {
      long = omega (arith, wide);
      spells = record { tree = k.scope; doc = k.doc; parts = rest };
      parts = k.parts ∙ (ap (λ (x : List ℕ). scope_bytes x k.scope) (sym text)
          ∙ ap (λ (x : Items). scope_bytes (take (length (take n (drop 4 bs)) - 5) (drop 4 (take n (drop 4 bs)))) x)
          (sym doc));
    }

pub scope_cut : (bs : List ℕ) (n : ℕ) → SpellsValue 15 bs → string_at 0 (drop 4 bs) ≡ Ok n → ScopeCut bs n
scope_cut bs n s is =
    let k = scope_known bs s in
    let same : length k.code + 5 ≡ n = ok_is (length k.code + 5) n (sym k.read ∙ is) in
    subst (ScopeCut bs) same (scope_cut_at bs k)

-- a value by its type and its bytes
pub ruleset spelled = (type_is, value_is, value_laid, raw_tree)
