-- The element at the front of bytes that spell elements.
use Rattle.std.proofs.Common.{◌≡◌, ℕ, ◌+◌, ◌-◌, ◌^◌, ◌<◌, Bool, true, false, cond, eqb, List, [], ◌∷◌, ◌++◌, length}
use Rattle.std.proofs.Common.{take, drop, Option, Some, Result, Ok, Err, refl, sym, ap, subst, ◌∙◌, append_assoc, arith}
use Rattle.std.proofs.Common.{inl, inr, ◌⊎◌}
use Rattle.std.specs.Int.{w32, to_le_bytes}
use Rattle.std.proofs.lemmas.Bool.{eqb-true}
use Rattle.std.proofs.lemmas.List.{take_at, drop_at, length-append}
use Rattle.bson_tree.specs.Tree.{Tree, Items, leaf, node, no_items, item, tag_of}
use Rattle.bson_tree.specs.Spelling.{value_bytes, items_bytes, doc_bytes}
use Rattle.bson_codec.specs.declared.fault.BsonFault.{BsonFault}
use Rattle.bson_codec.specs.declared.front.Front.{Front}
use Rattle.bson_codec.specs.declared.table.ValueLayout.{ValueLayout}
use Rattle.bson_codec.specs.declared.table.ValueLayout.TheVariants as values
use Rattle.bson_codec.specs.declared.table.RawLayout.TheVariants as raws
use Rattle.bson_codec.specs.Fault.{◌>>=◌}
use Rattle.bson_codec.specs.Table.{layouts, layout_in, layout_of}
use Rattle.bson_codec.specs.Layout.{IsName, HasLayout, IsValue, IsItems, level_limit, string_bytes}
use Rattle.bson_codec.specs.Reading.{int32_at, cstring_at, bytes_at, type_at, inside_at}
use Rattle.bson_codec.specs.Borrowed.{or_none, doc_of, elements_of, is_inner, value_tree, SpellsElements}
use Rattle.bson_codec.specs.Elements.{stated_width, front_at, IsParted}
use Rattle.bson_codec.proofs.Steps.{made, ok_is, refused}
use Rattle.bson_codec.proofs.Pieces.{Begins, begins_fits, begins_of, begins_first}
use Rattle.bson_codec.proofs.Lengths.{number_again}
use Rattle.bson_tree.proofs.Sizes.{framed_size}
use Rattle.bson_codec.proofs.Names.{name_again, layout_again}
use Rattle.bson_codec.proofs.Raws.{fixed_again, regex_again}
use Rattle.bson_codec.proofs.Elements.{elements_again, typed}
use Rattle.bson_codec.proofs.Documents.{inside_reads}
use Rattle.bson_codec.proofs.Views.{doc_of_spelling}
use Rattle.bson_codec.proofs.Deeper.{inside_is_doc}

-- ---- types with documents inside

-- whether a value of this layout is a document
abbrev pub is_document : ValueLayout → Bool
is_document values.Document = true
is_document (values.Raw layout) = false

same : Bool → Bool → Bool
same true b = b
same false true = false
same false false = true

same_is : (a b : Bool) → same a b ≡ true → a ≡ b
unfolding same
same_is true b e = sym e
same_is false true e = cc
same_is false false e = refl

-- each row of a table has a document exactly where its type is one with documents inside
rows_agree : List (ℕ × ValueLayout) → Bool
rows_agree [] = true
rows_agree (row ∷ rows) = cond (same (is_document row.1) (is_inner row.0)) (rows_agree rows) false

both : (b : Bool) (c : Bool) → cond b c false ≡ true → (b ≡ true) × (c ≡ true)
both true c e = (refl, e)
both false c e = absurd cc

row_here : (tag : ℕ) (row : ℕ × ValueLayout) (rest : Option ValueLayout) (layout : ValueLayout) (b : Bool)
    → eqb tag row.0 ≡ b → same (is_document row.1) (is_inner row.0) ≡ true
    → (rest ≡ Some layout → is_document layout ≡ is_inner tag) → cond b (Some row.1) rest ≡ Some layout
    → is_document layout ≡ is_inner tag
row_here tag row rest layout true t agree others e =
    let here : row.1 ≡ layout = cc in
    let type : tag ≡ row.0 = eqb-true tag row.0 t in
    ap is_document (sym here) ∙ same_is _ _ agree ∙ ap is_inner (sym type)
row_here tag row rest layout false t agree others e = others e

row_found : (tag : ℕ) (rows : List (ℕ × ValueLayout)) (layout : ValueLayout) → rows_agree rows ≡ true
    → layout_in tag rows ≡ Some layout → is_document layout ≡ is_inner tag
unfolding rows_agree
row_found tag [] layout agree e = absurd cc
row_found tag (row ∷ rows) layout agree e =
    row_here tag row (layout_in tag rows) layout (eqb tag row.0) refl (both _ _ agree).0
    (row_found tag rows layout (both _ _ agree).1) e

pub layout_is : (tag : ℕ) (layout : ValueLayout) → layout_of tag ≡ Some layout → is_document layout ≡ is_inner tag
unfolding layout_of rows_agree same
layout_is tag layout e = row_found tag layouts layout refl e

tree_again : (layout : ValueLayout) (t : Tree) → is_document layout ≡ is_inner (tag_of t)
    → HasLayout (IsItems (level_limit - 1)) (Some layout) t → value_tree (tag_of t) (value_bytes t) ≡ t
tree_again values.Document (leaf tag bytes) e laid = absurd laid
tree_again values.Document (node tag is) e laid =
    let doc : doc_of (doc_bytes is) ≡ is = doc_of_spelling (doc_bytes is) is (inside_is_doc is laid) refl in
    rw (← e) (ap (node tag) doc)
tree_again (values.Raw layout) (leaf tag bytes) e laid = rw (← e) refl
tree_again (values.Raw layout) (node tag is) e laid = absurd laid

-- the tree of a value's bytes is the value
pub value_tree_is : (t : Tree) → IsValue (IsItems (level_limit - 1)) t → value_tree (tag_of t) (value_bytes t) ≡ t
value_tree_is t laid =
    let layout = typed (IsItems (level_limit - 1)) (layout_of (tag_of t)) t laid in
    let laid' : HasLayout (IsItems (level_limit - 1)) (Some layout.layout) t =
    subst (λ (o : Option ValueLayout). HasLayout (IsItems (level_limit - 1)) o t) layout.is laid in
    tree_again layout.layout t (layout_is (tag_of t) layout.layout layout.is) laid'

-- the elements of bytes that spell them
pub elements_of_spelling : (bs : List ℕ) (is : Items) → IsItems level_limit is → bs ≡ items_bytes is
    → elements_of bs ≡ is
unfolding elements_of
elements_of_spelling bs is laid e =
    ap or_none (elements_again (IsItems (level_limit - 1)) (inside_at (level_limit - 1))
    (inside_reads (level_limit - 1)) is 0 bs laid e)

-- ---- the number of bytes that a value states

one_byte : (bytes : List ℕ) (n : ℕ) → (bytes ≡ 0 ∷ []) ⊎ (bytes ≡ 1 ∷ []) → length bytes ≡ n → 1 ≡ n
one_byte bytes n (inl e) size = sym (ap length e) ∙ size
one_byte bytes n (inr e) size = sym (ap length e) ∙ size

stated_string : (bs text : List ℕ) (n : ℕ) → length text + 1 < 2 ^ 31 → Begins bs (string_bytes text) n
    → int32_at 0 bs ≡ Ok (length text + 1)
stated_string bs text n small begins =
    number_again 0 bs (length text + 1) (omega arith)
    (begins_first bs (to_le_bytes w32 (length text + 1)) (text ++ 0 ∷ []) n begins)

stated_again : (layout : ValueLayout) (bs : List ℕ) (t : Tree) (n : ℕ)
    → HasLayout (IsItems (level_limit - 1)) (Some layout) t → Begins bs (value_bytes t) n
    → stated_width layout bs ≡ Ok n
stated_again values.Document bs (leaf tag bytes) n laid begins = absurd laid
stated_again values.Document bs (node tag is) n laid begins =
    let size : length (items_bytes is) + 5 ≡ n = sym (framed_size (items_bytes is)) ∙ begins.size in
    let head = begins_first bs (to_le_bytes w32 (length (items_bytes is) + 5)) (items_bytes is ++ 0 ∷ []) n begins in
    number_again 0 bs (length (items_bytes is) + 5) (omega (arith, laid.fits, begins.size, size)) head
    ∙ ap (λ (m : ℕ). made m) size
stated_again (values.Raw layout) bs (node tag is) n laid begins = absurd laid
stated_again (values.Raw (raws.Fixed width)) bs (leaf tag bytes) n laid begins =
    ap (λ (m : ℕ). made m) (sym laid ∙ begins.size)
stated_again (values.Raw raws.Bool) bs (leaf tag bytes) n laid begins =
    ap (λ (m : ℕ). made m) (one_byte bytes n laid begins.size)
stated_again (values.Raw raws.Text) bs (leaf tag bytes) n laid begins =
    let begins' = subst (λ (x : List ℕ). Begins bs x n) laid.parts begins in
    let sum : length laid.text + 1 + 4 ≡ n = omega (arith, begins'.size, length-append laid.text (0 ∷ [])) in
    ap (λ (r : Result ℕ BsonFault). r >>= λ m. Ok (m + 4)) (stated_string bs laid.text n laid.fits begins')
    ∙ ap (λ (m : ℕ). made m) sum
stated_again (values.Raw raws.Binary) bs (leaf tag bytes) n laid begins =
    let begins' = subst (λ (x : List ℕ). Begins bs x n) laid.parts begins in
    let head = begins_first bs (to_le_bytes w32 (length laid.contents)) (laid.subtype ∷ laid.contents) n begins' in
    let small : length laid.contents < 2 ^ 32 = omega (arith, laid.fits) in
    let stated : int32_at 0 bs ≡ Ok (length laid.contents) = number_again 0 bs (length laid.contents) small head in
    let sum : length laid.contents + 5 ≡ n = omega (arith, begins'.size) in
    ap (λ (r : Result ℕ BsonFault). r >>= λ m. Ok (m + 5)) stated ∙ ap (λ (m : ℕ). made m) sum
stated_again (values.Raw raws.Regex) bs (leaf tag bytes) n laid begins =
    regex_again 0 bs laid.pattern laid.options n laid.pattern_named laid.options_named
    (subst (λ (x : List ℕ). Begins bs x n) laid.parts begins)
stated_again (values.Raw raws.Pointer) bs (leaf tag bytes) n laid begins =
    let begins' = subst (λ (x : List ℕ). Begins bs x n) laid.parts begins in
    let front = begins_first bs (string_bytes laid.text) laid.id n begins' in
    let sum : length laid.text + 1 + 16 ≡ n = omega (
      arith,
      begins'.size,
      length-append (string_bytes laid.text) laid.id,
      length-append laid.text (0 ∷ []),
      laid.id_size,
    ) in
    ap (λ (r : Result ℕ BsonFault). r >>= λ m. Ok (m + 16)) (stated_string bs laid.text _ laid.fits front)
    ∙ ap (λ (m : ℕ). made m) sum
stated_again (values.Raw raws.Scope) bs (leaf tag bytes) n laid begins =
    let spelled : List ℕ = string_bytes laid.code ++ doc_bytes laid.scope in
    let begins' = subst (λ (x : List ℕ). Begins bs x n) laid.parts begins in
    let head = begins_first bs (to_le_bytes w32 (length spelled + 4)) spelled n begins' in
    let sum : length spelled + 4 ≡ n = omega (arith, begins'.size) in
    let small : length spelled + 4 < 2 ^ 32 = omega (arith, laid.fits, begins'.size, sum) in
    number_again 0 bs (length spelled + 4) small head ∙ ap (λ (m : ℕ). made m) sum

-- ---- the element at the front

-- what the front of these elements is
front_is : List ℕ → Tree → Front
front_is name t = record { tag = tag_of t; name = length name; width = length (value_bytes t) }

front_again : (bs name rest : List ℕ) (t : Tree) → IsName name → IsValue (IsItems (level_limit - 1)) t
    → bs ≡ tag_of t ∷ (name ++ (0 ∷ (value_bytes t ++ rest)))
    → front_at bs ≡ Ok (front_is name t)
unfolding front_at front_is
front_again [] name rest t h laid e = absurd cc
front_again (tag ∷ bs) name rest t h laid e =
    let v = value_bytes t in
    let type : tag ≡ tag_of t = cc in
    let tail : bs ≡ name ++ (0 ∷ (v ++ rest)) = cc in
    let named : Begins bs (name ++ 0 ∷ []) (length (name ++ 0 ∷ [])) =
    subst (λ (x : List ℕ). Begins x (name ++ 0 ∷ []) (length (name ++ 0 ∷ [])))
    (append_assoc name (0 ∷ []) (v ++ rest) ∙ sym tail) (begins_of (name ++ 0 ∷ []) (v ++ rest)) in
    let ended : length (name ++ 0 ∷ []) ≡ length name + 1 = length-append name (0 ∷ []) in
    let valued : drop (length name + 1) bs ≡ v ++ rest =
    ap (drop (length name + 1)) (tail ∙ sym (append_assoc name (0 ∷ []) (v ++ rest)))
    ∙ drop_at (name ++ 0 ∷ []) (v ++ rest) (length name + 1) ended in
    let value : Begins (drop (length name + 1) bs) v (length v) =
    subst (λ (x : List ℕ). Begins x v (length v)) (sym valued) (begins_of v rest) in
    let layout = typed (IsItems (level_limit - 1)) (layout_of (tag_of t)) t laid in
    let laid' : HasLayout (IsItems (level_limit - 1)) (Some layout.layout) t =
    subst (λ (o : Option ValueLayout). HasLayout (IsItems (level_limit - 1)) o t) layout.is laid in
    let row : layout_of tag ≡ Some layout.layout = ap layout_of type ∙ layout.is in
    let a : type_at 0 tag ≡ Ok layout.layout = layout_again 0 tag layout.layout row in
    let b : cstring_at 0 bs ≡ Ok (length name) = name_again 0 bs name _ h named in
    let c : stated_width layout.layout (drop (length name + 1) bs) ≡ Ok (length v) =
    stated_again layout.layout (drop (length name + 1) bs) t (length v) laid' value in
    let d : bytes_at (length v) 0 (drop (length name + 1) bs) ≡ Ok (length v) =
    fixed_again (length v) 0 (drop (length name + 1) bs) (begins_fits _ v _ value) in
    rw (a, b) (ap (λ (r : Result ℕ BsonFault). r >>= λ m. bytes_at m 0 (drop (length name + 1) bs) >>= λ w. Ok
    (record { tag = tag; name = length name; width = w })) c
    ∙ ap (λ (r : Result ℕ BsonFault). r >>= λ w. Ok (record { tag = tag; name = length name; width = w })) d
    ∙ ap (λ (k : ℕ). made (record { tag = k; name = length name; width = length v })) type)

front_none : (d : Front) → front_at [] ≡ Ok d → ⊥
unfolding front_at
front_none d e = refused _ d e

parted_item : (bs name : List ℕ) (t : Tree) (is : Items) (f : Front) → IsItems level_limit (item name t is)
    → bs ≡ items_bytes (item name t is) → front_at bs ≡ Ok f
    → IsParted bs f.tag (take f.name (drop 1 bs)) (take f.width (drop 1 (drop f.name (drop 1 bs))))
    (drop f.width (drop 1 (drop f.name (drop 1 bs))))
unfolding front_is
parted_item bs name t is f laid e g =
    let v = value_bytes t in
    let r = items_bytes is in
    let n = length name in
    let w = length v in
    let front : front_is name t ≡ f = ok_is _ f (sym (front_again bs name r t laid.0 laid.1 e) ∙ g) in
    let one : drop 1 bs ≡ name ++ (0 ∷ (v ++ r)) = ap (drop 1) e in
    let name_is : take n (drop 1 bs) ≡ name = ap (take n) one ∙ take_at name (0 ∷ (v ++ r)) n refl in
    let two : drop 1 (drop n (drop 1 bs)) ≡ v ++ r =
    ap (λ (x : List ℕ). drop 1 (drop n x)) one ∙ ap (drop 1) (drop_at name (0 ∷ (v ++ r)) n refl) in
    let value_is : take w (drop 1 (drop n (drop 1 bs))) ≡ v = ap (take w) two ∙ take_at v r w refl in
    let rest_is : drop w (drop 1 (drop n (drop 1 bs))) ≡ r = ap (drop w) two ∙ drop_at v r w refl in
    let tree : value_tree (tag_of t) v ≡ t = value_tree_is t laid.1 in
    let others : IsItems level_limit is = laid.2 in
    let whole : elements_of bs ≡ item name (value_tree (tag_of t) v) (elements_of r) =
    elements_of_spelling bs (item name t is) laid e
    ∙ ap (λ (u : Tree). item name u is) (sym tree)
    ∙ ap (λ (js : Items). item name (value_tree (tag_of t) v) js) (sym (elements_of_spelling r is others refl)) in
    let size : length bs ≡ length name + 2 + length v + length r =
    omega (arith, ap length e, length-append name (0 ∷ (v ++ r)), length-append v r) in
    let made : IsParted bs (tag_of t) name v r = record {
      whole = whole;
      spelled = record { tree = t; laid = laid.1; type = refl; parts = refl };
      bytes = ap value_bytes (sym tree);
      others = record { tree = is; laid = others; parts = refl };
      size = size;
    } in
    let a : IsParted bs (tag_of t) (take n (drop 1 bs)) v r =
    subst (λ (x : List ℕ). IsParted bs (tag_of t) x v r) (sym name_is) made in
    let b : IsParted bs (tag_of t) (take n (drop 1 bs)) (take w (drop 1 (drop n (drop 1 bs)))) r =
    subst (λ (x : List ℕ). IsParted bs (tag_of t) (take n (drop 1 bs)) x r) (sym value_is) a in
    let c : IsParted bs (tag_of t) (take n (drop 1 bs)) (take w (drop 1 (drop n (drop 1 bs))))
    (drop w (drop 1 (drop n (drop 1 bs)))) =
    subst (λ (x : List ℕ). IsParted bs (tag_of t) (take n (drop 1 bs)) (take w (drop 1 (drop n (drop 1 bs)))) x)
    (sym rest_is) b in
    subst (λ (h : Front). IsParted bs h.tag (take h.name (drop 1 bs)) (take h.width (drop 1 (drop h.name (drop 1 bs))))
    (drop h.width (drop 1 (drop h.name (drop 1 bs))))) front c

parted_of : (bs : List ℕ) (is : Items) (f : Front) → IsItems level_limit is → bs ≡ items_bytes is → front_at bs ≡ Ok f
    → IsParted bs f.tag (take f.name (drop 1 bs)) (take f.width (drop 1 (drop f.name (drop 1 bs))))
    (drop f.width (drop 1 (drop f.name (drop 1 bs))))
parted_of bs no_items f laid e g = absurd (front_none f (sym (ap front_at e) ∙ g))
parted_of bs (item name t is) f laid e g = parted_item bs name t is f laid e g

-- the parts of the element at the front
pub parted : (bs : List ℕ) (f : Front) → SpellsElements bs → front_at bs ≡ Ok f
    → IsParted bs f.tag (take f.name (drop 1 bs)) (take f.width (drop 1 (drop f.name (drop 1 bs))))
    (drop f.width (drop 1 (drop f.name (drop 1 bs))))
parted bs f s g = parted_of bs s.tree f s.laid s.parts g

unparted_of : (bs : List ℕ) (is : Items) (d : BsonFault) → IsItems level_limit is → bs ≡ items_bytes is
    → front_at bs ≡ Err d → elements_of bs ≡ no_items
unparted_of bs no_items d laid e g = elements_of_spelling bs no_items laid e
unparted_of bs (item name t is) d laid e g = absurd
    (refused d (front_is name t) (sym g ∙ front_again bs name (items_bytes is) t laid.0 laid.1 e))

-- where there is no element at the front, there is none
pub unparted : (bs : List ℕ) (d : BsonFault) → SpellsElements bs → front_at bs ≡ Err d → elements_of bs ≡ no_items
unparted bs d s g = unparted_of bs s.tree d s.laid s.parts g
