-- Values and elements, whatever reads the documents inside: what is read is spelled so, and what is spelled
-- so is read.
use Rattle.std.proofs.Common.{false, ◌≡◌, ℕ, zero, suc, ◌+◌, ◌<◌, ◌≤◌, List, [], ◌∷◌, ◌++◌, length, take, drop, Option}
use Rattle.std.proofs.Common.{Some, None, Result, Ok, refl, sym, ap, subst, ◌∙◌, append_assoc, arith}
use Rattle.std.proofs.lemmas.List.{drop_at, length-append, length-drop}
use Rattle.bson_tree.specs.Tree.{Tree, Items, leaf, node, no_items, item, tag_of}
use Rattle.bson_tree.specs.Spelling.{value_bytes, items_bytes}
use Rattle.bson_codec.specs.declared.fault.BsonFault.{BsonFault}
use Rattle.bson_codec.specs.declared.table.ValueLayout.{ValueLayout}
use Rattle.bson_codec.specs.declared.table.ValueLayout.TheVariants as values
use Rattle.bson_codec.specs.Fault.{◌>>=◌}
use Rattle.bson_codec.specs.Table.{layout_of}
use Rattle.bson_codec.specs.Layout.{IsName, HasLayout, IsValue, AreElements}
use Rattle.bson_codec.specs.Reading.{Reader, First, cstring_at, type_at, raw_at, value_at, first_at, rounds_at}
use Rattle.bson_codec.specs.Reading.{elements_at}
use Rattle.bson_codec.proofs.Steps.{made, ok_is, bind_ok}
use Rattle.bson_codec.specs.Bytes.{AreBytes}
use Rattle.bson_codec.proofs.Pieces.{AreBytes-drop, AreBytes-rest, Begins, begins_take, begins_then, begins_is}
use Rattle.bson_codec.proofs.Pieces.{begins_fits, begins_of, begins_first, begins_second}
use Rattle.bson_codec.proofs.Readers.{Reads}
use Rattle.bson_codec.proofs.Raws.{raw_takes, raw_again}
use Rattle.bson_codec.proofs.Names.{name_takes, name_again, layout_takes, layout_again}
use Rattle.bson_codec.proofs.Rounds.{first_wide, elements_step}

-- ---- values

-- a value of this type that was read
pub record ValueRead (D : Items → Type 0) (tag : ℕ) (bs : List ℕ) (x : Tree × ℕ) : Type 0 where
  pub laid : IsValue D x.0
  pub type : tag_of x.0 ≡ tag
  pub parts : Begins bs (value_bytes x.0) x.1

pub value_takes : (D : Items → Type 0) (f : Reader) (reads : Reads f D) (tag : ℕ) (layout : ValueLayout) (p : ℕ)
    (bs : List ℕ) (x : Tree × ℕ) → AreBytes bs → layout_of tag ≡ Some layout
    → value_at f tag layout p bs ≡ Ok x → ValueRead D tag bs x
unfolding value_at
value_takes D f reads tag values.Document p bs x fits row e =
    let a = bind_ok (f false p bs) _ x e in
    let read = reads.takes false p bs a.value fits a.first in
    let made : Tree × ℕ = (node tag a.value.0, a.value.1) in
    let laid : IsValue D (node tag a.value.0) = subst (λ (o : Option ValueLayout). HasLayout D o (node tag a.value.0))
    (sym row) read.inside in
    subst (λ (y : Tree × ℕ). ValueRead D tag bs y) (ok_is made x a.then) (record {
      laid = laid;
      type = refl;
      parts = read.parts;
    })
value_takes D f reads tag (values.Raw layout) p bs x fits row e =
    let a = bind_ok (raw_at f layout p bs) _ x e in
    let read = raw_takes D f reads layout p bs a.value fits a.first in
    let made : Tree × ℕ = (leaf tag (take a.value bs), a.value) in
    let laid : IsValue D (leaf tag (take a.value bs)) =
    subst (λ (o : Option ValueLayout). HasLayout D o (leaf tag (take a.value bs))) (sym row) read.laid in
    subst (λ (y : Tree × ℕ). ValueRead D tag bs y) (ok_is made x a.then) (record {
      laid = laid;
      type = refl;
      parts = begins_take a.value bs read.fits;
    })

pub laid_again : (D : Items → Type 0) (f : Reader) (reads : Reads f D) (layout : ValueLayout) (p : ℕ) (bs : List ℕ)
    (t : Tree) (n : ℕ) → HasLayout D (Some layout) t → Begins bs (value_bytes t) n
    → value_at f (tag_of t) layout p bs ≡ Ok (t, n)
unfolding value_at
laid_again D f reads values.Document p bs (leaf tag bytes) n laid begins = absurd laid
laid_again D f reads values.Document p bs (node tag is) n laid begins =
    rw (reads.again false p bs is n laid begins (λ e. absurd cc)) refl
laid_again D f reads (values.Raw layout) p bs (leaf tag bytes) n laid begins =
    let read : raw_at f layout p bs ≡ Ok n = raw_again D f reads layout p bs bytes n laid begins in
    let same : take n bs ≡ bytes = begins_is bs bytes n begins in
    ap (λ (r : Result ℕ BsonFault). r >>= λ m. Ok (leaf tag (take m bs), m)) read
    ∙ ap (λ (x : List ℕ). made (leaf tag x, n)) same
laid_again D f reads (values.Raw layout) p bs (node tag is) n laid begins = absurd laid

-- a type that has a layout
pub record Typed (o : Option ValueLayout) : Type 0 where
  pub layout : ValueLayout
  pub is : o ≡ Some layout

pub typed : (D : Items → Type 0) (o : Option ValueLayout) (t : Tree) → HasLayout D o t → Typed o
typed D None t h = absurd h
typed D (Some layout) t h = record { layout = layout; is = refl }

-- ---- elements

-- an element that was read
pub record FirstRead (D : Items → Type 0) (bs : List ℕ) (x : First) : Type 0 where
  pub name : IsName x.name
  pub value : IsValue D x.tree
  pub parts : Begins bs (tag_of x.tree ∷ (x.name ++ (0 ∷ value_bytes x.tree))) x.width

begins_cons : (b : ℕ) (bs text : List ℕ) (n m : ℕ) → suc n ≡ m → Begins bs text n → Begins (b ∷ bs) (b ∷ text) m
begins_cons b bs text n m e begins =
    subst (λ (k : ℕ). Begins (b ∷ bs) (b ∷ text) k) e (record {
      parts = ap (λ (x : List ℕ). b ∷ x) begins.parts;
      size = omega (arith, begins.size);
    })

pub first_takes : (D : Items → Type 0) (f : Reader) (reads : Reads f D) (p : ℕ) (bs : List ℕ) (x : First) → AreBytes bs
    → first_at f p bs ≡ Ok x → FirstRead D bs x
unfolding first_at
first_takes D f reads p [] x fits e = absurd cc
first_takes D f reads p (tag ∷ bs) x fits e =
    let a = bind_ok (type_at p tag) _ x e in
    let b = bind_ok (cstring_at (p + 1) bs) _ x a.then in
    let c = bind_ok (value_at f tag a.value (p + (b.value + 2)) (drop (b.value + 1) bs)) _ x b.then in
    let n = b.value in
    let rest = AreBytes-rest tag bs fits in
    let name = name_takes (p + 1) bs n b.first in
    let value = value_takes D f reads tag a.value (p + (n + 2)) (drop (n + 1) bs) c.value
    (AreBytes-drop (n + 1) bs rest) (layout_takes p tag a.value a.first) c.first in
    let both = begins_then bs (take n bs ++ 0 ∷ []) (value_bytes c.value.0) (n + 1) c.value.1 name.parts value.parts in
    let grouped : Begins bs (take n bs ++ (0 ∷ value_bytes c.value.0)) (n + 1 + c.value.1) =
    subst (λ (text : List ℕ). Begins bs text (n + 1 + c.value.1))
    (append_assoc (take n bs) (0 ∷ []) (value_bytes c.value.0)) both in
    let whole : Begins (tag ∷ bs) (tag ∷ (take n bs ++ (0 ∷ value_bytes c.value.0))) (n + 2 + c.value.1) =
    begins_cons tag bs _ (n + 1 + c.value.1) (n + 2 + c.value.1) (omega arith) grouped in
    let typed : Begins (tag ∷ bs) (tag_of c.value.0 ∷ (take n bs ++ (0 ∷ value_bytes c.value.0))) (n + 2 + c.value.1) =
    subst (λ (k : ℕ). Begins (tag ∷ bs) (k ∷ (take n bs ++ (0 ∷ value_bytes c.value.0))) (n + 2 + c.value.1))
    (sym value.type) whole in
    let made : First = record { name = take n bs; tree = c.value.0; width = n + 2 + c.value.1 } in
    subst (λ (y : First). FirstRead D (tag ∷ bs) y) (ok_is made x c.then) (record {
      name = name.name;
      value = value.laid;
      parts = typed;
    })

-- elements that were read
pub record ElementsRead (D : Items → Type 0) (bs : List ℕ) (is : Items) : Type 0 where
  pub laid : AreElements D is
  pub parts : bs ≡ items_bytes is

rounds_take : (D : Items → Type 0) (f : Reader) (reads : Reads f D) (n p : ℕ) (bs : List ℕ) (is : Items) → length bs ≤ n
    → AreBytes bs → rounds_at f n p bs ≡ Ok is → ElementsRead D bs is
unfolding rounds_at
rounds_take D f reads zero p [] is h fits e =
    subst (λ (js : Items). ElementsRead D [] js) (ok_is no_items is e) (record { laid = tt; parts = refl })
rounds_take D f reads zero p (tag ∷ bs) is h fits e = absurd (omega arith)
rounds_take D f reads (suc n) p [] is h fits e =
    subst (λ (js : Items). ElementsRead D [] js) (ok_is no_items is e) (record { laid = tt; parts = refl })
rounds_take D f reads (suc n) p (tag ∷ bs) is h fits e =
    let a = bind_ok (first_at f p (tag ∷ bs)) _ is e in
    let x = a.value in
    let b = bind_ok (rounds_at f n (p + x.width) (drop x.width (tag ∷ bs))) _ is a.then in
    let first = first_takes D f reads p (tag ∷ bs) x fits a.first in
    let wide = first_wide f p (tag ∷ bs) x a.first in
    let less : length (drop x.width (tag ∷ bs)) ≤ n = omega (arith, length-drop x.width (tag ∷ bs)) in
    let others = rounds_take D f reads n (p + x.width) (drop x.width (tag ∷ bs)) b.value less
    (AreBytes-drop x.width (tag ∷ bs) fits) b.first in
    let element : List ℕ = tag_of x.tree ∷ (x.name ++ (0 ∷ value_bytes x.tree)) in
    let grouped : element ++ items_bytes b.value ≡ items_bytes (item x.name x.tree b.value) =
    ap (λ (text : List ℕ). tag_of x.tree ∷ text) (append_assoc x.name (0 ∷ value_bytes x.tree) (items_bytes b.value)) in
    let whole : tag ∷ bs ≡ items_bytes (item x.name x.tree b.value) =
    first.parts.parts ∙ ap (λ (text : List ℕ). element ++ text) others.parts ∙ grouped in
    subst (λ (js : Items). ElementsRead D (tag ∷ bs) js) (ok_is (item x.name x.tree b.value) is b.then)
    (record { laid = (first.name, first.value, others.laid); parts = whole })

pub elements_take : (D : Items → Type 0) (f : Reader) (reads : Reads f D) (p : ℕ) (bs : List ℕ) (is : Items)
    → AreBytes bs → elements_at f p bs ≡ Ok is → ElementsRead D bs is
unfolding elements_at
elements_take D f reads p bs is fits e = rounds_take D f reads (length bs) p bs is (omega arith) fits e

-- ---- and again

pub behind_type : (b c : ℕ) (bs text : List ℕ) (n : ℕ) → Begins (b ∷ bs) (c ∷ text) n
    → (b ≡ c) × (Begins bs text (length text))
behind_type b c bs text zero begins = absurd (omega (arith, begins.size))
behind_type b c bs text (suc n) begins =
    let size : length text ≡ n = omega (arith, begins.size) in
    let whole : b ∷ bs ≡ c ∷ (text ++ drop n bs) = begins.parts in
    let tail : bs ≡ text ++ drop n bs = cc in
    let head : b ≡ c = cc in
    (head, subst (λ (k : ℕ). Begins bs text k) (sym size) (record { parts = tail; size = size }))

pub first_again : (D : Items → Type 0) (f : Reader) (reads : Reads f D) (p : ℕ) (bs name : List ℕ) (t : Tree) (w : ℕ)
    → IsName name → IsValue D t
    → Begins bs (tag_of t ∷ (name ++ (0 ∷ value_bytes t))) w
    → first_at f p bs ≡ Ok (record { name = name; tree = t; width = w })
unfolding first_at
first_again D f reads p [] name t w h laid begins = absurd (omega (arith, begins_fits [] _ w begins, begins.size))
first_again D f reads p (tag ∷ bs) name t w h laid begins =
    let v = value_bytes t in
    let both = behind_type tag (tag_of t) bs (name ++ (0 ∷ v)) w begins in
    let grouped : Begins bs ((name ++ 0 ∷ []) ++ v) (length (name ++ (0 ∷ v))) =
    subst (λ (text : List ℕ). Begins bs text (length (name ++ (0 ∷ v)))) (sym (append_assoc name (0 ∷ []) v)) both.1 in
    let front = begins_first bs (name ++ 0 ∷ []) v _ grouped in
    let back = begins_second bs (name ++ 0 ∷ []) v _ grouped in
    let ended : length (name ++ 0 ∷ []) ≡ length name + 1 = length-append name (0 ∷ []) in
    let value : Begins (drop (length name + 1) bs) v (length v) =
    subst (λ (k : ℕ). Begins (drop k bs) v (length v)) ended back in
    let named : take (length name) bs ≡ name = begins_is bs name (length name)
    (begins_first bs name (0 ∷ []) _ front) in
    let layout = typed D (layout_of (tag_of t)) t laid in
    let laid' : HasLayout D (Some layout.layout) t =
    subst (λ (o : Option ValueLayout). HasLayout D o t) layout.is laid in
    let row : layout_of tag ≡ Some layout.layout = ap layout_of both.0 ∙ layout.is in
    let a : type_at p tag ≡ Ok layout.layout = layout_again p tag layout.layout row in
    let b : cstring_at (p + 1) bs ≡ Ok (length name) = name_again (p + 1) bs name _ h front in
    let c : value_at f tag layout.layout (p + (length name + 2)) (drop (length name + 1) bs) ≡ Ok (t, length v) =
    subst (λ (k : ℕ). value_at f k layout.layout (p + (length name + 2)) (drop (length name + 1) bs) ≡ Ok (t, length v))
    (sym both.0)
    (laid_again D f reads layout.layout (p + (length name + 2)) (drop (length name + 1) bs) t (length v) laid' value) in
    let width : length name + 2 + length v ≡ w = omega (arith, begins.size, length-append name (0 ∷ v)) in
    rw (a, b, c) (ap (λ (x : List ℕ). made (record { name = x; tree = t; width = length name + 2 + length v })) named
    ∙ ap (λ (k : ℕ). made (record { name = name; tree = t; width = k })) width)

elements_none : (f : Reader) (p : ℕ) → elements_at f p [] ≡ Ok no_items
unfolding elements_at rounds_at
elements_none f p = refl

pub elements_again : (D : Items → Type 0) (f : Reader) (reads : Reads f D) (is : Items) (p : ℕ) (bs : List ℕ)
    → AreElements D is → bs ≡ items_bytes is → elements_at f p bs ≡ Ok is
elements_again D f reads no_items p bs laid e =
    subst (λ (x : List ℕ). elements_at f p x ≡ Ok no_items) (sym e) (elements_none f p)
elements_again D f reads (item name t is) p bs laid e =
    let element : List ℕ = tag_of t ∷ (name ++ (0 ∷ value_bytes t)) in
    let w : ℕ = length element in
    let grouped : items_bytes (item name t is) ≡ element ++ items_bytes is =
    ap (λ (text : List ℕ). tag_of t ∷ text) (sym (append_assoc name (0 ∷ value_bytes t) (items_bytes is))) in
    let whole : bs ≡ element ++ items_bytes is = e ∙ grouped in
    let begins : Begins bs element w = subst (λ (x : List ℕ). Begins x element w) (sym whole)
    (begins_of element (items_bytes is)) in
    let some : 0 < length bs = omega (arith, begins_fits bs element w begins) in
    let first : first_at f p bs ≡ Ok (record { name = name; tree = t; width = w }) =
    first_again D f reads p bs name t w laid.0 laid.1 begins in
    let rest : drop w bs ≡ items_bytes is = ap (drop w) whole ∙ drop_at element (items_bytes is) w refl in
    let others : elements_at f (p + w) (drop w bs) ≡ Ok is =
    elements_again D f reads is (p + w) (drop w bs) laid.2 rest in
    elements_step f p bs some
    ∙ ap (λ (r : Result First BsonFault). r >>= λ x. elements_at f (p + x.width) (drop x.width bs) >>= λ js. Ok
    (item x.name x.tree js)) first
    ∙ ap (λ (r : Result Items BsonFault). r >>= λ js. Ok (item name t js)) others
