-- The members of an object, and how many they are.
use Rattle.std.proofs.Common.{◌≡◌, ℕ, ◌+◌, List, [], ◌∷◌, length, get_or, drop, drop-cons, add-one, ◌<◌, ◌≤◌, Option}
use Rattle.std.proofs.Common.{Some, None, option_map, refl, sym, ap, ◌∙◌, arith}
use Rattle.std.specs.Fmt.{decimal}
use Rattle.uuid.specs.Text.{parsed}
use Rattle.serde_json.specs.Data.{Data, Items as Values, no_items as no_values, item as value_then, Members, no_members}
use Rattle.serde_json.specs.Data.{member}
use Rattle.serde_json.specs.Find.{as_str}
use Rattle.bson_tree.specs.Tree.{Tree, Items, no_items, item, join, count}
use Rattle.ext_json.specs.Binaries.{uuid_of}
use Rattle.ext_json.specs.JsonTrees.{array_items, object_items, json_tree, binary_tree}
use Rattle.std.proofs.lemmas.List.{nil_from_length, length-drop}
use Rattle.serde_json.specs.declared.value.Value.{Value}
use Rattle.serde_json.specs.View.{view, items_view, members_view}
use Rattle.serde_json.proofs.Views.{Entry}
use Rattle.ext_json.specs.Binaries.{members_count}

pub count_is : (es : List Entry) → members_count (members_view es) ≡ length es
count_is [] = refl
count_is (e ∷ es) = omega (arith, count_is es)

none_by : (o : Option (List ℕ)) → (((u : List ℕ) × (o ≡ Some u)) → ⊥) → o ≡ None
none_by None h = refl
none_by (Some u) h = absurd (h (u, refl))

pub uuid_none : (d : Data) (text : List ℕ) → as_str d ≡ Some text → (((u : List ℕ) × (parsed text ≡ Some u)) → ⊥)
    → option_map binary_tree (uuid_of d) ≡ None
uuid_none d text is never = rw (is, none_by (parsed text) never) refl

-- ---- lists of elements that grow at their end

pub join_nil : (is : Items) → join is no_items ≡ is
join_nil no_items = refl
join_nil (item name t is) = ap (item name t) (join_nil is)

join_one : (is : Items) (name : List ℕ) (t : Tree) (js : Items)
    → join (join is (item name t no_items)) js ≡ join is (item name t js)
join_one no_items name t js = refl
join_one (item n u is) name t js = ap (item n u) (join_one is name t js)

pub count_one : (is : Items) (name : List ℕ) (t : Tree) → count (join is (item name t no_items)) ≡ count is + 1
count_one no_items name t = refl
count_one (item n u is) name t = ap (λ (k : ℕ). k + 1) (count_one is name t)

joined_more : (is : Items) (name : List ℕ) (t : Tree) (o : Option Items)
    → option_map (join is) (option_map (item name t) o) ≡ option_map (join (join is (item name t no_items))) o
joined_more is name t None = refl
joined_more is name t (Some js) = ap Some (sym (join_one is name t js))

pub items_more : (all : Option Items) (is : Items) (i : ℕ) (t : Tree) (d : Data) (ds : Values)
    → all ≡ option_map (join is) (array_items i (value_then d ds)) → json_tree d ≡ Some t
    → all ≡ option_map (join (join is (item (decimal i) t no_items))) (array_items (i + 1) ds)
items_more all is i t d ds so_far read = (rw read at so_far) ∙ joined_more is (decimal i) t (array_items (i + 1) ds)

pub members_more : (all : Option Items) (is : Items) (k : List ℕ) (t : Tree) (d : Data) (ms : Members)
    → all ≡ option_map (join is) (object_items (member k d ms)) → json_tree d ≡ Some t
    → all ≡ option_map (join (join is (item k t no_items))) (object_items ms)
members_more all is k t d ms so_far read = (rw read at so_far) ∙ joined_more is k t (object_items ms)

-- ---- what is left of an array

pub values_cut : (i : ℕ) (vs : List Value) (d : Value) → i < length vs
    → items_view (drop i vs) ≡ value_then (view (get_or vs i d)) (items_view (drop (i + 1) vs))
values_cut i vs d within = rw (add-one, drop-cons vs i d within) refl

pub values_end : (i : ℕ) (vs : List Value) → length vs ≤ i → items_view (drop i vs) ≡ no_values
values_end i vs past = ap items_view (nil_from_length (drop i vs) (omega (arith, past, length-drop i vs)))

-- ---- one more element

some_is : (x y : List ℕ) → Some x ≡ Some y → x ≡ y
some_is x y e = cc

pub items_step : (all : Option Items) (is js : Items) (i n : ℕ) (name : List ℕ) (t : Tree) (d : Data) (left ds : Values)
    → left ≡ value_then d ds → (count is ≡ i) × (all ≡ option_map (join is) (array_items i left)) → n ≡ count is
    → Some (decimal n) ≡ Some name → json_tree d ≡ Some t
    → js ≡ join is (item name t no_items)
    → (count js ≡ i + 1) × (all ≡ option_map (join js) (array_items (i + 1) ds))
items_step all is js i n name t d left ds cut inv number named read grown =
    let place : n ≡ i = number ∙ inv.0 in
    let name_is : decimal i ≡ name = ap decimal (sym place) ∙ some_is (decimal n) name named in
    let more : all ≡ option_map (join (join is (item (decimal i) t no_items))) (array_items (i + 1) ds) =
    items_more all is i t d ds (rw cut at inv.1) read in
    let same : js ≡ join is (item (decimal i) t no_items) =
    grown ∙ ap (λ (x : List ℕ). join is (item x t no_items)) (sym name_is) in
    (ap count same ∙ (count_one is (decimal i) t ∙ ap (λ (k : ℕ). k + 1) inv.0), rw same more)

pub items_done : (all : Option Items) (is : Items) (i : ℕ) (left : Values) → left ≡ no_values
    → all ≡ option_map (join is) (array_items i left) → all ≡ Some is
items_done all is i left end so_far = (rw end at so_far) ∙ ap Some (join_nil is)

pub members_step : (all : Option Items) (is js : Items) (k name : List ℕ) (t : Tree) (d : Data) (left ms : Members)
    → left ≡ member k d ms → all ≡ option_map (join is) (object_items left) → Some k ≡ Some name → json_tree d ≡ Some t
    → js ≡ join is (item name t no_items)
    → all ≡ option_map (join js) (object_items ms)
members_step all is js k name t d left ms cut inv named read grown =
    let more : all ≡ option_map (join (join is (item k t no_items))) (object_items ms) =
    members_more all is k t d ms (rw cut at inv) read in
    let same : js ≡ join is (item k t no_items) =
    grown ∙ ap (λ (x : List ℕ). join is (item x t no_items)) (sym (some_is k name named)) in
    rw same more

pub members_done : (all : Option Items) (is : Items) (left : Members) → left ≡ no_members
    → all ≡ option_map (join is) (object_items left) → all ≡ Some is
members_done all is left end so_far = (rw end at so_far) ∙ ap Some (join_nil is)
