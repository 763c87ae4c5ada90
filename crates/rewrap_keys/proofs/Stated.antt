-- A document with new material states the same key with that material.
use Rattle.std.proofs.Common.{◌≡◌, ◌∙◌, ℕ, ◌==◌, ◌&&◌, Bool, true, false, cond, List, [], ◌++◌, length, drop, ◌<◌}
use Rattle.std.proofs.Common.{Some, None, Option, Result, Ok, Err, refl, ap, subst, arith}
use Rattle.std.specs.Prelude.{bytes_eq, codes, is_ok, is_some, unwrap_or, slice_index}
use Rattle.std.specs.List.{All}
use Rattle.std.specs.Cmp.Lexicographic.{bytes_decides}
use Rattle.std.proofs.lemmas.Bool.{false≢true}
use Rattle.std.proofs.lemmas.List.{drop_at, length-drop, take_at}
use Rattle.std.proofs.lemmas.List.Elements.{All-drop, All-tail, All-take}
use Rattle.bson_tree.specs.Tree.{Tree, Items, no_items, item, tag_of}
use Rattle.bson_tree.specs.Spelling.{items_bytes, value_bytes}
use Rattle.bson_tree.proofs.PartBytes.{Bytes, others_of, value_of}
use Rattle.bson_codec.specs.Standings.{Standing, absent, once, repeated, standing, stands_too}
use Rattle.data_key.specs.declared.key_doc.KeyDoc.{KeyDoc}
use Rattle.data_key.specs.declared.key_doc.KeyFault.{KeyFault}
use Rattle.data_key.specs.declared.key_doc.KeyFault.TheVariants as faults
use Rattle.data_key.specs.declared.key_doc.Provider.{Provider}
use Rattle.data_key.specs.Key.{id_in, key_in, material_in, names_in, or_fault, provider_in, ◌>>=◌}
use Rattle.data_key.specs.Values.{contents_of, is_binary}
use Rattle.data_key.specs.Written.{binary}
use Rattle.data_key.proofs.ReadBack.{key_by}
use Rattle.rewrap_keys.specs.Fields.{dated, new_value, with_material}
use Rattle.rewrap_keys.proofs.Sized.{Sized, is_material, is_once, only_one, sized_once}

-- ---- how names stand

standing_if : (b : Bool) (t u : Tree) (s : Standing) → (b ≡ true → t ≡ u)
    → cond b (stands_too t s) s ≡ cond b (stands_too u s) s
standing_if true t u s same = ap (λ (v : Tree). stands_too v s) (same refl)
standing_if false t u s same = refl

-- a name whose values stay stands as before
other_stands : (word m : List ℕ) (now : ℕ) (is : Items)
    → ((name : List ℕ) (t : Tree) → bytes_eq name word ≡ true → new_value m now name t ≡ t)
    → standing word (with_material m now is) ≡ standing word is
unfolding standing
other_stands word m now no_items stays = refl
other_stands word m now (item name t is) stays =
    ap (λ (s : Standing). cond (bytes_eq name word) (stands_too (new_value m now name t) s) s)
    (other_stands word m now is stays)
    ∙ standing_if (bytes_eq name word) (new_value m now name t) t (standing word is) (stays name t)

-- the one value of a name is this
abbrev stands_as : Tree → Standing → Standing
stands_as u absent = absent
stands_as u (once t) = once u
stands_as u repeated = repeated

as_if : (b : Bool) (t u v : Tree) (s : Standing) → (b ≡ true → v ≡ u)
    → cond b (stands_too v (stands_as u s)) (stands_as u s) ≡ stands_as u (cond b (stands_too t s) s)
as_if true t u v absent same = ap once (same refl)
as_if true t u v (once w) same = refl
as_if true t u v repeated same = refl
as_if false t u v s same = refl

new_if : (b : Bool) (t u : Tree) → b ≡ true → cond b t u ≡ t
new_if true t u is = refl
new_if false t u is = absurd (false≢true is)

material_stands : (m : List ℕ) (now : ℕ) (is : Items)
    → standing (codes "keyMaterial") (with_material m now is)
    ≡ stands_as (binary 0 m) (standing (codes "keyMaterial") is)
unfolding standing
material_stands m now no_items = refl
material_stands m now (item name t is) =
    ap (λ (s : Standing). cond (is_material name) (stands_too (new_value m now name t) s) s) (material_stands m now is)
    ∙ as_if (is_material name) t (binary 0 m) (new_value m now name t) (standing (codes "keyMaterial") is)
    (new_if (is_material name) (binary 0 m) (dated now name t))

-- ---- the key

-- what a document says of its key
record Says (i : Option (List ℕ)) (ns : Option (List (List ℕ))) (m : Option (List ℕ)) (p : Option Provider)
    (k : KeyDoc) : Type 0 where
  id : i ≡ Some k.id
  names : ns ≡ Some k.names
  material : m ≡ Some k.material
  provider : p ≡ Some k.provider

abbrev or_other : Result KeyDoc KeyFault → KeyDoc → KeyDoc
or_other (Ok k) other = k
or_other (Err e) other = other

not_key : (e : KeyFault) (k : KeyDoc) → ◌≡◌ {A = Result KeyDoc KeyFault} (Err e) (Ok k) → ⊥
not_key e k is = false≢true (ap is_ok is)

says_by : (i : Option (List ℕ)) (ns : Option (List (List ℕ))) (m : Option (List ℕ)) (p : Option Provider) (k : KeyDoc)
    → key_by i ns m p ≡ Ok k → Says i ns m p k
says_by None ns m p k e = absurd (not_key _ k e)
says_by (Some i) None m p k e = absurd (not_key _ k e)
says_by (Some i) (Some ns) None p k e = absurd (not_key _ k e)
says_by (Some i) (Some ns) (Some m) None k e = absurd (not_key _ k e)
says_by (Some i) (Some ns) (Some m) (Some p) k e = record {
  id = ap (λ (r : Result KeyDoc KeyFault). Some (or_other r k).id) e;
  names = ap (λ (r : Result KeyDoc KeyFault). Some (or_other r k).names) e;
  material = ap (λ (r : Result KeyDoc KeyFault). Some (or_other r k).material) e;
  provider = ap (λ (r : Result KeyDoc KeyFault). Some (or_other r k).provider) e;
}

says : (is : Items) (k : KeyDoc) → key_in is ≡ Ok k
    → Says (id_in (standing (codes "_id") is)) (names_in (standing (codes "keyAltNames") is))
    (material_in (standing (codes "keyMaterial") is)) (provider_in (standing (codes "masterKey") is)) k
unfolding key_in
says is k e = says_by _ _ _ _ k e

-- the same key with this material
abbrev pub rekeyed : List ℕ → KeyDoc → KeyDoc
rekeyed m k = record { id = k.id; names = k.names; material = m; provider = k.provider }

same_name : (word m : List ℕ) (now : ℕ) → ((t : Tree) → new_value m now word t ≡ t)
    → (name : List ℕ) (t : Tree) → bytes_eq name word ≡ true → new_value m now name t ≡ t
same_name word m now stays name t is =
    ap (λ (n : List ℕ). new_value m now n t) ((bytes_decides name word).0 is) ∙ stays t

new_contents : (m : List ℕ) → contents_of 0 (binary 0 m) ≡ Some m
new_contents m = refl

material_by : (m : List ℕ) (s : Standing) (x : List ℕ) → material_in s ≡ Some x
    → material_in (stands_as (binary 0 m) s) ≡ Some m
material_by m absent x e = absurd (false≢true (ap is_some e))
material_by m (once t) x e = new_contents m
material_by m repeated x e = absurd (false≢true (ap is_some e))

key_from : (i i' : Option (List ℕ)) (ns ns' : Option (List (List ℕ))) (m m' : Option (List ℕ)) (p p' : Option Provider)
    → i ≡ i' → ns ≡ ns' → m ≡ m' → p ≡ p' → key_by i ns m p ≡ key_by i' ns' m' p'
key_from i i' ns ns' m m' p p' a b c d =
    ap (λ (x : Option (List ℕ)). key_by x ns m p) a ∙ ap (λ (x : Option (List (List ℕ))). key_by i' x m p) b
    ∙ ap (λ (x : Option (List ℕ)). key_by i' ns' x p) c ∙ ap (λ (x : Option Provider). key_by i' ns' m' x) d

pub key_again : (m : List ℕ) (now : ℕ) (is : Items) (k : KeyDoc) → key_in is ≡ Ok k
    → key_in (with_material m now is) ≡ Ok (rekeyed m k)
unfolding key_in
key_again m now is k e =
    let s = says is k e in
    key_from _ (Some k.id) _ (Some k.names) _ (Some m) _ (Some k.provider)
    (ap id_in (other_stands (codes "_id") m now is (same_name (codes "_id") m now (λ t. refl))) ∙ s.id)
    (ap names_in (other_stands (codes "keyAltNames") m now is (same_name (codes "keyAltNames") m now (λ t. refl)))
    ∙ s.names)
    (ap material_in (material_stands m now is)
    ∙ material_by m (standing (codes "keyMaterial") is) k.material s.material)
    (ap provider_in (other_stands (codes "masterKey") m now is (same_name (codes "masterKey") m now (λ t. refl)))
    ∙ s.provider)

-- ---- the size of its material

contents_size : (b : Bool) (bytes x : List ℕ) → length x ≡ 160 → cond b (Some (drop 5 bytes)) None ≡ Some x
    → length bytes ≡ 165
contents_size true bytes x long e =
    let same : length (drop 5 bytes) ≡ length x = ap (λ (o : Option (List ℕ)). length (unwrap_or o [])) e in
    omega (arith, length-drop 5 bytes, same, long)
contents_size false bytes x long e = absurd (false≢true (ap is_some e))

-- a document whose key has a material of 160 bytes
pub sized_key : (is : Items) (k : KeyDoc) → key_in is ≡ Ok k → length k.material ≡ 160 → Sized is
sized_key is k e long = by_standing (standing (codes "keyMaterial") is) refl (says is k e).material
  where
    by_standing : (s : Standing) → standing (codes "keyMaterial") is ≡ s → material_in s ≡ Some k.material → Sized is
    by_standing absent at m = absurd (false≢true (ap is_some m))
    by_standing (once t) at m =
        sized_once is t at
        (contents_size (is_binary t && (slice_index (value_bytes t) 4 == 0)) (value_bytes t) k.material long m)
    by_standing repeated at m = absurd (false≢true (ap is_some m))

-- ---- its material is bytes

-- the bytes of each value of a list's that stands once
once_bytes : (word : List ℕ) (is : Items) (t : Tree) → Bytes (items_bytes is) → standing word is ≡ once t
    → Bytes (value_bytes t)
unfolding standing
once_bytes word no_items t h e = absurd (false≢true (ap is_once e))
once_bytes word (item name u is) t h e =
    by_name (bytes_eq name word) e (λ f. once_bytes word is t (others_of name u is h) f)
  where
    by_name : (b : Bool) → cond b (stands_too u (standing word is)) (standing word is) ≡ once t
        → (standing word is ≡ once t → Bytes (value_bytes t)) → Bytes (value_bytes t)
    by_name true e others =
        subst (λ (v : Tree). Bytes (value_bytes v)) (only_one u (standing word is) t e).0 (value_of name u is h)
    by_name false e others = others e

contents_bytes : (b : Bool) (bytes x : List ℕ) → Bytes bytes → cond b (Some (drop 5 bytes)) None ≡ Some x → Bytes x
contents_bytes true bytes x h e =
    subst Bytes (ap (λ (o : Option (List ℕ)). unwrap_or o []) e) (All-drop (λ b. b < 256) 5 bytes h)
contents_bytes false bytes x h e = absurd (false≢true (ap is_some e))

pub material_bytes_of : (is : Items) (k : KeyDoc) → key_in is ≡ Ok k → Bytes (items_bytes is) → Bytes k.material
material_bytes_of is k e h = by_standing (standing (codes "keyMaterial") is) refl (says is k e).material
  where
    by_standing : (s : Standing) → standing (codes "keyMaterial") is ≡ s → material_in s ≡ Some k.material
        → Bytes k.material
    by_standing absent at m = absurd (false≢true (ap is_some m))
    by_standing (once t) at m =
        contents_bytes (is_binary t && (slice_index (value_bytes t) 4 == 0)) (value_bytes t) k.material
        (once_bytes (codes "keyMaterial") is t h at) m
    by_standing repeated at m = absurd (false≢true (ap is_some m))
