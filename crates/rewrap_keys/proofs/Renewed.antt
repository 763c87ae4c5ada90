-- A vault under a new master key loads, and its keys open as before.
use Rattle.std.proofs.Common.{◌≡◌, ◌∙◌, ℕ, suc, ◌+◌, ◌<◌, ◌≤◌, Bool, true, false, not, cond, ◌&&◌, ◌||◌, List, []}
use Rattle.std.proofs.Common.{◌∷◌, ◌++◌, length, drop, Some, None, Option, Ok, refl, sym, ap, subst, arith}
use Rattle.std.proofs.Common.{inl, inr, length-append}
use Rattle.std.specs.Prelude.{bytes_eq, is_some, nat_lt, unwrap_or}
use Rattle.std.proofs.lemmas.Bool.{cases_lt, false≢true}
use Rattle.std.proofs.lemmas.List.{drop_at, get_or_past, length-drop, take_at}
use Rattle.std.proofs.lemmas.List.Elements.{All-drop, All-get_or, All-take}
use Rattle.aes_block.specs.Block.{IsBlock}
use Rattle.bson_tree.specs.Tree.{Items}
use Rattle.bson_tree.specs.Spelling.{doc_bytes, framed, items_bytes}
use Rattle.bson_codec.specs.Bytes.{AreBytes}
use Rattle.bson_codec.specs.Layout.{IsDoc}
use Rattle.data_key.specs.declared.key_doc.KeyDoc.{KeyDoc}
use Rattle.data_key.specs.declared.key_doc.Provider.{Provider}
use Rattle.data_key.specs.declared.key_doc.Provider.TheVariants as providers
use Rattle.data_key.specs.Key.{key_in}
use Rattle.fle_outside.specs.Blocks.{AreBlocks, Block, IsBlock as IsDrawn}
use Rattle.key_vault.specs.Keys.{first_key, has_id, has_name, is_among, key_by_id, key_by_name, place_from}
use Rattle.key_vault.specs.Loading.{are_new, is_id_known, is_name_known, key_limit, vault}
use Rattle.key_vault.specs.Lookup.{opened_by, opened_key, or_damaged}
use Rattle.local_kms.specs.Made.{block_at, material_of}
use Rattle.local_kms.specs.Wrapped.{unwrapped}
use Rattle.rewrap_keys.specs.Documents.{documents, spelled}
use Rattle.rewrap_keys.specs.Reloaded.{Label, Reloads, labels, material_by, new_key, new_keys}
use Rattle.rewrap_keys.specs.Rewrapped.{Change, draws_by, draws_of, first_damaged}
use Rattle.rewrap_keys.specs.Rewrapped.{is_damaged, is_damaged_by, new_document}
use Rattle.rewrap_keys.specs.Rewrapped.{new_material, rewrapped, rewrapped_file, then_others}
use Rattle.rewrap_keys.proofs.Listed.{AreKeys, Behind, behind, behind_again, listed, reads_back}
use Rattle.rewrap_keys.proofs.Opened.{Bytes, material_size, opens, opens_again}
use Rattle.rewrap_keys.proofs.Sized.{doc_laid, doc_size_same}
use Rattle.rewrap_keys.proofs.Stated.{key_again, material_bytes_of, sized_key}

-- none of these keys is damaged
abbrev pub AreWhole : List ℕ → List KeyDoc → Type 0
AreWhole master [] = Unit {0}
AreWhole master (k ∷ ks) = (is_damaged master k ≡ false) × AreWhole master ks

-- ---- one key

-- a document of a key of this provider, made anew
pub record Renewed (c : Change) (blocks : List Block) (d : Items) (k : KeyDoc) (p : Provider) : Type 0 where
  pub doc : IsDoc (new_document c blocks d p k.material)
  pub says : key_in (new_document c blocks d p k.material) ≡ Ok (record {
    id = k.id;
    names = k.names;
    material = material_by c blocks p k.material;
    provider = k.provider;
  })
  pub size : length (doc_bytes (new_document c blocks d p k.material)) ≡ length (doc_bytes d)
  pub opens : opened_by p (unwrapped c.to (material_by c blocks p k.material))
      ≡ opened_by p (unwrapped c.from k.material)

drawn_block : (b : Block) → IsDrawn b → IsBlock b
drawn_block b is = record { len = is.len; bytes = is.bytes }

first_drawn : (blocks : List Block) → AreBlocks blocks → 1 ≤ length blocks → IsBlock (block_at 0 blocks)
first_drawn [] are some = absurd (omega arith)
first_drawn (b ∷ bs) are some = drawn_block b (are 0 [] (omega arith))

renewed_local : (c : Change) (blocks : List Block) (d : Items) (k : KeyDoc) (o : Option (List ℕ))
    → unwrapped c.from k.material ≡ o → not (is_some o) ≡ false
    → IsDoc d → key_in d ≡ Ok k → Bytes k.material → AreBlocks blocks → 1 ≤ length blocks
    → Renewed c blocks d k providers.Local
renewed_local c blocks d k None is whole doc says bytes are some = absurd (false≢true (sym whole))
renewed_local c blocks d k (Some x) is whole doc says bytes are some =
    let h = opens c.from k.material x is in
    let iv : Block = block_at 0 blocks in
    let block : IsBlock iv = first_drawn blocks are some in
    let plain : Bytes x = h.bytes bytes in
    let here : new_material c iv k.material ≡ material_of c.to iv x =
    ap (λ (y : Option (List ℕ)). material_of c.to iv (unwrap_or y [])) is in
    let long : length (new_material c iv k.material) ≡ 160 =
    ap length here ∙ material_size c.to iv x block plain h.size in
    let sized = sized_key d k says h.long in
    record {
      doc = doc_laid (new_material c iv k.material) c.time d long doc sized;
      says = key_again (new_material c iv k.material) c.time d k says;
      size = doc_size_same (new_material c iv k.material) c.time d long doc sized;
      opens = ap (λ (m : List ℕ). or_damaged (unwrapped c.to m)) here
          ∙ ap or_damaged (opens_again c.to iv x block plain h.size) ∙ sym (ap or_damaged is);
    }

renewed : (c : Change) (blocks : List Block) (d : Items) (k : KeyDoc) (p : Provider)
    → is_damaged_by p (unwrapped c.from k.material) ≡ false
    → IsDoc d → key_in d ≡ Ok k → Bytes k.material → AreBlocks blocks → draws_by p ≤ length blocks
    → Renewed c blocks d k p
renewed c blocks d k providers.Local whole doc says bytes are some =
    renewed_local c blocks d k (unwrapped c.from k.material) refl whole doc says bytes are some
renewed c blocks d k providers.Other whole doc says bytes are some =
    record { doc = doc; says = says; size = refl; opens = refl }

-- ---- keys of equal ids and names

abbrev id_among : List ℕ → List Label → Bool
id_among id [] = false
id_among id (l ∷ ls) = cond (bytes_eq l.id id) true (id_among id ls)

abbrev name_among : List ℕ → List Label → Bool
name_among name [] = false
name_among name (l ∷ ls) = cond (is_among name l.names) true (name_among name ls)

some_if : (b : Bool) (k : KeyDoc) (o : Option KeyDoc) → is_some (cond b (Some k) o) ≡ cond b true (is_some o)
some_if true k o = refl
some_if false k o = refl

id_by_labels : (id : List ℕ) (ks : List KeyDoc) → is_id_known ks id ≡ id_among id (labels ks)
id_by_labels id [] = refl
id_by_labels id (k ∷ ks) =
    some_if (bytes_eq k.id id) k (key_by_id ks id)
    ∙ ap (λ (b : Bool). cond (bytes_eq k.id id) true b) (id_by_labels id ks)

name_by_labels : (name : List ℕ) (ks : List KeyDoc) → is_name_known ks name ≡ name_among name (labels ks)
name_by_labels name [] = refl
name_by_labels name (k ∷ ks) =
    some_if (is_among name k.names) k (key_by_name ks name)
    ∙ ap (λ (b : Bool). cond (is_among name k.names) true b) (name_by_labels name ks)

are_new_by : (f g : List ℕ → Bool) (before names : List (List ℕ)) → ((name : List ℕ) → f name ≡ g name)
    → are_new f before names ≡ are_new g before names
are_new_by f g before [] same = refl
are_new_by f g before (name ∷ names) same =
    ap (λ (b : Bool). not (is_among name before || b) && are_new f (name ∷ before) names) (same name)
    ∙ ap (λ (b : Bool). not (is_among name before || g name) && b) (are_new_by f g (name ∷ before) names same)

labels_append : (xs ys : List KeyDoc) → labels (xs ++ ys) ≡ labels xs ++ labels ys
labels_append [] ys = refl
labels_append (x ∷ xs) ys =
    ap (λ (ls : List Label). record { id = x.id; names = x.names; provider = x.provider } ∷ ls) (labels_append xs ys)

labels_length : (xs : List KeyDoc) → length (labels xs) ≡ length xs
labels_length [] = refl
labels_length (x ∷ xs) = ap suc (labels_length xs)

-- the new document stands behind keys with the same ids and names
behind_new : (c : Change) (blocks : List Block) (d : Items) (k : KeyDoc) (before now : List KeyDoc)
    → labels now ≡ labels before → Behind before d k → Renewed c blocks d k k.provider
    → Behind now (new_document c blocks d k.provider k.material) (new_key c blocks k)
behind_new c blocks d k before now same b r =
    record {
      room = ap (λ (n : ℕ). nat_lt n key_limit)
          (sym (labels_length now) ∙ (ap length same ∙ labels_length before)) ∙ b.room;
      says = r.says;
      id = id_by_labels k.id now ∙ ap (id_among k.id) same ∙ sym (id_by_labels k.id before) ∙ b.id;
      names = are_new_by (is_name_known now) (is_name_known before) [] k.names
          (λ name. name_by_labels name now ∙ ap (name_among name) same ∙ sym (name_by_labels name before)) ∙ b.names;
    }

-- ---- all keys

front_of : (xs ys : List ℕ) → Bytes (xs ++ ys) → Bytes xs
front_of xs ys h = subst Bytes (take_at xs ys (length xs) refl) (All-take (λ b. b < 256) (length xs) (xs ++ ys) h)

back_of : (xs ys : List ℕ) → Bytes (xs ++ ys) → Bytes ys
back_of xs ys h = subst Bytes (drop_at xs ys (length xs) refl) (All-drop (λ b. b < 256) (length xs) (xs ++ ys) h)

inside_of : (elements : List ℕ) → Bytes (framed elements) → Bytes elements
inside_of elements h = front_of elements (0 ∷ []) (All-drop (λ b. b < 256) 4 (framed elements) h)

-- all keys were made anew
pub record AllRenewed (c : Change) (blocks : List Block) (ds : List Items) (ks : List KeyDoc) (now : List KeyDoc)
    : Type 0 where
  pub are : AreKeys now (rewrapped c ds blocks) (new_keys c ks blocks)
  pub size : length (spelled (rewrapped c ds blocks)) ≡ length (spelled ds)
  pub same : labels (new_keys c ks blocks) ≡ labels ks
  pub look : (test : KeyDoc → Bool) → ((bs : List Block) (k : KeyDoc) → test (new_key c bs k) ≡ test k)
      → opened_key c.to (first_key test (new_keys c ks blocks)) ≡ opened_key c.from (first_key test ks)

found_by : (c : Change) (k new : KeyDoc) (a b : Bool) (x y : Option KeyDoc) → a ≡ b
    → opened_key c.to (Some new) ≡ opened_key c.from (Some k) → opened_key c.to x ≡ opened_key c.from y
    → opened_key c.to (cond a (Some new) x) ≡ opened_key c.from (cond b (Some k) y)
found_by c k new true true x y e here others = here
found_by c k new true false x y e here others = absurd (false≢true (sym e))
found_by c k new false true x y e here others = absurd (false≢true e)
found_by c k new false false x y e here others = others

pub all_renewed : (c : Change) (blocks : List Block) (ds : List Items) (ks before now : List KeyDoc)
    → AreKeys before ds ks → Bytes (spelled ds) → AreWhole c.from ks → labels now ≡ labels before → AreBlocks blocks
    → draws_of ks ≤ length blocks → AllRenewed c blocks ds ks now
all_renewed c blocks [] [] before now are bytes whole same drawn enough =
    record { are = tt; size = refl; same = refl; look = λ test stays. refl }
all_renewed c blocks [] (k ∷ ks) before now are bytes whole same drawn enough = absurd are
all_renewed c blocks (d ∷ ds) [] before now are bytes whole same drawn enough = absurd are
all_renewed c blocks (d ∷ ds) (k ∷ ks) before now are bytes whole same drawn enough =
    let b = behind before d k are.1 in
    let material : Bytes k.material =
    material_bytes_of d k b.says (inside_of (items_bytes d) (front_of (doc_bytes d) (spelled ds) bytes)) in
    let r = renewed c blocks d k k.provider whole.0 are.0 b.says material drawn (omega (arith, enough)) in
    let n : ℕ = draws_by k.provider in
    let others = all_renewed c (drop n blocks) ds ks (before ++ k ∷ []) (now ++ new_key c blocks k ∷ []) are.2
    (back_of (doc_bytes d) (spelled ds) bytes) whole.1
    (labels_append now (new_key c blocks k ∷ []) ∙ ap (λ (ls : List Label). ls ++ labels (k ∷ [])) same
    ∙ sym (labels_append before (k ∷ []))) (All-drop IsDrawn n blocks drawn)
    (omega (arith, enough, length-drop n blocks)) in
    let step : rewrapped c (d ∷ ds) blocks
    ≡ new_document c blocks d k.provider k.material ∷ rewrapped c ds (drop n blocks) =
    ap (then_others c (rewrapped c ds) blocks d) b.says in
    record {
      are = subst (λ (es : List Items). AreKeys now es (new_keys c (k ∷ ks) blocks)) (sym step) (
        r.doc,
        behind_again now (new_document c blocks d k.provider k.material) (new_key c blocks k)
            (behind_new c blocks d k before now same b r),
        others.are,
      );
      size = ap (λ (es : List Items). length (spelled es)) step
          ∙ omega (
            arith,
            r.size,
            others.size,
            length-append (doc_bytes (new_document c blocks d k.provider k.material))
                (spelled (rewrapped c ds (drop n blocks))),
            length-append (doc_bytes d) (spelled ds),
          );
      same = ap (λ (ls : List Label). record { id = k.id; names = k.names; provider = k.provider } ∷ ls) others.same;
      look = λ test stays. found_by c k (new_key c blocks k) (test (new_key c blocks k)) (test k) _ _ (stays blocks k)
          r.opens (others.look test stays);
    }

-- none is damaged
pub are_whole : (n : ℕ) (master : List ℕ) (ks : List KeyDoc) → place_from n (is_damaged master) ks ≡ None
    → AreWhole master ks
are_whole n master [] e = tt
are_whole n master (k ∷ ks) e = by_test (is_damaged master k) refl e (λ f. are_whole (n + 1) master ks f)
  where
    by_test : (b : Bool) → is_damaged master k ≡ b → cond b (Some n) (place_from (n + 1) (is_damaged master) ks) ≡ None
        → (place_from (n + 1) (is_damaged master) ks ≡ None → AreWhole master ks) → AreWhole master (k ∷ ks)
    by_test true is e others = absurd (false≢true (sym (ap is_some e)))
    by_test false is e others = (is, others e)

are_bytes : (bs : List ℕ) → Bytes bs → AreBytes bs
are_bytes bs h i = elim (cases_lt i (length bs)) [
  | inl lt ↦ All-get_or (λ b. b < 256) bs i 0 lt h
  | inr le ↦ rw (get_or_past bs i 0 le) (omega arith)
]

-- the file under the new master key
pub record FileRenewed (c : Change) (blocks : List Block) (bytes : List ℕ) (keys : List KeyDoc) : Type 0 where
  pub loads : vault (rewrapped_file c bytes blocks) ≡ Ok (new_keys c keys blocks)
  pub size : length (rewrapped_file c bytes blocks) ≡ length bytes
  pub reloads : Reloads c.from c.to keys (rewrapped_file c bytes blocks)

pub file_renewed : (c : Change) (bytes : List ℕ) (keys : List KeyDoc) (blocks : List Block) → Bytes bytes
    → vault bytes ≡ Ok keys → first_damaged c.from keys ≡ None → AreBlocks blocks → draws_of keys ≤ length blocks
    → FileRenewed c blocks bytes keys
unfolding vault documents rewrapped_file
file_renewed c bytes keys blocks all loaded whole drawn enough =
    let l = listed (length bytes) [] bytes keys (are_bytes bytes all) (omega arith) loaded in
    let ds = Rattle.rewrap_keys.specs.Documents.documents_from (length bytes) bytes in
    let r = all_renewed c blocks ds l.others [] [] l.are (subst Bytes l.parts all)
    (subst (AreWhole c.from) l.whole (are_whole 1 c.from keys whole)) refl drawn
    (omega (arith, enough, ap draws_of l.whole)) in
    let same : new_keys c l.others blocks ≡ new_keys c keys blocks =
    ap (λ (ks : List KeyDoc). new_keys c ks blocks) (sym l.whole) in
    let loads : vault (spelled (rewrapped c ds blocks)) ≡ Ok (new_keys c keys blocks) =
    reads_back (length (spelled (rewrapped c ds blocks))) [] (rewrapped c ds blocks) (new_keys c l.others blocks) r.are
    (omega arith) ∙ ap (λ (ks : List KeyDoc). Ok ks) same in
    record {
      loads = loads;
      size = r.size ∙ sym (ap length l.parts);
      reloads = record {
        now = new_keys c keys blocks;
        loads = loads;
        same = ap labels (sym same) ∙ r.same ∙ ap labels (sym l.whole);
        by_id = λ id. ap (λ (ks : List KeyDoc). opened_key c.to (key_by_id ks id)) (sym same)
            ∙ r.look (has_id id) (λ bs k. refl)
            ∙ ap (λ (ks : List KeyDoc). opened_key c.from (key_by_id ks id)) (sym l.whole);
        by_name = λ name. ap (λ (ks : List KeyDoc). opened_key c.to (key_by_name ks name)) (sym same)
            ∙ r.look (has_name name) (λ bs k. refl)
            ∙ ap (λ (ks : List KeyDoc). opened_key c.from (key_by_name ks name)) (sym l.whole);
      };
    }
