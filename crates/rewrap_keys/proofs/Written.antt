-- What is written document by document.
use Rattle.std.proofs.Common.{◌≡◌, ◌∙◌, ℕ, zero, suc, ◌+◌, ◌<◌, ◌≤◌, false, List, [], ◌∷◌, ◌++◌, length, take, drop}
use Rattle.std.proofs.Common.{drop-cons, get_or, Some, None, Option, Result, Ok, Err}
use Rattle.std.proofs.Common.{refl, sym, ap, subst, arith, append_assoc, length-append}
use Rattle.std.specs.Prelude.{is_ok, is_some, not}
use Rattle.std.proofs.lemmas.Bool.{false≢true}
use Rattle.std.proofs.lemmas.List.{append-nil, drop_at, length-drop, nil_from_length, take_all}
use Rattle.bson_tree.specs.Tree.{Items}
use Rattle.bson_tree.specs.Spelling.{doc_bytes, items_bytes}
use Rattle.bson_tree.proofs.Sizes.{framed_size}
use Rattle.bson_codec.specs.Bytes.{AreBytes}
use Rattle.bson_codec.specs.Layout.{IsDoc}
use Rattle.bson_codec.specs.declared.fault.BsonFault.{BsonFault}
use Rattle.data_key.specs.declared.key_doc.KeyDoc.{KeyDoc}
use Rattle.data_key.specs.declared.key_doc.Provider.{Provider}
use Rattle.data_key.specs.declared.key_doc.Provider.TheVariants as providers
use Rattle.data_key.specs.Key.{key_in}
use Rattle.fle_outside.specs.Blocks.{Block}
use Rattle.fle_outside.specs.Seen.{Draws, EntropySeen}
use Rattle.fle_outside.proofs.Drawings.{draws_none, draws_then}
use Rattle.key_vault.specs.Loading.{vault}
use Rattle.local_kms.specs.Drawn.{Made, FellShort}
use Rattle.local_kms.specs.Made.{block_at}
use Rattle.local_kms.specs.Wrapped.{unwrapped}
use Rattle.rewrap_keys.specs.Answers.{WroteOne}
use Rattle.rewrap_keys.specs.Documents.{documents, spelled}
use Rattle.rewrap_keys.specs.Fields.{with_material}
use Rattle.rewrap_keys.specs.Reloaded.{Reloads}
use Rattle.rewrap_keys.specs.Rewrapped.{Change, draws_by, draws_of, first_damaged}
use Rattle.rewrap_keys.specs.Rewrapped.{is_damaged, is_damaged_by, new_document}
use Rattle.rewrap_keys.specs.Rewrapped.{new_material, rewrapped, rewrapped_file, then_others}
use Rattle.rewrap_keys.proofs.Listed.{AreStated, documents_stated}
use Rattle.rewrap_keys.proofs.Opened.{Bytes, opens}
use Rattle.rewrap_keys.proofs.Renewed.{AreWhole, are_whole, file_renewed}
use Rattle.rewrap_keys.proofs.Sized.{Sized, doc_size_same}
use Rattle.rewrap_keys.proofs.Stated.{sized_key}

-- ---- one document

sized_by : (d : Items) (k : KeyDoc) (master : List ℕ) (o : Option (List ℕ)) → unwrapped master k.material ≡ o
    → not (is_some o) ≡ false → key_in d ≡ Ok k → Sized d
sized_by d k master None is whole says = absurd (false≢true (sym whole))
sized_by d k master (Some x) is whole says = sized_key d k says (opens master k.material x is).long

whole_local : (master : List ℕ) (k : KeyDoc) (p : Provider) → p ≡ providers.Local
    → is_damaged_by p (unwrapped master k.material) ≡ false
    → not (is_some (unwrapped master k.material)) ≡ false
whole_local master k p local whole =
    subst (λ (q : Provider). is_damaged_by q (unwrapped master k.material) ≡ false) local whole

-- a local key's document keeps its size
pub local_size : (master m : List ℕ) (time : ℕ) (d : Items) (k : KeyDoc) → k.provider ≡ providers.Local
    → is_damaged master k ≡ false → key_in d ≡ Ok k → IsDoc d → length m ≡ 160
    → length (doc_bytes (with_material m time d)) ≡ length (doc_bytes d)
local_size master m time d k local whole says doc long =
    doc_size_same m time d long doc (sized_by d k master (unwrapped master k.material) refl
    (whole_local master k k.provider local whole) says)

-- it was written with the block that was drawn
pub wrote_local : (c : Change) (d : Items) (k : KeyDoc) (before after : EntropySeen) (old new m : List ℕ) (at end : ℕ)
    → k.provider ≡ providers.Local → Made before after 1 (λ bs. new_material c (block_at 0 bs) k.material) m
    → take end new ≡ take at old ++ doc_bytes (with_material m c.time d)
    → end ≡ at + length (doc_bytes d)
    → WroteOne c d k before after old new at end
wrote_local c d k before after old new m at end local made written ends =
    let here : new_document c made.blocks d k.provider k.material
    ≡ with_material (new_material c (block_at 0 made.blocks) k.material) c.time d =
    ap (λ (p : Provider). new_document c made.blocks d p k.material) local in
    record {
      drawn = made.blocks;
      number = made.number ∙ sym (ap draws_by local);
      draws = made.draws;
      written = written ∙ ap (λ (x : List ℕ). take at old ++ doc_bytes (with_material x c.time d)) made.is
          ∙ ap (λ (e : Items). take at old ++ doc_bytes e) (sym here);
      ends = ends;
    }

-- another key's document stays
pub wrote_other : (c : Change) (d : Items) (k : KeyDoc) (e : EntropySeen) (old new : List ℕ) (at end : ℕ)
    → k.provider ≡ providers.Other → take end new ≡ take at old ++ doc_bytes d → end ≡ at + length (doc_bytes d)
    → WroteOne c d k e e old new at end
wrote_other c d k e old new at end other written ends =
    record {
      drawn = [];
      number = sym (ap draws_by other);
      draws = draws_none e;
      written =
          written ∙ ap (λ (p : Provider). take at old ++ doc_bytes (new_document c [] d p k.material)) (sym other);
      ends = ends;
    }

-- ---- all documents

-- what is left begins with the item at hand
pub next_of : {A : Type 0} (xs : List A) (i : ℕ) (d : A) → i < length xs
    → drop i xs ≡ get_or xs i d ∷ drop (i + 1) xs
next_of xs i d room =
    let n : suc i ≡ i + 1 = omega arith in
    drop-cons xs i d room ∙ ap (λ (m : ℕ). get_or xs i d ∷ drop m xs) n

pub none_behind : {A : Type 0} (xs : List A) (i : ℕ) → length xs ≤ i → drop i xs ≡ []
none_behind xs i all = nil_from_length (drop i xs) (omega (arith, length-drop i xs))

-- what a call read is the document that is in front
abbrev read_or : Items → Result (Items × ℕ) BsonFault → Items
read_or other (Ok x) = x.0
read_or other (Err fault) = other

pub same_read : (n m : ℕ) (d e : Items) → ◌≡◌ {A = Result (Items × ℕ) BsonFault} (Ok (d, n)) (Ok (e, m)) → e ≡ d
same_read n m d e same = sym (ap (read_or d) same)

pub not_read : (n : ℕ) (d : Items) (fault : BsonFault)
    → ◌≡◌ {A = Result (Items × ℕ) BsonFault} (Ok (d, n)) (Err fault) → ⊥
not_read n d fault same = false≢true (sym (ap is_ok same))

-- the documents of these keys are left, and what is written, and what the others will be, is the file
pub record Passing (c : Change) (bytes : List ℕ) (keys left : List KeyDoc) (rest : List ℕ)
    (before now : EntropySeen) (out : List ℕ) (at : ℕ) : Type 0 where
  pub docs : List Items
  pub parts : rest ≡ spelled docs
  pub stated : AreStated docs left
  pub whole : AreWhole c.from left
  pub room : at + length rest ≡ length bytes
  pub size : length out ≡ length bytes
  pub drawn : List Block
  pub draws : Draws before now drawn
  pub count : length drawn + draws_of left ≡ draws_of keys
  pub written : (more : List Block) → take at out ++ spelled (rewrapped c docs more)
      ≡ spelled (rewrapped c (documents bytes) (drawn ++ more))

pub passing_starts : (c : Change) (bytes : List ℕ) (keys : List KeyDoc) (e : EntropySeen) (out : List ℕ)
    → AreBytes bytes → vault bytes ≡ Ok keys → first_damaged c.from keys ≡ None → length out ≡ length bytes
    → Passing c bytes keys keys bytes e e out 0
passing_starts c bytes keys e out fits loaded whole size =
    let s = documents_stated bytes keys fits loaded in
    record {
      docs = documents bytes;
      parts = s.1;
      stated = s.0;
      whole = are_whole 1 c.from keys whole;
      room = omega arith;
      size = size;
      drawn = [];
      draws = draws_none e;
      count = omega arith;
      written = λ more. refl;
    }

-- the document in front of those that are left
pub record Front (c : Change) (docs : List Items) (key : KeyDoc) (keys : List KeyDoc) : Type 0 where
  pub doc : Items
  pub others : List Items
  pub is : docs ≡ doc ∷ others
  pub laid : IsDoc doc
  pub says : key_in doc ≡ Ok key
  pub stated : AreStated others keys
  pub unharmed : is_damaged c.from key ≡ false
  pub whole : AreWhole c.from keys

front_by : (c : Change) (docs : List Items) (key : KeyDoc) (keys left : List KeyDoc) → left ≡ key ∷ keys
    → AreStated docs left → AreWhole c.from left → Front c docs key keys
front_by c [] key keys left is stated whole = absurd (subst (AreStated []) is stated)
front_by c (d ∷ ds) key keys left is stated whole =
    let s = subst (AreStated (d ∷ ds)) is stated in
    let w = subst (AreWhole c.from) is whole in
    record {
      doc = d;
      others = ds;
      is = refl;
      laid = s.0;
      says = s.1;
      stated = s.2;
      unharmed = w.0;
      whole = w.1;
    }

pub passing_front : (c : Change) (bytes : List ℕ) (keys left : List KeyDoc) (rest : List ℕ) (before now : EntropySeen)
    (out : List ℕ) (at : ℕ) (key : KeyDoc) (behind : List KeyDoc) (p : Passing c bytes keys left rest before now out at)
    → left ≡ key ∷ behind → Front c p.docs key behind
passing_front c bytes keys left rest before now out at key behind p is =
    front_by c p.docs key behind left is p.stated p.whole

-- what was read in front of the bytes is that document
pub front_read : (docs : List Items) (rest behind : List ℕ) (d : Items) (others : List Items) (read : Items)
    → rest ≡ spelled docs → docs ≡ d ∷ others → read ≡ d → rest ≡ doc_bytes read ++ behind → behind ≡ spelled others
front_read docs rest behind d others read parts is same found =
    let whole : doc_bytes d ++ behind ≡ doc_bytes d ++ spelled others =
    ap (λ (e : Items). doc_bytes e ++ behind) (sym same) ∙ sym found ∙ parts ∙ ap spelled is in
    sym (drop_at (doc_bytes d) behind (length (doc_bytes d)) refl)
    ∙ ap (drop (length (doc_bytes d))) whole
    ∙ drop_at (doc_bytes d) (spelled others) (length (doc_bytes d)) refl

-- one of two parts is empty, or holds one
first_of : (xs ys : List Block) (p : Provider) → length xs ≡ draws_by p → (c : Change) (d : Items) (m : List ℕ)
    → new_document c (xs ++ ys) d p m ≡ new_document c xs d p m
first_of [] ys providers.Local n c d m = absurd (omega (arith, n))
first_of (x ∷ xs) ys providers.Local n c d m = refl
first_of xs ys providers.Other n c d m = refl

pub passing_next : (c : Change) (bytes : List ℕ) (keys left : List KeyDoc) (rest : List ℕ)
    (before now after : EntropySeen) (out new : List ℕ) (at end : ℕ) (key : KeyDoc) (others : List KeyDoc)
    (behind : List ℕ) (read : Items) (p : Passing c bytes keys left rest before now out at)
    → left ≡ key ∷ others → (f : Front c p.docs key others) → read ≡ f.doc → rest ≡ doc_bytes read ++ behind
    → length new ≡ length out → WroteOne c read key now after out new at end
    → Passing c bytes keys others behind before after new end
passing_next c bytes keys left rest before now after out new at end key others behind read p is f same found size w =
    let parts : behind ≡ spelled f.others = front_read p.docs rest behind f.doc f.others read p.parts f.is same found in
    let n : ℕ = draws_by key.provider in
    let step : (more : List Block) → rewrapped c p.docs (w.drawn ++ more)
    ≡ new_document c w.drawn read key.provider key.material ∷ rewrapped c f.others more =
    λ more.
    ap (λ (ds : List Items). rewrapped c ds (w.drawn ++ more)) f.is
    ∙ ap (then_others c (rewrapped c f.others) (w.drawn ++ more) f.doc) f.says
    ∙ ap (λ (e : Items). e ∷ rewrapped c f.others (drop n (w.drawn ++ more)))
    (first_of w.drawn more key.provider w.number c f.doc key.material)
    ∙ ap (λ (e : Items). new_document c w.drawn e key.provider key.material
    ∷ rewrapped c f.others (drop n (w.drawn ++ more))) (sym same)
    ∙ ap (λ (bs : List Block). new_document c w.drawn read key.provider key.material ∷ rewrapped c f.others bs)
    (drop_at w.drawn more n w.number) in
    record {
      docs = f.others;
      parts = parts;
      stated = f.stated;
      whole = f.whole;
      room = omega (arith, p.room, w.ends, ap length found, length-append (doc_bytes read) behind);
      size = size ∙ p.size;
      drawn = p.drawn ++ w.drawn;
      draws = draws_then p.draws w.draws;
      count = omega (arith, p.count, ap draws_of is, w.number, length-append p.drawn w.drawn);
      written = λ more.
          ap (λ (x : List ℕ). x ++ spelled (rewrapped c f.others more)) w.written
          ∙ append_assoc (take at out) (doc_bytes (new_document c w.drawn read key.provider key.material))
          (spelled (rewrapped c f.others more))
          ∙ ap (λ (ds : List Items). take at out ++ spelled ds) (sym (step more))
          ∙ p.written (w.drawn ++ more)
          ∙ ap (λ (bs : List Block). spelled (rewrapped c (documents bytes) bs))
          (sym (append_assoc p.drawn w.drawn more));
    }

-- a draw failed
pub passing_fails : (c : Change) (bytes : List ℕ) (keys left : List KeyDoc) (rest : List ℕ)
    (before now after : EntropySeen) (out : List ℕ) (at : ℕ) (key : KeyDoc) (others : List KeyDoc)
    → Passing c bytes keys left rest before now out at
    → left ≡ key ∷ others → FellShort now after (draws_by key.provider) → FellShort before after (draws_of keys)
passing_fails c bytes keys left rest before now after out at key others p is fell =
    record {
      blocks = p.drawn ++ fell.blocks;
      fewer = omega (arith, p.count, ap draws_of is, fell.fewer, length-append p.drawn fell.blocks);
      draws = draws_then p.draws fell.draws;
      rose = omega (arith, p.draws.later, fell.rose);
    }

none_left : (docs : List Items) (left : List KeyDoc) → left ≡ [] → AreStated docs left → docs ≡ []
none_left [] left is stated = refl
none_left (d ∷ ds) left is stated = absurd (subst (AreStated (d ∷ ds)) is stated)

-- all is written
pub passing_ends : (c : Change) (bytes : List ℕ) (keys left : List KeyDoc) (rest : List ℕ)
    (before now : EntropySeen) (out : List ℕ) (at : ℕ) → Passing c bytes keys left rest before now out at → left ≡ []
    → Made before now (draws_of keys) (rewrapped_file c bytes) out
unfolding rewrapped_file
passing_ends c bytes keys left rest before now out at p is =
    let none : p.docs ≡ [] = none_left p.docs left is p.stated in
    let nothing : length rest ≡ 0 = ap length (p.parts ∙ ap spelled none) in
    let all : take at out ≡ out = take_all at out (omega (arith, p.room, p.size, nothing)) in
    record {
      blocks = p.drawn;
      number = omega (arith, p.count, ap draws_of is);
      draws = p.draws;
      is =
          sym all ∙ sym (append-nil (take at out))
          ∙ ap (λ (ds : List Items). take at out ++ spelled (rewrapped c ds [])) (sym none) ∙ p.written []
          ∙ ap (λ (bs : List Block). spelled (rewrapped c (documents bytes) bs)) (append-nil p.drawn);
    }

-- ---- the vault

few_by : (ds : List Items) (ks : List KeyDoc) → AreStated ds ks → length ks ≤ length (spelled ds)
few_by [] [] are = omega arith
few_by [] (k ∷ ks) are = absurd are
few_by (d ∷ ds) [] are = absurd are
few_by (d ∷ ds) (k ∷ ks) are =
    omega (arith, few_by ds ks are.2, framed_size (items_bytes d), length-append (doc_bytes d) (spelled ds))

-- a vault has no more keys than its file has bytes
pub few_keys : (bytes : List ℕ) (keys : List KeyDoc) → AreBytes bytes → vault bytes ≡ Ok keys
    → length keys ≤ length bytes
few_keys bytes keys fits loaded =
    let s = documents_stated bytes keys fits loaded in
    omega (arith, few_by (documents bytes) keys s.0, ap length s.1)

get_or_alike : (xs : List ℕ) (i d e : ℕ) → i < length xs → get_or xs i d ≡ get_or xs i e
get_or_alike [] i d e lt = absurd (omega (arith, lt))
get_or_alike (x ∷ xs) zero d e lt = refl
get_or_alike (x ∷ xs) (suc i) d e lt = get_or_alike xs i d e (omega (arith, lt))

all_bytes : (bs : List ℕ) → AreBytes bs → Bytes bs
all_bytes bs h k d lt = subst (λ (n : ℕ). n < 256) (get_or_alike bs k 0 d lt) (h k)

-- a file that was made of drawn blocks loads
pub made_reloads : (c : Change) (bytes : List ℕ) (keys : List KeyDoc) (before after : EntropySeen) (out : List ℕ)
    → AreBytes bytes → vault bytes ≡ Ok keys → first_damaged c.from keys ≡ None
    → Made before after (draws_of keys) (rewrapped_file c bytes) out → Reloads c.from c.to keys out
made_reloads c bytes keys before after out fits loaded whole made =
    subst (Reloads c.from c.to keys) (sym made.is)
    (file_renewed c bytes keys made.blocks (all_bytes bytes fits) loaded whole made.draws.blocks
    (omega (arith, made.number))).reloads
