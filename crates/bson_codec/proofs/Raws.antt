-- Raw values: what is read has the layout, and what has the layout is read.
use Rattle.std.proofs.Common.{◌≡◌, ℕ, zero, suc, ◌+◌, ◌-◌, ◌^◌, ◌<◌, ◌≤◌, true, false, ltb, List, [], ◌∷◌, ◌++◌, length}
use Rattle.std.proofs.Common.{get_or, take, drop, Result, Ok, Err, refl, sym, ap, subst, ◌∙◌, arith, inl, inr, ◌⊎◌}
use Rattle.std.specs.Int.{w32, to_le_bytes}
use Rattle.std.proofs.lemmas.Bool.{ltb-false, le-ltb}
use Rattle.std.proofs.lemmas.List.{drop-drop, drop_at, length-drop, length-append, length-take-le, nil_from_length}
use Rattle.std.proofs.lemmas.List.{append-nil, take-append-drop}
use Rattle.bson_tree.specs.Tree.{Items}
use Rattle.bson_tree.specs.Spelling.{items_bytes, doc_bytes}
use Rattle.bson_codec.specs.declared.fault.BsonFault.{BsonFault}
use Rattle.bson_codec.specs.declared.table.RawLayout.{RawLayout}
use Rattle.bson_codec.specs.declared.table.RawLayout.TheVariants as raws
use Rattle.bson_codec.specs.Fault.{fault_if, ◌>>=◌}
use Rattle.bson_codec.specs.Layout.{IsName, IsInside, IsRaw, string_bytes, binary_bytes, scope_bytes}
use Rattle.bson_codec.specs.Reading.{Reader, int32_at, length_at, zero_at, bytes_at, bool_at, string_at, binary_at}
use Rattle.bson_codec.specs.Reading.{cstring_at, regex_at, pointer_at, scope_at, width_of, raw_at}
use Rattle.bson_codec.proofs.Steps.{made, ok_is, bind_ok, none_if, chose_ok, refused}
use Rattle.bson_codec.specs.Bytes.{AreBytes}
use Rattle.bson_codec.proofs.Pieces.{AreBytes-drop, AreBytes-take, Begins, begins_of, begins_all, begins_take}
use Rattle.bson_codec.proofs.Pieces.{begins_then, begins_is, begins_fits, begins_byte, begins_first, begins_second}
use Rattle.bson_codec.proofs.Lengths.{number_takes, number_again, length_takes, length_again, zero_takes, zero_again}
use Rattle.bson_codec.proofs.Names.{name_takes, name_again}
use Rattle.bson_tree.proofs.Sizes.{framed_size}
use Rattle.bson_codec.proofs.Readers.{Reads}

-- a raw value of this layout, of n bytes
pub record RawRead (D : Items → Type 0) (layout : RawLayout) (bs : List ℕ) (n : ℕ) : Type 0 where
  pub fits : n ≤ length bs
  pub laid : IsRaw D layout (take n bs)

-- ---- fixed widths

pub fixed_takes : (width p : ℕ) (bs : List ℕ) (n : ℕ) → bytes_at width p bs ≡ Ok n → (width ≡ n) × (width ≤ length bs)
unfolding bytes_at
fixed_takes width p bs n e =
    let g = chose_ok (ltb (length bs) width) _ width n e in
    (g.1, ltb-false _ _ g.0)

pub fixed_again : (width p : ℕ) (bs : List ℕ) → width ≤ length bs → bytes_at width p bs ≡ Ok width
unfolding bytes_at
fixed_again width p bs fits =
    let long : ltb (length bs) width ≡ false = le-ltb _ _ fits in
    rw long refl

-- ---- booleans

one_of : (b : ℕ) → b ≤ 1 → (b ∷ [] ≡ 0 ∷ []) ⊎ (b ∷ [] ≡ 1 ∷ [])
one_of zero h = inl refl
one_of (suc zero) h = inr refl
one_of (suc (suc b)) h = absurd (omega arith)

pub bool_takes : (D : Items → Type 0) (p : ℕ) (bs : List ℕ) (n : ℕ) → bool_at p bs ≡ Ok n → RawRead D raws.Bool bs n
unfolding bool_at
bool_takes D p bs n e =
    let a = bind_ok (bytes_at 1 p bs) _ n e in
    let w = fixed_takes 1 p bs a.value a.first in
    let b = bind_ok (fault_if (ltb 1 (get_or bs 0 0)) _ p) _ n a.then in
    let low : get_or bs 0 0 ≤ 1 = ltb-false _ _ (none_if _ _ _ _ b.first) in
    let n-is : 1 ≡ n = w.0 ∙ ok_is a.value n b.then in
    let some : 0 < length bs = omega (arith, w.1) in
    let byte : take 1 bs ≡ get_or bs 0 0 ∷ [] = begins_is bs _ 1 (begins_byte bs 0 some) in
    subst (λ (k : ℕ). RawRead D raws.Bool bs k) n-is
    (record {
      fits = w.1;
      laid = subst (λ (x : List ℕ). (x ≡ 0 ∷ []) ⊎ (x ≡ 1 ∷ [])) (sym byte)
          (one_of (get_or bs 0 0) low);
    })

pub bool_again : (p : ℕ) (bs : List ℕ) (b : ℕ) → b ≤ 1 → Begins bs (b ∷ []) 1 → bool_at p bs ≡ Ok 1
unfolding bool_at
bool_again p bs b low begins =
    let fits : 1 ≤ length bs = begins_fits bs _ 1 begins in
    let first : get_or bs 0 0 ≡ b = ap (λ (x : List ℕ). get_or x 0 0) begins.parts in
    let test : ltb 1 (get_or bs 0 0) ≡ false = le-ltb _ _ (omega (arith, first)) in
    rw (fixed_again 1 p bs fits, test) refl

-- ---- strings

string_parts : (bs : List ℕ) (k : ℕ) → Begins bs (to_le_bytes w32 (k + 1)) 4 → 4 + (k + 1) ≤ length bs
    → Begins (drop (4 + k) bs) (0 ∷ []) 1
    → Begins bs (string_bytes (take k (drop 4 bs))) (k + 5)
string_parts bs k head fits end =
    let inside : k ≤ length (drop 4 bs) = omega (arith, length-drop 4 bs) in
    let text = begins_take k (drop 4 bs) inside in
    let last : Begins (drop k (drop 4 bs)) (0 ∷ []) 1 =
    subst (λ (x : List ℕ). Begins x (0 ∷ []) 1) (sym (drop-drop k 4 bs)) end in
    let tail : Begins (drop 4 bs) (take k (drop 4 bs) ++ 0 ∷ []) (k + 1) =
    begins_then (drop 4 bs) (take k (drop 4 bs)) (0 ∷ []) k 1 text last in
    let whole = begins_then bs (to_le_bytes w32 (k + 1)) (take k (drop 4 bs) ++ 0 ∷ []) 4 (k + 1) head tail in
    let count : k ≡ length (take k (drop 4 bs)) = sym (length-take-le k (drop 4 bs) inside) in
    let sized : Begins bs (string_bytes (take k (drop 4 bs))) (4 + (k + 1)) =
    subst (λ (j : ℕ). Begins bs (to_le_bytes w32 (j + 1) ++ (take k (drop 4 bs) ++ 0 ∷ [])) (4 + (k + 1))) count whole
    in
    let sum : 4 + (k + 1) ≡ k + 5 = omega arith in
    subst (λ (j : ℕ). Begins bs (string_bytes (take k (drop 4 bs))) j) sum sized

pub string_takes : (D : Items → Type 0) (p : ℕ) (bs : List ℕ) (n : ℕ) → AreBytes bs → string_at p bs ≡ Ok n
    → RawRead D raws.Text bs n
unfolding string_at
string_takes D p bs n fits e =
    let a = bind_ok (int32_at p bs) _ n e in
    let b = bind_ok (length_at 1 4 a.value p bs) _ n a.then in
    let j = length_takes 1 4 a.value p bs b.value b.first in
    let c = bind_ok (zero_at (b.value + 3) p bs) _ n b.then in
    let k : ℕ = a.value - 1 in
    let stated : a.value ≡ k + 1 = omega (arith, j.least) in
    let place : b.value + 3 ≡ 4 + k = omega (arith, j.least, j.same) in
    let inside : b.value + 3 < length bs = omega (arith, j.fits, j.same) in
    let head : Begins bs (to_le_bytes w32 (k + 1)) 4 =
    subst (λ (m : ℕ). Begins bs (to_le_bytes w32 m) 4) stated (number_takes p bs a.value fits a.first) in
    let end : Begins (drop (4 + k) bs) (0 ∷ []) 1 =
    subst (λ (m : ℕ). Begins (drop m bs) (0 ∷ []) 1) place (zero_takes (b.value + 3) p bs c.value inside c.first) in
    let long : 4 + (k + 1) ≤ length bs = omega (arith, j.fits, stated) in
    let whole = string_parts bs k head long end in
    let same : b.value + 4 ≡ n = ok_is _ _ c.then in
    let width : k + 5 ≡ n = omega (arith, stated, j.same, same) in
    let inside' : k ≤ length (drop 4 bs) = omega (arith, length-drop 4 bs) in
    let small : length (take k (drop 4 bs)) + 1 < 2 ^ 31 =
    omega (arith, length-take-le k (drop 4 bs) inside', j.small, stated) in
    subst (λ (m : ℕ). RawRead D raws.Text bs m) width
    (record {
      fits = omega (arith, long);
      laid = record {
        text = take k (drop 4 bs);
        fits = small;
        parts = begins_is bs _ (k + 5) whole;
      };
    })

pub string_again : (p : ℕ) (bs text : List ℕ) (n : ℕ) → length text + 1 < 2 ^ 31 → Begins bs (string_bytes text) n
    → string_at p bs ≡ Ok n
unfolding string_at
string_again p bs text n small begins =
    let size : 4 + (length text + 1) ≡ n = omega (arith, length-append text (0 ∷ []), begins.size) in
    let fits : n ≤ length bs = begins_fits bs _ n begins in
    let head : Begins bs (to_le_bytes w32 (length text + 1)) 4 =
    begins_first bs (to_le_bytes w32 (length text + 1)) (text ++ 0 ∷ []) n begins in
    let tail : Begins (drop 4 bs) (text ++ 0 ∷ []) (length (text ++ 0 ∷ [])) =
    begins_second bs (to_le_bytes w32 (length text + 1)) (text ++ 0 ∷ []) n begins in
    let last : Begins (drop (length text) (drop 4 bs)) (0 ∷ []) 1 = begins_second (drop 4 bs) text (0 ∷ []) _ tail in
    let place : drop (length text) (drop 4 bs) ≡ drop (length text + 1 + 3) bs =
    drop-drop (length text) 4 bs ∙ ap (λ (m : ℕ). drop m bs) (omega arith) in
    let end : Begins (drop (length text + 1 + 3) bs) (0 ∷ []) 1 =
    subst (λ (x : List ℕ). Begins x (0 ∷ []) 1) place last in
    let a : int32_at p bs ≡ Ok (length text + 1) = number_again p bs (length text + 1) (omega arith) head in
    let b : length_at 1 4 (length text + 1) p bs ≡ Ok (length text + 1) =
    length_again 1 4 (length text + 1) p bs (omega arith) small (omega (arith, size, fits)) in
    let c : zero_at (length text + 1 + 3) p bs ≡ Ok tt = zero_again (length text + 1 + 3) p bs end in
    let d : length text + 1 + 4 ≡ n = omega (arith, size) in
    rw (a, b, c) (ap (λ (m : ℕ). made m) d)

-- ---- binaries

pub binary_takes : (D : Items → Type 0) (p : ℕ) (bs : List ℕ) (n : ℕ) → AreBytes bs → binary_at p bs ≡ Ok n
    → RawRead D raws.Binary bs n
unfolding binary_at
binary_takes D p bs n fits e =
    let a = bind_ok (int32_at p bs) _ n e in
    let b = bind_ok (length_at 0 5 a.value p bs) _ n a.then in
    let j = length_takes 0 5 a.value p bs b.value b.first in
    let k : ℕ = a.value in
    let same : b.value + 5 ≡ n = ok_is _ _ b.then in
    let width : 4 + (1 + k) ≡ n = omega (arith, j.same, same) in
    let head : Begins bs (to_le_bytes w32 k) 4 = number_takes p bs k fits a.first in
    let some : 4 < length bs = omega (arith, j.fits) in
    let kind : Begins (drop 4 bs) (get_or bs 4 0 ∷ []) 1 = begins_byte bs 4 some in
    let inside : k ≤ length (drop 1 (drop 4 bs)) = omega (arith, length-drop 1 (drop 4 bs), length-drop 4 bs, j.fits) in
    let contents : Begins (drop 1 (drop 4 bs)) (take k (drop 1 (drop 4 bs))) k =
    begins_take k (drop 1 (drop 4 bs)) inside in
    let tail : Begins (drop 4 bs) (get_or bs 4 0 ∷ take k (drop 1 (drop 4 bs))) (1 + k) =
    begins_then (drop 4 bs) (get_or bs 4 0 ∷ []) _ 1 k kind contents in
    let whole = begins_then bs (to_le_bytes w32 k) (get_or bs 4 0 ∷ take k (drop 1 (drop 4 bs))) 4 (1 + k) head tail in
    let count : k ≡ length (take k (drop 1 (drop 4 bs))) = sym (length-take-le k (drop 1 (drop 4 bs)) inside) in
    let sized : Begins bs (binary_bytes (get_or bs 4 0) (take k (drop 1 (drop 4 bs)))) (4 + (1 + k)) =
    subst (λ (m : ℕ). Begins bs (to_le_bytes w32 m ++ (get_or bs 4 0 ∷ take k (drop 1 (drop 4 bs)))) (4 + (1 + k)))
    count whole in
    let small : length (take k (drop 1 (drop 4 bs))) < 2 ^ 31 = omega (arith, count, j.small) in
    subst (λ (m : ℕ). RawRead D raws.Binary bs m) width
    (record {
      fits = omega (arith, j.fits);
      laid = record {
        subtype = get_or bs 4 0;
        contents = take k (drop 1 (drop 4 bs));
        fits = small;
        parts = begins_is bs _ (4 + (1 + k)) sized;
      };
    })

pub binary_again : (p : ℕ) (bs : List ℕ) (subtype : ℕ) (contents : List ℕ) (n : ℕ) → length contents < 2 ^ 31
    → Begins bs (binary_bytes subtype contents) n → binary_at p bs ≡ Ok n
unfolding binary_at
binary_again p bs subtype contents n small begins =
    let size : 4 + (1 + length contents) ≡ n = omega (arith, begins.size) in
    let fits : n ≤ length bs = begins_fits bs _ n begins in
    let head : Begins bs (to_le_bytes w32 (length contents)) 4 =
    begins_first bs (to_le_bytes w32 (length contents)) (subtype ∷ contents) n begins in
    let a : int32_at p bs ≡ Ok (length contents) = number_again p bs (length contents) (omega arith) head in
    let b : length_at 0 5 (length contents) p bs ≡ Ok (length contents) =
    length_again 0 5 (length contents) p bs (omega arith) small (omega (arith, size, fits)) in
    let d : length contents + 5 ≡ n = omega (arith, size) in
    rw (a, b) (ap (λ (m : ℕ). made m) d)

-- ---- regular expressions

pub regex_takes : (D : Items → Type 0) (p : ℕ) (bs : List ℕ) (n : ℕ) → regex_at p bs ≡ Ok n → RawRead D raws.Regex bs n
unfolding regex_at
regex_takes D p bs n e =
    let a = bind_ok (cstring_at p bs) _ n e in
    let b = bind_ok (cstring_at (p + (a.value + 1)) (drop (a.value + 1) bs)) _ n a.then in
    let rest = drop (a.value + 1) bs in
    let first = name_takes p bs a.value a.first in
    let second = name_takes (p + (a.value + 1)) rest b.value b.first in
    let whole = begins_then bs (take a.value bs ++ 0 ∷ []) (take b.value rest ++ 0 ∷ []) (a.value + 1)
    (b.value + 1) first.parts second.parts in
    let width : a.value + 1 + (b.value + 1) ≡ n = ok_is _ _ b.then in
    subst (λ (m : ℕ). RawRead D raws.Regex bs m) width
    (record {
      fits = begins_fits bs _ _ whole;
      laid = record {
        pattern = take a.value bs;
        options = take b.value rest;
        pattern_named = first.name;
        options_named = second.name;
        parts = begins_is bs _ _ whole;
      };
    })

pub regex_again : (p : ℕ) (bs pattern options : List ℕ) (n : ℕ) → IsName pattern → IsName options
    → Begins bs ((pattern ++ 0 ∷ []) ++ (options ++ 0 ∷ [])) n → regex_at p bs ≡ Ok n
unfolding regex_at
regex_again p bs pattern options n named named' begins =
    let first = begins_first bs (pattern ++ 0 ∷ []) (options ++ 0 ∷ []) n begins in
    let ended : length (pattern ++ 0 ∷ []) ≡ length pattern + 1 = length-append pattern (0 ∷ []) in
    let second : Begins (drop (length pattern + 1) bs) (options ++ 0 ∷ []) (length (options ++ 0 ∷ [])) =
    subst (λ (k : ℕ). Begins (drop k bs) (options ++ 0 ∷ []) (length (options ++ 0 ∷ []))) ended
    (begins_second bs (pattern ++ 0 ∷ []) (options ++ 0 ∷ []) n begins) in
    let a : cstring_at p bs ≡ Ok (length pattern) = name_again p bs pattern _ named first in
    let b : cstring_at (p + (length pattern + 1)) (drop (length pattern + 1) bs) ≡ Ok (length options) =
    name_again (p + (length pattern + 1)) (drop (length pattern + 1) bs) options _ named' second in
    let d : length pattern + 1 + (length options + 1) ≡ n =
    omega (
      arith,
      begins.size,
      length-append (pattern ++ 0 ∷ []) (options ++ 0 ∷ []),
      length-append pattern (0 ∷ []),
      length-append options (0 ∷ []),
    ) in
    rw (a, b) (ap (λ (m : ℕ). made m) d)

-- ---- pointers

pub pointer_takes : (D : Items → Type 0) (p : ℕ) (bs : List ℕ) (n : ℕ) → AreBytes bs → pointer_at p bs ≡ Ok n
    → RawRead D raws.Pointer bs n
unfolding pointer_at
pointer_takes D p bs n fits e =
    let a = bind_ok (string_at p bs) _ n e in
    let b = bind_ok (bytes_at 12 (p + a.value) (drop a.value bs)) _ n a.then in
    let text = string_takes D p bs a.value fits a.first in
    let w = fixed_takes 12 (p + a.value) (drop a.value bs) b.value b.first in
    let id = take 12 (drop a.value bs) in
    let whole = begins_then bs (take a.value bs) id a.value 12 (begins_take a.value bs text.fits)
    (begins_take 12 (drop a.value bs) w.1) in
    let spelled : Begins bs (string_bytes text.laid.text ++ id) (a.value + 12) =
    subst (λ (x : List ℕ). Begins bs (x ++ id) (a.value + 12)) text.laid.parts whole in
    let width : a.value + 12 ≡ n = ap (λ (m : ℕ). a.value + m) w.0 ∙ ok_is _ _ b.then in
    subst (λ (m : ℕ). RawRead D raws.Pointer bs m) width
    (record {
      fits = begins_fits bs _ _ spelled;
      laid = record {
        text = text.laid.text;
        id = id;
        fits = text.laid.fits;
        id_size = length-take-le 12 (drop a.value bs) w.1;
        parts = begins_is bs _ _ spelled;
      };
    })

pub pointer_again : (p : ℕ) (bs text id : List ℕ) (n : ℕ) → length text + 1 < 2 ^ 31 → length id ≡ 12
    → Begins bs (string_bytes text ++ id) n → pointer_at p bs ≡ Ok n
unfolding pointer_at
pointer_again p bs text id n small size begins =
    let w : ℕ = length (string_bytes text) in
    let first : Begins bs (string_bytes text) w = begins_first bs (string_bytes text) id n begins in
    let second : Begins (drop w bs) id (length id) = begins_second bs (string_bytes text) id n begins in
    let a : string_at p bs ≡ Ok w = string_again p bs text w small first in
    let b : bytes_at 12 (p + w) (drop w bs) ≡ Ok 12 =
    fixed_again 12 (p + w) (drop w bs) (omega (arith, begins_fits (drop w bs) id (length id) second, size)) in
    let d : w + 12 ≡ n = omega (arith, begins.size, length-append (string_bytes text) id, size) in
    ap (λ (r : Result ℕ BsonFault). r >>= λ m. bytes_at 12 (p + m) (drop m bs) >>= λ k. Ok (m + k)) a
    ∙ ap (λ (r : Result ℕ BsonFault). r >>= λ k. Ok (w + k)) b
    ∙ ap (λ (m : ℕ). made m) d

-- ---- code with its scope

-- the reading of a document inside whose number of bytes is known
record Known (r : Result (Items × ℕ) BsonFault) (w : ℕ) : Type 0 where
  read : Items × ℕ
  is : r ≡ Ok read
  width : read.1 ≡ w

known : (r : Result (Items × ℕ) BsonFault) (w : ℕ) → width_of r ≡ Ok w → Known r w
known (Ok x) w e = record { read = x; is = refl; width = ok_is x.1 w e }
known (Err d) w e = absurd (refused d w e)

pub scope_takes : (D : Items → Type 0) (f : Reader) (reads : Reads f D) (p : ℕ) (bs : List ℕ) (n : ℕ) → AreBytes bs
    → scope_at f p bs ≡ Ok n → RawRead D raws.Scope bs n
unfolding scope_at
scope_takes D f reads p bs n fits e =
    let a = bind_ok (int32_at p bs) _ n e in
    let b = bind_ok (length_at 14 0 a.value p bs) _ n a.then in
    let j = length_takes 14 0 a.value p bs b.value b.first in
    let inner : List ℕ = take (b.value - 4) (drop 4 bs) in
    let c = bind_ok (string_at (p + 4) inner) _ n b.then in
    let rest : List ℕ = drop c.value inner in
    let d = bind_ok (width_of (f true (p + (c.value + 4)) rest)) _ n c.then in
    let inner_fits : AreBytes inner = AreBytes-take (b.value - 4) (drop 4 bs) (AreBytes-drop 4 bs fits) in
    let code = string_takes D (p + 4) inner c.value inner_fits c.first in
    let scope = known (f true (p + (c.value + 4)) rest) d.value d.first in
    let inside = reads.takes true (p + (c.value + 4)) rest scope.read
    (AreBytes-drop c.value inner inner_fits) scope.is in
    let full : scope.read.1 ≡ length rest = reads.full (p + (c.value + 4)) rest scope.read scope.is in
    let nothing : drop scope.read.1 rest ≡ [] = nil_from_length _ (omega (arith, length-drop scope.read.1 rest)) in
    let rest_is : rest ≡ doc_bytes scope.read.0 =
    inside.parts.parts ∙ ap (λ (x : List ℕ). doc_bytes scope.read.0 ++ x) nothing
    ∙ append-nil (doc_bytes scope.read.0) in
    let spelled : List ℕ = string_bytes code.laid.text ++ doc_bytes scope.read.0 in
    let inner_is : inner ≡ spelled =
    sym (take-append-drop c.value inner) ∙ ap (λ (x : List ℕ). x ++ rest) code.laid.parts
    ∙ ap (λ (x : List ℕ). string_bytes code.laid.text ++ x) rest_is in
    let room : b.value - 4 ≤ length (drop 4 bs) = omega (arith, length-drop 4 bs, j.fits, j.same) in
    let size : length spelled ≡ b.value - 4 = sym (ap length inner_is)
    ∙ length-take-le (b.value - 4) (drop 4 bs) room in
    let total : a.value ≡ length spelled + 4 = omega (arith, size, j.least, j.same) in
    let head : Begins bs (to_le_bytes w32 (length spelled + 4)) 4 =
    subst (λ (m : ℕ). Begins bs (to_le_bytes w32 m) 4) total (number_takes p bs a.value fits a.first) in
    let tail : Begins (drop 4 bs) spelled (b.value - 4) =
    subst (λ (x : List ℕ). Begins (drop 4 bs) x (b.value - 4)) inner_is
    (begins_take (b.value - 4) (drop 4 bs) room) in
    let whole : Begins bs (scope_bytes code.laid.text scope.read.0) (4 + (b.value - 4)) =
    begins_then bs (to_le_bytes w32 (length spelled + 4)) spelled 4 (b.value - 4) head tail in
    let is : b.value ≡ n = ok_is b.value n d.then in
    let width : 4 + (b.value - 4) ≡ n = omega (arith, is, j.least, j.same) in
    let small : length (scope_bytes code.laid.text scope.read.0) < 2 ^ 31 =
    omega (arith, whole.size, width, is, j.same, j.small) in
    subst (λ (m : ℕ). RawRead D raws.Scope bs m) width
    (record {
      fits = begins_fits bs _ _ whole;
      laid = record {
        code = code.laid.text;
        scope = scope.read.0;
        inside = inside.inside.inside;
        fits = small;
        parts = begins_is bs _ _ whole;
      };
    })

-- the text and the document of code with its scope
abbrev within : Reader → ℕ → ℕ → List ℕ → Result ℕ BsonFault
within f p n inner = string_at (p + 4) inner >>= λ m. width_of (f true (p + (m + 4)) (drop m inner)) >>= λ _. Ok n

abbrev rest_of : Reader → ℕ → List ℕ → ℕ → Result ℕ BsonFault
rest_of f p bs n = within f p n (take (n - 4) (drop 4 bs))

pub scope_again : (D : Items → Type 0) (f : Reader) (reads : Reads f D) (p : ℕ) (bs code : List ℕ) (scope : Items)
    (n : ℕ) → D scope → length (scope_bytes code scope) < 2 ^ 31
    → Begins bs (scope_bytes code scope) n → scope_at f p bs ≡ Ok n
unfolding scope_at
scope_again D f reads p bs code scope n holds small begins =
    let spelled : List ℕ = string_bytes code ++ doc_bytes scope in
    let w : ℕ = length (string_bytes code) in
    let total : length spelled + 4 ≡ n = omega (arith, begins.size) in
    let fits : n ≤ length bs = begins_fits bs _ n begins in
    let head : Begins bs (to_le_bytes w32 (length spelled + 4)) 4 =
    begins_first bs (to_le_bytes w32 (length spelled + 4)) spelled n begins in
    let stated : Begins bs (to_le_bytes w32 n) 4 = subst (λ (m : ℕ). Begins bs (to_le_bytes w32 m) 4) total head in
    let tail : Begins (drop 4 bs) spelled (length spelled) =
    begins_second bs (to_le_bytes w32 (length spelled + 4)) spelled n begins in
    let small' : n < 2 ^ 31 = omega (arith, small, begins.size) in
    let sum : length spelled ≡ w + length (doc_bytes scope) = length-append (string_bytes code) (doc_bytes scope) in
    let code_size : w ≡ length code + 5 = omega (arith, length-append code (0 ∷ [])) in
    let scope_size : length (doc_bytes scope) ≡ length (items_bytes scope) + 5 = framed_size (items_bytes scope) in
    let count : length spelled ≡ n - 4 = omega (arith, total) in
    let inner : take (n - 4) (drop 4 bs) ≡ spelled =
    ap (λ (k : ℕ). take k (drop 4 bs)) (sym count) ∙ begins_is (drop 4 bs) spelled (length spelled) tail in
    let rest : drop w spelled ≡ doc_bytes scope = drop_at (string_bytes code) (doc_bytes scope) w refl in
    let a : int32_at p bs ≡ Ok n = number_again p bs n (omega arith) stated in
    let b : length_at 14 0 n p bs ≡ Ok n = length_again 14 0 n p bs
    (omega (arith, total, sum, code_size, scope_size)) small' (omega (arith, fits)) in
    let c : string_at (p + 4) spelled ≡ Ok w = string_again (p + 4) spelled code w
    (omega (arith, code_size, sum, total)) (begins_of (string_bytes code) (doc_bytes scope)) in
    let inside : IsInside D scope = record { inside = holds; fits = omega (arith, sum, total) } in
    let all : Begins (doc_bytes scope) (doc_bytes scope) (length (doc_bytes scope)) = begins_all (doc_bytes scope) in
    let d : f true (p + (w + 4)) (doc_bytes scope) ≡ Ok (scope, length (doc_bytes scope)) =
    reads.again true (p + (w + 4)) (doc_bytes scope) scope (length (doc_bytes scope)) inside all (λ _. refl) in
    ap (λ (r : Result ℕ BsonFault). r >>= λ stated. length_at 14 0 stated p bs >>= λ k. rest_of f p bs k) a
    ∙ ap (λ (r : Result ℕ BsonFault). r >>= λ k. rest_of f p bs k) b
    ∙ ap (λ (x : List ℕ). within f p n x) inner
    ∙ ap (λ (r : Result ℕ BsonFault). r >>= λ m. width_of (f true (p + (m + 4)) (drop m spelled)) >>= λ _. Ok n) c
    ∙ ap (λ (x : List ℕ). width_of (f true (p + (w + 4)) x) >>= λ _. Ok n) rest
    ∙ ap (λ (r : Result (Items × ℕ) BsonFault). width_of r >>= λ _. Ok n) d

-- ---- all layouts

pub raw_takes : (D : Items → Type 0) (f : Reader) (reads : Reads f D) (layout : RawLayout) (p : ℕ) (bs : List ℕ) (n : ℕ)
    → AreBytes bs → raw_at f layout p bs ≡ Ok n → RawRead D layout bs n
raw_takes D f reads (raws.Fixed width) p bs n fits e =
    let w = fixed_takes width p bs n e in
    subst (λ (m : ℕ). RawRead D (raws.Fixed width) bs m) w.0 (record { fits = w.1; laid = length-take-le width bs w.1 })
raw_takes D f reads raws.Bool p bs n fits e = bool_takes D p bs n e
raw_takes D f reads raws.Text p bs n fits e = string_takes D p bs n fits e
raw_takes D f reads raws.Binary p bs n fits e = binary_takes D p bs n fits e
raw_takes D f reads raws.Regex p bs n fits e = regex_takes D p bs n e
raw_takes D f reads raws.Pointer p bs n fits e = pointer_takes D p bs n fits e
raw_takes D f reads raws.Scope p bs n fits e = scope_takes D f reads p bs n fits e

bool_read : (p : ℕ) (bs bytes : List ℕ) (n : ℕ) → (bytes ≡ 0 ∷ []) ⊎ (bytes ≡ 1 ∷ []) → Begins bs bytes n
    → bool_at p bs ≡ Ok n
bool_read p bs bytes n (inl e) begins =
    let one : n ≡ 1 = sym begins.size ∙ ap length e in
    let first : Begins bs (0 ∷ []) 1 = subst (λ (m : ℕ). Begins bs (0 ∷ []) m) one
    (subst (λ (x : List ℕ). Begins bs x n) e begins) in
    bool_again p bs 0 (omega arith) first ∙ ap (λ (m : ℕ). made m) (sym one)
bool_read p bs bytes n (inr e) begins =
    let one : n ≡ 1 = sym begins.size ∙ ap length e in
    let first : Begins bs (1 ∷ []) 1 = subst (λ (m : ℕ). Begins bs (1 ∷ []) m) one
    (subst (λ (x : List ℕ). Begins bs x n) e begins) in
    bool_again p bs 1 (omega arith) first ∙ ap (λ (m : ℕ). made m) (sym one)

pub raw_again : (D : Items → Type 0) (f : Reader) (reads : Reads f D) (layout : RawLayout) (p : ℕ) (bs bytes : List ℕ)
    (n : ℕ) → IsRaw D layout bytes → Begins bs bytes n → raw_at f layout p bs ≡ Ok n
raw_again D f reads (raws.Fixed width) p bs bytes n laid begins =
    let same : width ≡ n = sym laid ∙ begins.size in
    let fits : width ≤ length bs = omega (arith, begins_fits bs bytes n begins, same) in
    fixed_again width p bs fits ∙ ap (λ (m : ℕ). made m) same
raw_again D f reads raws.Bool p bs bytes n laid begins = bool_read p bs bytes n laid begins
raw_again D f reads raws.Text p bs bytes n laid begins =
    string_again p bs laid.text n laid.fits (subst (λ (x : List ℕ). Begins bs x n) laid.parts begins)
raw_again D f reads raws.Binary p bs bytes n laid begins =
    binary_again p bs laid.subtype laid.contents n laid.fits (subst (λ (x : List ℕ). Begins bs x n) laid.parts begins)
raw_again D f reads raws.Regex p bs bytes n laid begins =
    regex_again p bs laid.pattern laid.options n laid.pattern_named laid.options_named
    (subst (λ (x : List ℕ). Begins bs x n) laid.parts begins)
raw_again D f reads raws.Pointer p bs bytes n laid begins =
    pointer_again p bs laid.text laid.id n laid.fits laid.id_size
    (subst (λ (x : List ℕ). Begins bs x n) laid.parts begins)
raw_again D f reads raws.Scope p bs bytes n laid begins =
    scope_again D f reads p bs laid.code laid.scope n laid.inside laid.fits
    (subst (λ (x : List ℕ). Begins bs x n) laid.parts begins)
