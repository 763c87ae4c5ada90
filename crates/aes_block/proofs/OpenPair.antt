-- The rounds of opening, of two blocks side by side.
use Rattle.std.proofs.Common.{◌≡◌, ℕ, zero, suc, ◌+◌, ◌-◌, ◌*◌, ◌%◌, ◌≤◌, List, [], ◌++◌, map, length, refl, ap, sym}
use Rattle.std.proofs.Common.{◌∙◌, ◌<◌, arith, true}
use Rattle.std.specs.Prelude.{bit_xor, slice_index_or}
use Rattle.std.proofs.lemmas.List.{length-map, map-append}
use Rattle.std.proofs.lemmas.Simd.{length-zip2}
use lib.Lanes.{zip2}
use Rattle.aes_block.specs.Block.{IsBlock, xor_bytes}
use Rattle.aes_block.specs.Steps.{state, add_round_key, inv_mix_columns, round_key}
use Rattle.aes_block.specs.declared.tables.TheConstants.{INVERSE, RATIO, PLACES_0, PLACES_1, PLACES_2, PLACES_3}
use Rattle.aes_block.specs.declared.open_tables.TheConstants.{FOURTEEN_U, FOURTEEN_V, ELEVEN_U, ELEVEN_V}
use Rattle.aes_block.specs.declared.open_tables.TheConstants.{THIRTEEN_U, THIRTEEN_V, NINE_U, NINE_V, OPEN_LAST_U}
use Rattle.aes_block.specs.declared.open_tables.TheConstants.{OPEN_LAST_V, OPEN_LOW, OPEN_HIGH}
use Rattle.aes_block.specs.Cipher.{inv_rounds}
use Rattle.aes_block.specs.Nibbles.{all_places, by_nibbles, entry}
use Rattle.aes_block.specs.Sealing.{at_halves, placed, places}
use Rattle.aes_block.specs.Opening.{AreOpeningKeys, both_at, into_open, open_last, open_round}
use Rattle.aes_block.specs.Opening.{open_turns}
use Rattle.aes_block.proofs.Bytes.{zip2-xor_bytes}
use Rattle.aes_block.proofs.Blocks.{IsBlock-add_round_key, IsBlock-inv_sub_bytes, IsBlock-inv_shift_rows}
use Rattle.aes_block.proofs.Computed.{passes_at}
use Rattle.aes_block.proofs.Entries.{append_equal}
use Rattle.aes_block.proofs.OpenLanes.{all_placed, open_begun, open_ended, open_next}
use Rattle.aes_block.proofs.OpenLanes.{OpensTo, open_round_0-is, open_round_1-is, open_round_2-is, open_round_3-is}
use Rattle.aes_block.proofs.WideLanes.{zip2-append}

-- what a turn of both does
abbrev pub TurnsBoth : List ℕ → List ℕ → List ℕ → Type 0
TurnsBoth r x at = (a b : List ℕ) → length a ≡ 16 → length b ≡ 16 → x ≡ a ++ b
    → r ≡ map (entry a) at ++ map (entry b) at

-- a sum of two blocks
pub both_summed : (a b c d : List ℕ) {p q : List ℕ} → p ≡ a ++ b → q ≡ c ++ d → length a ≡ 16 → length c ≡ 16
    → zip2 bit_xor p q ≡ zip2 bit_xor a c ++ zip2 bit_xor b d
both_summed a b c d e f l m = rw (e, f) (zip2-append a b c d (l ∙ sym m))

pub both_mapped : (f : ℕ → ℕ) (a b : List ℕ) {x n : List ℕ} → n ≡ map f x → x ≡ a ++ b → n ≡ map f a ++ map f b
both_mapped f a b e g = e ∙ ap (map f) g ∙ map-append f a b

pub mapped_length : (f : ℕ → ℕ) (xs : List ℕ) → length xs ≡ 16 → length (map f xs) ≡ 16
mapped_length f xs l = length-map xs f ∙ l

summed_length : (a b : List ℕ) → length a ≡ 16 → length b ≡ 16 → length (zip2 bit_xor a b) ≡ 16
summed_length a b l m = length-zip2 bit_xor a b (l ∙ sym m) ∙ l

round_both : (from to once twice s t k : List ℕ) → OpensTo from to once twice s k → OpensTo from to once twice t k
    → length from ≡ 16 → length to ≡ 16 → length once ≡ 16 → length twice ≡ 16
    → {x key n b d f o w t1 t2 t3 : List ℕ}
    → x ≡ placed (map into_open s) from ++ placed (map into_open t) from → key ≡ placed (map into_open k) to
    → n ≡ map (at_halves INVERSE RATIO NINE_U NINE_V) x → b ≡ map (at_halves INVERSE RATIO ELEVEN_U ELEVEN_V) x
    → d ≡ map (at_halves INVERSE RATIO THIRTEEN_U THIRTEEN_V) x
    → f ≡ xor_bytes (map (at_halves INVERSE RATIO FOURTEEN_U FOURTEEN_V) x) (key ++ key) → o ≡ once → w ≡ twice
    → TurnsBoth t1 n w → TurnsBoth t2 d w → TurnsBoth t3 (zip2 bit_xor b t1) o
    → zip2 bit_xor (zip2 bit_xor f t2) t3
    ≡ placed (map into_open (open_round s k)) to ++ placed (map into_open (open_round t k)) to
round_both from to once twice s t k hs ht lf lt lo lw {x} {key} {n} {b} {d} {f} {o} {w} {t1} {t2} {t3} ex ek en eb ed ef
    eo ew h1 h2 h3 =
    let nine = at_halves INVERSE RATIO NINE_U NINE_V in
    let eleven = at_halves INVERSE RATIO ELEVEN_U ELEVEN_V in
    let thirteen = at_halves INVERSE RATIO THIRTEEN_U THIRTEEN_V in
    let fourteen = at_halves INVERSE RATIO FOURTEEN_U FOURTEEN_V in
    let xs = placed (map into_open s) from in
    let xt = placed (map into_open t) from in
    let ks = placed (map into_open k) to in
    let ls : length xs ≡ 16 = mapped_length _ from lf in
    let lx : length xt ≡ 16 = mapped_length _ from lf in
    let lk : length ks ≡ 16 = mapped_length _ to lt in
    let e1 : t1 ≡ map (entry (map nine xs)) twice ++ map (entry (map nine xt)) twice =
    h1 (map nine xs) (map nine xt) (mapped_length nine xs ls) (mapped_length nine xt lx) (both_mapped nine xs xt en ex)
    ∙ ap (λ z. map (entry (map nine xs)) z ++ map (entry (map nine xt)) z) ew in
    let e2 : t2 ≡ map (entry (map thirteen xs)) twice ++ map (entry (map thirteen xt)) twice =
    h2 (map thirteen xs) (map thirteen xt) (mapped_length thirteen xs ls) (mapped_length thirteen xt lx)
    (both_mapped thirteen xs xt ed ex)
    ∙ ap (λ z. map (entry (map thirteen xs)) z ++ map (entry (map thirteen xt)) z) ew in
    let ss = zip2 bit_xor (map eleven xs) (map (entry (map nine xs)) twice) in
    let st = zip2 bit_xor (map eleven xt) (map (entry (map nine xt)) twice) in
    let e4 : zip2 bit_xor b t1 ≡ ss ++ st =
    both_summed (map eleven xs) (map eleven xt) _ _ (both_mapped eleven xs xt eb ex) e1
    (mapped_length eleven xs ls) (mapped_length _ twice lw) in
    let e3 : t3 ≡ map (entry ss) once ++ map (entry st) once =
    h3 ss st (summed_length _ _ (mapped_length eleven xs ls) (mapped_length _ twice lw))
    (summed_length _ _ (mapped_length eleven xt lx) (mapped_length _ twice lw)) e4
    ∙ ap (λ z. map (entry ss) z ++ map (entry st) z) eo in
    let fs = xor_bytes (map fourteen xs) ks in
    let ft = xor_bytes (map fourteen xt) ks in
    let e5 : f ≡ fs ++ ft =
    ef ∙ sym (zip2-xor_bytes (map fourteen x) (key ++ key))
    ∙ both_summed (map fourteen xs) (map fourteen xt) ks ks (ap (map fourteen) ex ∙ map-append fourteen xs xt)
    (ap (λ z. z ++ z) ek) (mapped_length fourteen xs ls) lk
    ∙ ap (λ z. z ++ zip2 bit_xor (map fourteen xt) ks) (zip2-xor_bytes (map fourteen xs) ks)
    ∙ ap (λ z. fs ++ z) (zip2-xor_bytes (map fourteen xt) ks) in
    let lfs : length fs ≡ 16 = ap length (sym (zip2-xor_bytes (map fourteen xs) ks))
    ∙ summed_length _ _ (mapped_length fourteen xs ls) lk in
    let us = zip2 bit_xor fs (map (entry (map thirteen xs)) twice) in
    let ut = zip2 bit_xor ft (map (entry (map thirteen xt)) twice) in
    let e6 : zip2 bit_xor f t2 ≡ us ++ ut = both_summed fs ft _ _ e5 e2 lfs (mapped_length _ twice lw) in
    both_summed us ut _ _ e6 e3 (summed_length _ _ lfs (mapped_length _ twice lw)) (mapped_length _ once lo)
    ∙ ap (λ z. z ++ zip2 bit_xor ut (map (entry st) once)) hs
    ∙ ap (λ z. placed (map into_open (open_round s k)) to ++ z) ht

opens_0 : (s k : List ℕ) → IsBlock s → IsBlock k
    → OpensTo PLACES_1 PLACES_0 (slice_index_or open_turns 0 []) (slice_index_or open_turns 4 []) s k
opens_0 s k bs bk = open_round_0-is s k bs bk refl refl refl refl refl refl refl refl

opens_1 : (s k : List ℕ) → IsBlock s → IsBlock k
    → OpensTo PLACES_0 PLACES_3 (slice_index_or open_turns 1 []) (slice_index_or open_turns 5 []) s k
opens_1 s k bs bk = open_round_1-is s k bs bk refl refl refl refl refl refl refl refl

opens_2 : (s k : List ℕ) → IsBlock s → IsBlock k
    → OpensTo PLACES_3 PLACES_2 (slice_index_or open_turns 2 []) (slice_index_or open_turns 6 []) s k
opens_2 s k bs bk = open_round_2-is s k bs bk refl refl refl refl refl refl refl refl

opens_3 : (s k : List ℕ) → IsBlock s → IsBlock k
    → OpensTo PLACES_2 PLACES_1 (slice_index_or open_turns 3 []) (slice_index_or open_turns 7 []) s k
opens_3 s k bs bk = open_round_3-is s k bs bk refl refl refl refl refl refl refl refl

-- the places have the period 4
places_at : (q m : ℕ) → q % 4 ≡ m → places q ≡ state (λ i c. (i + 4 * c + 12 * m * i) % 16)
places_at q m e = ap (λ m. state (λ i c. (i + 4 * c + 12 * m * i) % 16)) e

at_other_places : (s t : List ℕ) {p q : List ℕ} → p ≡ q → placed s p ++ placed t p ≡ placed s q ++ placed t q
at_other_places s t e = ap (λ z. placed s z ++ placed t z) e

pub round_at : (r : ℕ) → 1 ≤ r → r ≤ 13 → (s t k : List ℕ) → IsBlock s → IsBlock t → IsBlock k
    → {x key n b d f o w t1 t2 t3 : List ℕ}
    → x ≡ both_at (r - 1) s t → key ≡ placed (map into_open k) (places (16 - r))
    → n ≡ map (at_halves INVERSE RATIO NINE_U NINE_V) x → b ≡ map (at_halves INVERSE RATIO ELEVEN_U ELEVEN_V) x
    → d ≡ map (at_halves INVERSE RATIO THIRTEEN_U THIRTEEN_V) x
    → f ≡ xor_bytes (map (at_halves INVERSE RATIO FOURTEEN_U FOURTEEN_V) x) (key ++ key)
    → o ≡ slice_index_or open_turns (r % 4) [] → w ≡ slice_index_or open_turns (4 + r % 4) []
    → TurnsBoth t1 n w → TurnsBoth t2 d w → TurnsBoth t3 (zip2 bit_xor b t1) o
    → zip2 bit_xor (zip2 bit_xor f t2) t3 ≡ both_at r (open_round s k) (open_round t k)
round_at r lr mr s t k bs bt bk {x} {key} {n} {b} {d} {f} {o} {w} {t1} {t2} {t3} ex ek en eb ed ef eo ew h1 h2 h3 =
    go (r % 4) refl
  where
    go : (m : ℕ) → r % 4 ≡ m
        → zip2 bit_xor (zip2 bit_xor f t2) t3 ≡ both_at r (open_round s k) (open_round t k)
    go zero e =
        let to : places (16 - r) ≡ PLACES_0 = places_at (16 - r) 0 (omega arith) in
        let from : places (16 - (r - 1)) ≡ PLACES_1 = places_at (16 - (r - 1)) 1 (omega arith) in
        round_both PLACES_1 PLACES_0 (slice_index_or open_turns 0 []) (slice_index_or open_turns 4 []) s t k
        (opens_0 s k bs bk) (opens_0 t k bt bk) refl refl refl refl
        (ex ∙ at_other_places (map into_open s) (map into_open t) from) (ek ∙ ap (placed (map into_open k)) to)
        en eb ed ef (eo ∙ ap (λ m. slice_index_or open_turns m []) e)
        (ew ∙ ap (λ m. slice_index_or open_turns (4 + m) []) e) h1 h2 h3
        ∙ sym (at_other_places (map into_open (open_round s k)) (map into_open (open_round t k)) to)
    go (suc zero) e =
        let to : places (16 - r) ≡ PLACES_3 = places_at (16 - r) 3 (omega arith) in
        let from : places (16 - (r - 1)) ≡ PLACES_0 = places_at (16 - (r - 1)) 0 (omega arith) in
        round_both PLACES_0 PLACES_3 (slice_index_or open_turns 1 []) (slice_index_or open_turns 5 []) s t k
        (opens_1 s k bs bk) (opens_1 t k bt bk) refl refl refl refl
        (ex ∙ at_other_places (map into_open s) (map into_open t) from) (ek ∙ ap (placed (map into_open k)) to)
        en eb ed ef (eo ∙ ap (λ m. slice_index_or open_turns m []) e)
        (ew ∙ ap (λ m. slice_index_or open_turns (4 + m) []) e) h1 h2 h3
        ∙ sym (at_other_places (map into_open (open_round s k)) (map into_open (open_round t k)) to)
    go (suc (suc zero)) e =
        let to : places (16 - r) ≡ PLACES_2 = places_at (16 - r) 2 (omega arith) in
        let from : places (16 - (r - 1)) ≡ PLACES_3 = places_at (16 - (r - 1)) 3 (omega arith) in
        round_both PLACES_3 PLACES_2 (slice_index_or open_turns 2 []) (slice_index_or open_turns 6 []) s t k
        (opens_2 s k bs bk) (opens_2 t k bt bk) refl refl refl refl
        (ex ∙ at_other_places (map into_open s) (map into_open t) from) (ek ∙ ap (placed (map into_open k)) to)
        en eb ed ef (eo ∙ ap (λ m. slice_index_or open_turns m []) e)
        (ew ∙ ap (λ m. slice_index_or open_turns (4 + m) []) e) h1 h2 h3
        ∙ sym (at_other_places (map into_open (open_round s k)) (map into_open (open_round t k)) to)
    go (suc (suc (suc zero))) e =
        let to : places (16 - r) ≡ PLACES_1 = places_at (16 - r) 1 (omega arith) in
        let from : places (16 - (r - 1)) ≡ PLACES_2 = places_at (16 - (r - 1)) 2 (omega arith) in
        round_both PLACES_2 PLACES_1 (slice_index_or open_turns 3 []) (slice_index_or open_turns 7 []) s t k
        (opens_3 s k bs bk) (opens_3 t k bt bk) refl refl refl refl
        (ex ∙ at_other_places (map into_open s) (map into_open t) from) (ek ∙ ap (placed (map into_open k)) to)
        en eb ed ef (eo ∙ ap (λ m. slice_index_or open_turns m []) e)
        (ew ∙ ap (λ m. slice_index_or open_turns (4 + m) []) e) h1 h2 h3
        ∙ sym (at_other_places (map into_open (open_round s k)) (map into_open (open_round t k)) to)
    go (suc (suc (suc (suc m)))) e = absurd (omega arith)

-- the key of a middle round
pub key_at : (keys : List (List ℕ)) (w : List ℕ) → AreOpeningKeys keys w → (r : ℕ) → 1 ≤ r → r ≤ 13
    → slice_index_or keys r [] ≡ placed (map into_open (inv_mix_columns (round_key w (14 - r)))) (places (16 - r))
key_at keys w h zero l m = absurd (omega arith)
key_at keys w h (suc zero) l m = h.key_1
key_at keys w h (suc (suc zero)) l m = h.key_2
key_at keys w h (suc (suc (suc zero))) l m = h.key_3
key_at keys w h (suc (suc (suc (suc zero)))) l m = h.key_4
key_at keys w h (suc (suc (suc (suc (suc zero))))) l m = h.key_5
key_at keys w h (suc (suc (suc (suc (suc (suc zero)))))) l m = h.key_6
key_at keys w h (suc (suc (suc (suc (suc (suc (suc zero))))))) l m = h.key_7
key_at keys w h (suc (suc (suc (suc (suc (suc (suc (suc zero)))))))) l m = h.key_8
key_at keys w h (suc (suc (suc (suc (suc (suc (suc (suc (suc zero))))))))) l m = h.key_9
key_at keys w h (suc (suc (suc (suc (suc (suc (suc (suc (suc (suc zero)))))))))) l m = h.key_10
key_at keys w h (suc (suc (suc (suc (suc (suc (suc (suc (suc (suc (suc zero))))))))))) l m = h.key_11
key_at keys w h (suc (suc (suc (suc (suc (suc (suc (suc (suc (suc (suc (suc zero)))))))))))) l m = h.key_12
key_at keys w h (suc (suc (suc (suc (suc (suc (suc (suc (suc (suc (suc (suc (suc zero))))))))))))) l m = h.key_13
key_at keys w h (suc (suc (suc (suc (suc (suc (suc (suc (suc (suc (suc (suc (suc (suc r)))))))))))))) l m =
    absurd (omega arith)

pub turns_ok : (i : ℕ) → i < 9 → all_places (slice_index_or open_turns i []) ≡ true
turns_ok = passes_at 9 (λ i. all_places (slice_index_or open_turns i [])) refl

-- the beginning
pub begun_both : (a b k : List ℕ) → IsBlock a → IsBlock b → IsBlock k → {v key z o : List ℕ} → v ≡ a ++ b
    → key ≡ map into_open k → z ≡ map (by_nibbles OPEN_LOW OPEN_HIGH) v → o ≡ key ++ key
    → zip2 bit_xor z o ≡ both_at 0 (xor_bytes a k) (xor_bytes b k)
unfolding add_round_key
begun_both a b k ba bb bk {v} {key} {z} {o} ev ek ez eo =
    both_summed (map (by_nibbles OPEN_LOW OPEN_HIGH) a) (map (by_nibbles OPEN_LOW OPEN_HIGH) b) key key
    (both_mapped (by_nibbles OPEN_LOW OPEN_HIGH) a b ez ev) eo (mapped_length _ a ba.len)
    (ap length ek ∙ mapped_length into_open k bk.len)
    ∙ append_equal
    (open_begun a k ba bk refl ek ∙ all_placed into_open (xor_bytes a k) (IsBlock-add_round_key a k ba bk))
    (open_begun b k bb bk refl ek ∙ all_placed into_open (xor_bytes b k) (IsBlock-add_round_key b k bb bk))

-- the end
pub end_both : (s t k : List ℕ) → IsBlock s → IsBlock t → IsBlock k → {x key a o r : List ℕ} → x ≡ both_at 13 s t
    → key ≡ placed k (places 2)
    → a ≡ xor_bytes (map (at_halves INVERSE RATIO OPEN_LAST_U OPEN_LAST_V) x) (key ++ key)
    → o ≡ slice_index_or open_turns 8 [] → TurnsBoth r a o → r ≡ open_last s k ++ open_last t k
end_both s t k bs bt bk {x} {key} {a} {o} {r} ex ek ea eo h =
    let last = at_halves INVERSE RATIO OPEN_LAST_U OPEN_LAST_V in
    let xs = placed (map into_open s) PLACES_3 in
    let xt = placed (map into_open t) PLACES_3 in
    let lk : length key ≡ 16 = ap length ek in
    let e : a ≡ xor_bytes (map last xs) key ++ xor_bytes (map last xt) key =
    ea ∙ sym (zip2-xor_bytes (map last x) (key ++ key))
    ∙ both_summed (map last xs) (map last xt) key key (ap (map last) ex ∙ map-append last xs xt) refl refl lk
    ∙ append_equal (zip2-xor_bytes (map last xs) key) (zip2-xor_bytes (map last xt) key) in
    h (xor_bytes (map last xs) key) (xor_bytes (map last xt) key)
    (ap length (sym (zip2-xor_bytes (map last xs) key)) ∙ summed_length (map last xs) key refl lk)
    (ap length (sym (zip2-xor_bytes (map last xt) key)) ∙ summed_length (map last xt) key refl lk) e
    ∙ append_equal (open_ended s k bs bk refl ek refl eo) (open_ended t k bt bk refl ek refl eo)

-- one round more of InvCipher
pub next_both : (w a b : List ℕ) (r m : ℕ) → 1 ≤ r → r ≤ 13 → m ≡ r → IsBlock a → IsBlock b
    → both_at r (open_round (inv_rounds w a (r - 1)) (inv_mix_columns (round_key w (14 - r))))
    (open_round (inv_rounds w b (r - 1)) (inv_mix_columns (round_key w (14 - r))))
    ≡ both_at m (inv_rounds w a m) (inv_rounds w b m)
next_both w a b r m lr mr em ba bb =
    let ea = open_next w a (r - 1) (14 - r) r (omega arith) (omega arith) ba in
    let eb = open_next w b (r - 1) (14 - r) r (omega arith) (omega arith) bb in
    ap (λ z. both_at r z (open_round (inv_rounds w b (r - 1)) (inv_mix_columns (round_key w (14 - r))))) ea
    ∙ ap (both_at r (inv_rounds w a r)) eb
    ∙ ap (λ n. both_at n (inv_rounds w a n) (inv_rounds w b n)) (sym em)

pub open_last-block : (s k : List ℕ) → IsBlock s → IsBlock k → IsBlock (open_last s k)
open_last-block s k bs bk = IsBlock-add_round_key _ k (IsBlock-inv_sub_bytes _ (IsBlock-inv_shift_rows s bs)) bk
