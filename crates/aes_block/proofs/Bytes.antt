-- Lists of bytes, as the shuffles and the sums leave them.
use Rattle.std.proofs.Common.{◌≡◌, ℕ, zero, suc, ◌<◌, List, [], ◌∷◌, ◌++◌, map, length, refl, ap, sym, ◌∙◌, w8, Fits}
use Rattle.std.specs.Prelude.{bit_xor, slice_index}
use Rattle.std.proofs.lemmas.Simd.{map-map, Each1-get_or, zip2_splat}
use Rattle.std.proofs.lemmas.List.{length-map}
use lib.ListN.{replicate}
use lib.Lanes.{zip2, pick_l, Each1}
use Rattle.aes_block.specs.Block.{IsBlock, xor_bytes}
use Rattle.aes_block.specs.Cipher.{rounds}
use Rattle.aes_block.specs.Steps.{sub_bytes, shift_rows, mix_columns, add_round_key, round_key}
use Rattle.aes_block.specs.Substitution.{sub_byte}
use Rattle.aes_block.proofs.Blocks.{byte_of, IsBlock-sub_bytes, IsBlock-shift_rows, IsBlock-mix_columns}
use Rattle.aes_block.proofs.Blocks.{IsBlock-add_round_key, IsBlock-round_key}
use Rattle.aes_block.proofs.Entries.{cons_equal, sixteen, state_equal}
use Rattle.aes_block.specs.declared.tables.TheConstants.{INVERSE, RATIO, INTO_LOW, INTO_HIGH, LAST_U, LAST_V, PLACES_0}
use Rattle.aes_block.specs.declared.tables.TheConstants.{PLACES_1, TURN_4, LAST_KEY, LAST_PLACES}
use Rattle.aes_block.specs.Nibbles.{by_nibbles}
use Rattle.aes_block.specs.Sealing.{into, at_halves, placed, others, keyed, last_round}
use Rattle.aes_block.proofs.Boxes.{into_is, into-xor, last_is}
use Rattle.aes_block.proofs.Sums.{last_sum, last_cancelled}

pub map_into : (x : List ℕ) → Each1 (Fits w8) x → map (by_nibbles INTO_LOW INTO_HIGH) x ≡ map into x
map_into [] h = refl
map_into (b ∷ x) h = cons_equal (into_is b h.0.fits) (map_into x h.1)

pub lanes_block : (x : List ℕ) → length x ≡ 16 → Each1 (Fits w8) x → IsBlock x
lanes_block x l e = record { len = l; bytes = λ k d h. (Each1-get_or (Fits w8) x k d h e).fits }

pub zip2-xor_bytes : (p q : List ℕ) → zip2 bit_xor p q ≡ xor_bytes p q
zip2-xor_bytes [] q = refl
zip2-xor_bytes (a ∷ p) [] = refl
zip2-xor_bytes (a ∷ p) (b ∷ q) = ap (λ r. bit_xor a b ∷ r) (zip2-xor_bytes p q)

-- a key that was added between the two entries
pub sum_keyed : (xor_right : (a b c : ℕ) → bit_xor (bit_xor a b) c ≡ bit_xor (bit_xor a c) b) (p k q : List ℕ)
    → zip2 bit_xor (zip2 bit_xor p k) q ≡ xor_bytes (zip2 bit_xor p q) k
sum_keyed xor_right [] k q = refl
sum_keyed xor_right (a ∷ p) [] [] = refl
sum_keyed xor_right (a ∷ p) [] (c ∷ q) = refl
sum_keyed xor_right (a ∷ p) (b ∷ k) [] = refl
sum_keyed xor_right (a ∷ p) (b ∷ k) (c ∷ q) = cons_equal (xor_right a b c) (sum_keyed xor_right p k q)

-- the beginning
abbrev Begins : List ℕ → List ℕ → Type 0
Begins s k = xor_bytes (map into s) (map into k) ≡ placed (map into (add_round_key s k)) PLACES_0

begins_moved : {s k t u : List ℕ} → s ≡ t → k ≡ u → Begins t u → Begins s k
begins_moved e f h = rw (e, f) h

explicit_begin : (s0 s1 s2 s3 s4 s5 s6 s7 s8 s9 s10 s11 s12 s13 s14 s15 : ℕ)
    (k0 k1 k2 k3 k4 k5 k6 k7 k8 k9 k10 k11 k12 k13 k14 k15 : ℕ) → s0 < 256 → s1 < 256 → s2 < 256 → s3 < 256 → s4 < 256
    → s5 < 256 → s6 < 256 → s7 < 256 → s8 < 256 → s9 < 256 → s10 < 256 → s11 < 256 → s12 < 256 → s13 < 256
    → s14 < 256 → s15 < 256 → k0 < 256 → k1 < 256 → k2 < 256 → k3 < 256 → k4 < 256 → k5 < 256 → k6 < 256
    → k7 < 256 → k8 < 256 → k9 < 256 → k10 < 256 → k11 < 256 → k12 < 256 → k13 < 256 → k14 < 256 → k15 < 256
    → Begins (s0 ∷ s1 ∷ s2 ∷ s3 ∷ s4 ∷ s5 ∷ s6 ∷ s7 ∷ s8 ∷ s9 ∷ s10 ∷ s11 ∷ s12 ∷ s13 ∷ s14 ∷ s15 ∷ [])
    (k0 ∷ k1 ∷ k2 ∷ k3 ∷ k4 ∷ k5 ∷ k6 ∷ k7 ∷ k8 ∷ k9 ∷ k10 ∷ k11 ∷ k12 ∷ k13 ∷ k14 ∷ k15 ∷ [])
unfolding add_round_key
explicit_begin s0 s1 s2 s3 s4 s5 s6 s7 s8 s9 s10 s11 s12 s13 s14 s15 k0 k1 k2 k3 k4 k5 k6 k7 k8 k9 k10 k11 k12 k13 k14
    k15 l0 l1 l2 l3 l4 l5 l6 l7 l8 l9 l10 l11 l12 l13 l14 l15 h0 h1 h2 h3 h4 h5 h6 h7 h8 h9 h10 h11 h12 h13 h14 h15 =
    state_equal
    (sym (into-xor s0 k0 l0 h0))
    (sym (into-xor s1 k1 l1 h1))
    (sym (into-xor s2 k2 l2 h2))
    (sym (into-xor s3 k3 l3 h3))
    (sym (into-xor s4 k4 l4 h4))
    (sym (into-xor s5 k5 l5 h5))
    (sym (into-xor s6 k6 l6 h6))
    (sym (into-xor s7 k7 l7 h7))
    (sym (into-xor s8 k8 l8 h8))
    (sym (into-xor s9 k9 l9 h9))
    (sym (into-xor s10 k10 l10 h10))
    (sym (into-xor s11 k11 l11 h11))
    (sym (into-xor s12 k12 l12 h12))
    (sym (into-xor s13 k13 l13 h13))
    (sym (into-xor s14 k14 l14 h14))
    (sym (into-xor s15 k15 l15 h15))

pub begun : (s k : List ℕ) → IsBlock s → IsBlock k
    → xor_bytes (map into s) (map into k) ≡ placed (map into (add_round_key s k)) PLACES_0
begun s k bs bk = begins_moved (sixteen s bs.len) (sixteen k bk.len) (explicit_begin
    (slice_index s 0) (slice_index s 1) (slice_index s 2) (slice_index s 3) (slice_index s 4) (slice_index s 5)
    (slice_index s 6) (slice_index s 7) (slice_index s 8) (slice_index s 9) (slice_index s 10) (slice_index s 11)
    (slice_index s 12) (slice_index s 13) (slice_index s 14) (slice_index s 15)
    (slice_index k 0) (slice_index k 1) (slice_index k 2) (slice_index k 3) (slice_index k 4) (slice_index k 5)
    (slice_index k 6) (slice_index k 7) (slice_index k 8) (slice_index k 9) (slice_index k 10) (slice_index k 11)
    (slice_index k 12) (slice_index k 13) (slice_index k 14) (slice_index k 15)
    (byte_of s bs 0) (byte_of s bs 1) (byte_of s bs 2) (byte_of s bs 3) (byte_of s bs 4) (byte_of s bs 5)
    (byte_of s bs 6) (byte_of s bs 7) (byte_of s bs 8) (byte_of s bs 9) (byte_of s bs 10) (byte_of s bs 11)
    (byte_of s bs 12) (byte_of s bs 13) (byte_of s bs 14) (byte_of s bs 15)
    (byte_of k bk 0) (byte_of k bk 1) (byte_of k bk 2) (byte_of k bk 3) (byte_of k bk 4) (byte_of k bk 5)
    (byte_of k bk 6) (byte_of k bk 7) (byte_of k bk 8) (byte_of k bk 9) (byte_of k bk 10) (byte_of k bk 11)
    (byte_of k bk 12) (byte_of k bk 13) (byte_of k bk 14) (byte_of k bk 15))

-- the last round
abbrev Ends : List ℕ → List ℕ → Type 0
Ends s k =
    let a = xor_bytes (map (at_halves INVERSE RATIO LAST_U LAST_V) (placed (map into s) PLACES_1))
    (placed (map (λ b. bit_xor b 0x63) k) LAST_KEY) in
    pick_l 0 (a ++ a) LAST_PLACES ≡ last_round s k

ends_moved : {s k t u : List ℕ} → s ≡ t → k ≡ u → Ends t u → Ends s k
ends_moved e f h = rw (e, f) h

last_lane : (a k : ℕ) → a < 256 → bit_xor (at_halves INVERSE RATIO LAST_U LAST_V (into a)) (bit_xor k 0x63)
    ≡ bit_xor (sub_byte a) k
last_lane a k l = ap (λ x. bit_xor x (bit_xor k 0x63)) (last_is a l) ∙ last_sum (sub_byte a) k 0x63

explicit_end : (s0 s1 s2 s3 s4 s5 s6 s7 s8 s9 s10 s11 s12 s13 s14 s15 : ℕ)
    (k0 k1 k2 k3 k4 k5 k6 k7 k8 k9 k10 k11 k12 k13 k14 k15 : ℕ) → s0 < 256 → s1 < 256 → s2 < 256 → s3 < 256 → s4 < 256
    → s5 < 256 → s6 < 256 → s7 < 256 → s8 < 256 → s9 < 256 → s10 < 256 → s11 < 256 → s12 < 256 → s13 < 256
    → s14 < 256 → s15 < 256
    → Ends (s0 ∷ s1 ∷ s2 ∷ s3 ∷ s4 ∷ s5 ∷ s6 ∷ s7 ∷ s8 ∷ s9 ∷ s10 ∷ s11 ∷ s12 ∷ s13 ∷ s14 ∷ s15 ∷ [])
    (k0 ∷ k1 ∷ k2 ∷ k3 ∷ k4 ∷ k5 ∷ k6 ∷ k7 ∷ k8 ∷ k9 ∷ k10 ∷ k11 ∷ k12 ∷ k13 ∷ k14 ∷ k15 ∷ [])
unfolding add_round_key shift_rows sub_bytes
explicit_end s0 s1 s2 s3 s4 s5 s6 s7 s8 s9 s10 s11 s12 s13 s14 s15 k0 k1 k2 k3 k4 k5 k6 k7 k8 k9 k10 k11 k12 k13 k14 k15
    l0 l1 l2 l3 l4 l5 l6 l7 l8 l9 l10 l11 l12 l13 l14 l15 = state_equal
    (last_lane s0 k0 l0)
    (last_lane s5 k1 l5)
    (last_lane s10 k2 l10)
    (last_lane s15 k3 l15)
    (last_lane s4 k4 l4)
    (last_lane s9 k5 l9)
    (last_lane s14 k6 l14)
    (last_lane s3 k7 l3)
    (last_lane s8 k8 l8)
    (last_lane s13 k9 l13)
    (last_lane s2 k10 l2)
    (last_lane s7 k11 l7)
    (last_lane s12 k12 l12)
    (last_lane s1 k13 l1)
    (last_lane s6 k14 l6)
    (last_lane s11 k15 l11)

pub ended : (s k : List ℕ) → IsBlock s → IsBlock k → {x key a : List ℕ} → x ≡ placed (map into s) PLACES_1
    → key ≡ placed (map (λ b. bit_xor b 0x63) k) LAST_KEY
    → a ≡ xor_bytes (map (at_halves INVERSE RATIO LAST_U LAST_V) x) key → pick_l 0 (a ++ a) LAST_PLACES ≡ last_round s k
ended s k bs bk ex ek ea =
    let h : Ends s k = ends_moved (sixteen s bs.len) (sixteen k bk.len) (explicit_end
    (slice_index s 0) (slice_index s 1) (slice_index s 2) (slice_index s 3) (slice_index s 4) (slice_index s 5)
    (slice_index s 6) (slice_index s 7) (slice_index s 8) (slice_index s 9) (slice_index s 10) (slice_index s 11)
    (slice_index s 12) (slice_index s 13) (slice_index s 14) (slice_index s 15)
    (slice_index k 0) (slice_index k 1) (slice_index k 2) (slice_index k 3) (slice_index k 4) (slice_index k 5)
    (slice_index k 6) (slice_index k 7) (slice_index k 8) (slice_index k 9) (slice_index k 10) (slice_index k 11)
    (slice_index k 12) (slice_index k 13) (slice_index k 14) (slice_index k 15)
    (byte_of s bs 0) (byte_of s bs 1) (byte_of s bs 2) (byte_of s bs 3) (byte_of s bs 4) (byte_of s bs 5)
    (byte_of s bs 6) (byte_of s bs 7) (byte_of s bs 8) (byte_of s bs 9) (byte_of s bs 10) (byte_of s bs 11)
    (byte_of s bs 12) (byte_of s bs 13) (byte_of s bs 14) (byte_of s bs 15)) in
    rw (ea, ex, ek) h

-- the sum of the others
abbrev TurnsAdd : List ℕ → Type 0
TurnsAdd x =
    let a = pick_l 0 (x ++ x) TURN_4 in
    let b = pick_l 0 (a ++ a) TURN_4 in
    zip2 bit_xor (zip2 bit_xor a b) (pick_l 0 (b ++ b) TURN_4) ≡ others x

turns_moved : {x y : List ℕ} → x ≡ y → TurnsAdd y → TurnsAdd x
turns_moved e h = rw e h

explicit_turns : (s0 s1 s2 s3 s4 s5 s6 s7 s8 s9 s10 s11 s12 s13 s14 s15 : ℕ)
    → TurnsAdd (s0 ∷ s1 ∷ s2 ∷ s3 ∷ s4 ∷ s5 ∷ s6 ∷ s7 ∷ s8 ∷ s9 ∷ s10 ∷ s11 ∷ s12 ∷ s13 ∷ s14 ∷ s15 ∷ [])
explicit_turns s0 s1 s2 s3 s4 s5 s6 s7 s8 s9 s10 s11 s12 s13 s14 s15 = refl

pub turns_add : (x : List ℕ) → length x ≡ 16 → TurnsAdd x
turns_add x l = turns_moved (sixteen x l) (explicit_turns
    (slice_index x 0) (slice_index x 1) (slice_index x 2) (slice_index x 3) (slice_index x 4) (slice_index x 5)
    (slice_index x 6) (slice_index x 7) (slice_index x 8) (slice_index x 9) (slice_index x 10) (slice_index x 11)
    (slice_index x 12) (slice_index x 13) (slice_index x 14) (slice_index x 15))

pub keyed_is : (k : List ℕ) {a b c : List ℕ} → a ≡ map (λ b. bit_xor b 0x63) k → b ≡ map into a → c ≡ others b
    → c ≡ keyed k
unfolding keyed
keyed_is k ea eb ec = ec ∙ ap others (eb ∙ ap (map into) ea ∙ map-map into (λ b. bit_xor b 0x63) k)

-- the states are blocks
pub IsBlock-rounds : (w b : List ℕ) (n : ℕ) → IsBlock b → IsBlock (rounds w b n)
unfolding rounds
IsBlock-rounds w b zero h = IsBlock-add_round_key b (round_key w 0) h (IsBlock-round_key w 0)
IsBlock-rounds w b (suc n) h = IsBlock-add_round_key (mix_columns (shift_rows (sub_bytes (rounds w b n))))
    (round_key w (suc n)) (IsBlock-mix_columns (shift_rows (sub_bytes (rounds w b n)))
    (IsBlock-shift_rows (sub_bytes (rounds w b n)) (IsBlock-sub_bytes (rounds w b n) (IsBlock-rounds w b n h))))
    (IsBlock-round_key w (suc n))

-- the S-box alone
boxed : (b : ℕ) → b < 256 → bit_xor (at_halves INVERSE RATIO LAST_U LAST_V (into b)) 0x63 ≡ sub_byte b
boxed b l = ap (λ x. bit_xor x 0x63) (last_is b l) ∙ last_cancelled (sub_byte b) 0x63

map_boxed : (x : List ℕ) → Each1 (Fits w8) x → map
    (λ b. bit_xor (at_halves INVERSE RATIO LAST_U LAST_V (into b)) 0x63) x ≡ map sub_byte x
map_boxed [] h = refl
map_boxed (b ∷ x) h = cons_equal (boxed b h.0.fits) (map_boxed x h.1)

pub boxed_is : (y : List ℕ) → length y ≡ 16 → {s : List ℕ} → s ≡ map (at_halves INVERSE RATIO LAST_U LAST_V) y
    → zip2 bit_xor s (replicate 16 0x63) ≡ map (λ b. bit_xor (at_halves INVERSE RATIO LAST_U LAST_V b) 0x63) y
boxed_is y l es =
    ap (λ z. zip2 bit_xor z (replicate 16 0x63)) es
    ∙ zip2_splat bit_xor (map (at_halves INVERSE RATIO LAST_U LAST_V) y) 16 0x63
    (length-map y (at_halves INVERSE RATIO LAST_U LAST_V) ∙ l)
    ∙ map-map (λ b. bit_xor b 0x63) (at_halves INVERSE RATIO LAST_U LAST_V) y

pub substituted_is : (x : List ℕ) → Each1 (Fits w8) x → {y s : List ℕ}
    → s ≡ map (λ b. bit_xor (at_halves INVERSE RATIO LAST_U LAST_V b) 0x63) y → y ≡ map into x → s ≡ map sub_byte x
substituted_is x h es ey =
    es ∙ ap (map (λ b. bit_xor (at_halves INVERSE RATIO LAST_U LAST_V b) 0x63)) ey
    ∙ map-map (λ b. bit_xor (at_halves INVERSE RATIO LAST_U LAST_V b) 0x63) into x
    ∙ map_boxed x h
