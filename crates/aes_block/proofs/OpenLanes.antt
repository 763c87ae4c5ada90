-- The rounds of opening, byte by byte.
use Rattle.std.proofs.Common.{◌≡◌, ℕ, ◌<◌, List, [], ◌∷◌, ◌++◌, map, length, refl, ap, sym, ◌∙◌, w8, Fits, zero, suc}
use Rattle.std.proofs.Common.{◌-◌}
use Rattle.std.specs.Prelude.{bit_xor, slice_index, slice_index_or}
use lib.ListN.{replicate}
use lib.Bits.{xor_assoc}
use Rattle.std.proofs.lemmas.List.{length-map}
use Rattle.std.proofs.lemmas.Simd.{map-map, zip2_splat}
use Rattle.aes_block.proofs.MixColumns.{inv_mix_columns-add_round_key}
use Rattle.aes_block.proofs.Rounds.{inv_rounds-next}
use lib.Lanes.{zip2, pick_l, Each1}
use Rattle.std.proofs.lemmas.Nat.{xor_of_8}
use Rattle.aes_block.specs.Field.{product}
use Rattle.aes_block.specs.Block.{IsBlock, xor_bytes}
use Rattle.aes_block.specs.Cipher.{inv_rounds}
use Rattle.aes_block.specs.Steps.{sum4, inv_sub_bytes, inv_shift_rows, inv_mix_columns, add_round_key, round_key}
use Rattle.aes_block.specs.Substitution.{inv_sub_byte}
use Rattle.aes_block.proofs.Blocks.{byte_of, inv_sub_byte_fits, IsBlock-inv_sub_bytes, IsBlock-inv_shift_rows}
use Rattle.aes_block.proofs.Blocks.{IsBlock-inv_mix_columns, IsBlock-add_round_key, IsBlock-round_key}
use Rattle.aes_block.proofs.Entries.{cons_equal, sixteen, state_equal}
use Rattle.aes_block.proofs.Linear.{product_fits, sum4_fits}
use Rattle.aes_block.specs.declared.tables.TheConstants.{INVERSE, RATIO, PLACES_0, PLACES_1, PLACES_2, PLACES_3}
use Rattle.aes_block.specs.declared.open_tables.TheConstants.{OPEN_LOW, OPEN_HIGH, FIVE, ONE_BELOW, TWO_BELOW}
use Rattle.aes_block.specs.declared.open_tables.TheConstants.{THREE_BELOW, FOURTEEN_U, FOURTEEN_V, ELEVEN_U, ELEVEN_V}
use Rattle.aes_block.specs.declared.open_tables.TheConstants.{THIRTEEN_U, THIRTEEN_V, NINE_U, NINE_V, OPEN_LAST_U}
use Rattle.aes_block.specs.declared.open_tables.TheConstants.{OPEN_LAST_V, KEY_FOURTEEN_LOW, KEY_FOURTEEN_HIGH}
use Rattle.aes_block.specs.declared.open_tables.TheConstants.{KEY_ELEVEN_LOW, KEY_ELEVEN_HIGH, KEY_THIRTEEN_LOW}
use Rattle.aes_block.specs.declared.open_tables.TheConstants.{KEY_THIRTEEN_HIGH, KEY_NINE_LOW, KEY_NINE_HIGH}
use Rattle.aes_block.specs.Nibbles.{entry, by_nibbles}
use Rattle.aes_block.specs.Sealing.{at_halves, placed}
use Rattle.aes_block.specs.Opening.{into_open, linear_open, open_round, open_last, open_turns}
use Rattle.aes_block.proofs.OpenBoxes.{fourteen_is, eleven_is, thirteen_is, nine_is, open_last_is, open_low_is, five_is}
use Rattle.aes_block.proofs.OpenBoxes.{key_fourteen_is, key_eleven_is, key_thirteen_is, key_nine_is, linear_open-xor}
use Rattle.aes_block.proofs.OpenBoxes.{into_open-xor}
use Rattle.aes_block.proofs.Sums.{open_lane_sum}

linear-sum4 : (a b c d : ℕ) → a < 256 → b < 256 → c < 256 → d < 256
    → linear_open (sum4 a b c d) ≡ bit_xor (bit_xor (linear_open a) (linear_open b))
    (bit_xor (linear_open c) (linear_open d))
linear-sum4 a b c d la lb lc ld =
    linear_open-xor (bit_xor a b) (bit_xor c d) (xor_of_8 _ _ la lb) (xor_of_8 _ _ lc ld)
    ∙ ap (λ x. bit_xor x (linear_open (bit_xor c d))) (linear_open-xor a b la lb)
    ∙ ap (bit_xor (bit_xor (linear_open a) (linear_open b))) (linear_open-xor c d lc ld)

unmixed_sum : (a b c d : ℕ) → a < 256 → b < 256 → c < 256 → d < 256
    → linear_open (sum4 (product a 14) (product b 11) (product c 13) (product d 9))
    ≡ bit_xor (bit_xor (linear_open (product a 14)) (linear_open (product b 11)))
    (bit_xor (linear_open (product c 13)) (linear_open (product d 9)))
unmixed_sum a b c d la lb lc ld = linear-sum4 (product a 14) (product b 11) (product c 13) (product d 9)
    (product_fits a 14 la) (product_fits b 11 lb) (product_fits c 13 lc) (product_fits d 9 ld)

lane : (a b c d k : ℕ) → a < 256 → b < 256 → c < 256 → d < 256 → k < 256
    → bit_xor (bit_xor (bit_xor (at_halves INVERSE RATIO FOURTEEN_U FOURTEEN_V (into_open a)) (into_open k))
    (at_halves INVERSE RATIO THIRTEEN_U THIRTEEN_V (into_open c)))
    (bit_xor (at_halves INVERSE RATIO ELEVEN_U ELEVEN_V (into_open b))
    (at_halves INVERSE RATIO NINE_U NINE_V (into_open d)))
    ≡ into_open (bit_xor (sum4 (product (inv_sub_byte a) 14) (product (inv_sub_byte b) 11) (product (inv_sub_byte c) 13)
    (product (inv_sub_byte d) 9)) k)
lane a b c d k la lb lc ld lk =
    rw (fourteen_is a la, eleven_is b lb, thirteen_is c lc, nine_is d ld) (
    open_lane_sum (linear_open (product (inv_sub_byte a) 14)) (linear_open (product (inv_sub_byte b) 11))
    (linear_open (product (inv_sub_byte c) 13)) (linear_open (product (inv_sub_byte d) 9)) (into_open k)
    ∙ ap (λ x. bit_xor x (into_open k)) (sym (unmixed_sum (inv_sub_byte a) (inv_sub_byte b) (inv_sub_byte c)
    (inv_sub_byte d) (inv_sub_byte_fits a la) (inv_sub_byte_fits b lb) (inv_sub_byte_fits c lc)
    (inv_sub_byte_fits d ld)))
    ∙ sym (into_open-xor (sum4 (product (inv_sub_byte a) 14) (product (inv_sub_byte b) 11) (product (inv_sub_byte c) 13)
    (product (inv_sub_byte d) 9)) k (sum4_fits _ _ _ _ (product_fits _ 14 (inv_sub_byte_fits a la))
    (product_fits _ 11 (inv_sub_byte_fits b lb)) (product_fits _ 13 (inv_sub_byte_fits c lc))
    (product_fits _ 9 (inv_sub_byte_fits d ld))) lk))

-- what the code sums
abbrev pub turned_sum : List ℕ → List ℕ → List ℕ → List ℕ → List ℕ → List ℕ → List ℕ
turned_sum n b d f once twice =
    zip2 bit_xor (zip2 bit_xor f (map (entry d) twice)) (map (entry (zip2 bit_xor b (map (entry n) twice))) once)

abbrev pub OpensTo : List ℕ → List ℕ → List ℕ → List ℕ → List ℕ → List ℕ → Type 0
OpensTo from to once twice s k =
    let x = placed (map into_open s) from in
    turned_sum (map (at_halves INVERSE RATIO NINE_U NINE_V) x) (map (at_halves INVERSE RATIO ELEVEN_U ELEVEN_V) x)
    (map (at_halves INVERSE RATIO THIRTEEN_U THIRTEEN_V) x)
    (xor_bytes (map (at_halves INVERSE RATIO FOURTEEN_U FOURTEEN_V) x) (placed (map into_open k) to)) once twice
    ≡ placed (map into_open (open_round s k)) to

moved : (from to once twice : List ℕ) {s k t u : List ℕ} → s ≡ t → k ≡ u → OpensTo from to once twice t u
    → OpensTo from to once twice s k
moved from to once twice e f h = rw (e, f) h

gathered : (from to once twice s k : List ℕ) → OpensTo from to once twice s k → {x key n b d f o t : List ℕ}
    → x ≡ placed (map into_open s) from → key ≡ placed (map into_open k) to
    → n ≡ map (at_halves INVERSE RATIO NINE_U NINE_V) x → b ≡ map (at_halves INVERSE RATIO ELEVEN_U ELEVEN_V) x
    → d ≡ map (at_halves INVERSE RATIO THIRTEEN_U THIRTEEN_V) x
    → f ≡ xor_bytes (map (at_halves INVERSE RATIO FOURTEEN_U FOURTEEN_V) x) key → o ≡ once → t ≡ twice
    → turned_sum n b d f o t ≡ placed (map into_open (open_round s k)) to
gathered from to once twice s k h ex ek en eb ed ef eo et = rw (en, eb, ed, ef, eo, et, ex, ek) h

explicit_1 : (s0 s1 s2 s3 s4 s5 s6 s7 s8 s9 s10 s11 s12 s13 s14 s15 : ℕ)
    (k0 k1 k2 k3 k4 k5 k6 k7 k8 k9 k10 k11 k12 k13 k14 k15 : ℕ) → s0 < 256 → s1 < 256 → s2 < 256 → s3 < 256 → s4 < 256
    → s5 < 256 → s6 < 256 → s7 < 256 → s8 < 256 → s9 < 256 → s10 < 256 → s11 < 256 → s12 < 256 → s13 < 256
    → s14 < 256 → s15 < 256 → k0 < 256 → k1 < 256 → k2 < 256 → k3 < 256 → k4 < 256 → k5 < 256 → k6 < 256
    → k7 < 256 → k8 < 256 → k9 < 256 → k10 < 256 → k11 < 256 → k12 < 256 → k13 < 256 → k14 < 256 → k15 < 256
    → OpensTo PLACES_0 PLACES_3 (slice_index_or open_turns 1 []) (slice_index_or open_turns 5 [])
    (s0 ∷ s1 ∷ s2 ∷ s3 ∷ s4 ∷ s5 ∷ s6 ∷ s7 ∷ s8 ∷ s9 ∷ s10 ∷ s11 ∷ s12 ∷ s13 ∷ s14 ∷ s15 ∷ [])
    (k0 ∷ k1 ∷ k2 ∷ k3 ∷ k4 ∷ k5 ∷ k6 ∷ k7 ∷ k8 ∷ k9 ∷ k10 ∷ k11 ∷ k12 ∷ k13 ∷ k14 ∷ k15 ∷ [])
unfolding add_round_key inv_mix_columns inv_shift_rows inv_sub_bytes
explicit_1 s0 s1 s2 s3 s4 s5 s6 s7 s8 s9 s10 s11 s12 s13 s14 s15 k0 k1 k2 k3 k4 k5 k6 k7 k8 k9 k10 k11 k12 k13 k14 k15
    l0 l1 l2 l3 l4 l5 l6 l7 l8 l9 l10 l11 l12 l13 l14 l15 h0 h1 h2 h3 h4 h5 h6 h7 h8 h9 h10 h11 h12 h13 h14 h15 =
    state_equal
    (lane s0 s13 s10 s7 k0 l0 l13 l10 l7 h0)
    (lane s1 s14 s11 s4 k5 l1 l14 l11 l4 h5)
    (lane s2 s15 s8 s5 k10 l2 l15 l8 l5 h10)
    (lane s3 s12 s9 s6 k15 l3 l12 l9 l6 h15)
    (lane s4 s1 s14 s11 k4 l4 l1 l14 l11 h4)
    (lane s5 s2 s15 s8 k9 l5 l2 l15 l8 h9)
    (lane s6 s3 s12 s9 k14 l6 l3 l12 l9 h14)
    (lane s7 s0 s13 s10 k3 l7 l0 l13 l10 h3)
    (lane s8 s5 s2 s15 k8 l8 l5 l2 l15 h8)
    (lane s9 s6 s3 s12 k13 l9 l6 l3 l12 h13)
    (lane s10 s7 s0 s13 k2 l10 l7 l0 l13 h2)
    (lane s11 s4 s1 s14 k7 l11 l4 l1 l14 h7)
    (lane s12 s9 s6 s3 k12 l12 l9 l6 l3 h12)
    (lane s13 s10 s7 s0 k1 l13 l10 l7 l0 h1)
    (lane s14 s11 s4 s1 k6 l14 l11 l4 l1 h6)
    (lane s15 s8 s5 s2 k11 l15 l8 l5 l2 h11)

pub open_round_1-is : (s k : List ℕ) → IsBlock s → IsBlock k → {x key n b d f o t : List ℕ}
    → x ≡ placed (map into_open s) PLACES_0 → key ≡ placed (map into_open k) PLACES_3
    → n ≡ map (at_halves INVERSE RATIO NINE_U NINE_V) x → b ≡ map (at_halves INVERSE RATIO ELEVEN_U ELEVEN_V) x
    → d ≡ map (at_halves INVERSE RATIO THIRTEEN_U THIRTEEN_V) x
    → f ≡ xor_bytes (map (at_halves INVERSE RATIO FOURTEEN_U FOURTEEN_V) x) key
    → o ≡ (slice_index_or open_turns 1 []) → t ≡ (slice_index_or open_turns 5 [])
    → turned_sum n b d f o t ≡ placed (map into_open (open_round s k)) PLACES_3
open_round_1-is s k bs bk = gathered PLACES_0 PLACES_3 (slice_index_or open_turns 1 [])
    (slice_index_or open_turns 5 []) s k
    (moved PLACES_0 PLACES_3 (slice_index_or open_turns 1 []) (slice_index_or open_turns 5 []) (sixteen s bs.len)
    (sixteen k bk.len) (explicit_1
    (slice_index s 0) (slice_index s 1) (slice_index s 2) (slice_index s 3) (slice_index s 4) (slice_index s 5)
    (slice_index s 6) (slice_index s 7) (slice_index s 8) (slice_index s 9) (slice_index s 10) (slice_index s 11)
    (slice_index s 12) (slice_index s 13) (slice_index s 14) (slice_index s 15)
    (slice_index k 0) (slice_index k 1) (slice_index k 2) (slice_index k 3) (slice_index k 4) (slice_index k 5)
    (slice_index k 6) (slice_index k 7) (slice_index k 8) (slice_index k 9) (slice_index k 10) (slice_index k 11)
    (slice_index k 12) (slice_index k 13) (slice_index k 14) (slice_index k 15)
    (byte_of s bs 0) (byte_of s bs 1) (byte_of s bs 2) (byte_of s bs 3) (byte_of s bs 4) (byte_of s bs 5)
    (byte_of s bs 6) (byte_of s bs 7) (byte_of s bs 8) (byte_of s bs 9) (byte_of s bs 10) (byte_of s bs 11)
    (byte_of s bs 12) (byte_of s bs 13) (byte_of s bs 14) (byte_of s bs 15)
    (byte_of k bk 0) (byte_of k bk 1) (byte_of k bk 2) (byte_of k bk 3) (byte_of k bk 4) (byte_of k bk 5)
    (byte_of k bk 6) (byte_of k bk 7) (byte_of k bk 8) (byte_of k bk 9) (byte_of k bk 10) (byte_of k bk 11)
    (byte_of k bk 12) (byte_of k bk 13) (byte_of k bk 14) (byte_of k bk 15)))

explicit_2 : (s0 s1 s2 s3 s4 s5 s6 s7 s8 s9 s10 s11 s12 s13 s14 s15 : ℕ)
    (k0 k1 k2 k3 k4 k5 k6 k7 k8 k9 k10 k11 k12 k13 k14 k15 : ℕ) → s0 < 256 → s1 < 256 → s2 < 256 → s3 < 256 → s4 < 256
    → s5 < 256 → s6 < 256 → s7 < 256 → s8 < 256 → s9 < 256 → s10 < 256 → s11 < 256 → s12 < 256 → s13 < 256
    → s14 < 256 → s15 < 256 → k0 < 256 → k1 < 256 → k2 < 256 → k3 < 256 → k4 < 256 → k5 < 256 → k6 < 256
    → k7 < 256 → k8 < 256 → k9 < 256 → k10 < 256 → k11 < 256 → k12 < 256 → k13 < 256 → k14 < 256 → k15 < 256
    → OpensTo PLACES_3 PLACES_2 (slice_index_or open_turns 2 []) (slice_index_or open_turns 6 [])
    (s0 ∷ s1 ∷ s2 ∷ s3 ∷ s4 ∷ s5 ∷ s6 ∷ s7 ∷ s8 ∷ s9 ∷ s10 ∷ s11 ∷ s12 ∷ s13 ∷ s14 ∷ s15 ∷ [])
    (k0 ∷ k1 ∷ k2 ∷ k3 ∷ k4 ∷ k5 ∷ k6 ∷ k7 ∷ k8 ∷ k9 ∷ k10 ∷ k11 ∷ k12 ∷ k13 ∷ k14 ∷ k15 ∷ [])
unfolding add_round_key inv_mix_columns inv_shift_rows inv_sub_bytes
explicit_2 s0 s1 s2 s3 s4 s5 s6 s7 s8 s9 s10 s11 s12 s13 s14 s15 k0 k1 k2 k3 k4 k5 k6 k7 k8 k9 k10 k11 k12 k13 k14 k15
    l0 l1 l2 l3 l4 l5 l6 l7 l8 l9 l10 l11 l12 l13 l14 l15 h0 h1 h2 h3 h4 h5 h6 h7 h8 h9 h10 h11 h12 h13 h14 h15 =
    state_equal
    (lane s0 s13 s10 s7 k0 l0 l13 l10 l7 h0)
    (lane s5 s2 s15 s8 k9 l5 l2 l15 l8 h9)
    (lane s10 s7 s0 s13 k2 l10 l7 l0 l13 h2)
    (lane s15 s8 s5 s2 k11 l15 l8 l5 l2 h11)
    (lane s4 s1 s14 s11 k4 l4 l1 l14 l11 h4)
    (lane s9 s6 s3 s12 k13 l9 l6 l3 l12 h13)
    (lane s14 s11 s4 s1 k6 l14 l11 l4 l1 h6)
    (lane s3 s12 s9 s6 k15 l3 l12 l9 l6 h15)
    (lane s8 s5 s2 s15 k8 l8 l5 l2 l15 h8)
    (lane s13 s10 s7 s0 k1 l13 l10 l7 l0 h1)
    (lane s2 s15 s8 s5 k10 l2 l15 l8 l5 h10)
    (lane s7 s0 s13 s10 k3 l7 l0 l13 l10 h3)
    (lane s12 s9 s6 s3 k12 l12 l9 l6 l3 h12)
    (lane s1 s14 s11 s4 k5 l1 l14 l11 l4 h5)
    (lane s6 s3 s12 s9 k14 l6 l3 l12 l9 h14)
    (lane s11 s4 s1 s14 k7 l11 l4 l1 l14 h7)

pub open_round_2-is : (s k : List ℕ) → IsBlock s → IsBlock k → {x key n b d f o t : List ℕ}
    → x ≡ placed (map into_open s) PLACES_3 → key ≡ placed (map into_open k) PLACES_2
    → n ≡ map (at_halves INVERSE RATIO NINE_U NINE_V) x → b ≡ map (at_halves INVERSE RATIO ELEVEN_U ELEVEN_V) x
    → d ≡ map (at_halves INVERSE RATIO THIRTEEN_U THIRTEEN_V) x
    → f ≡ xor_bytes (map (at_halves INVERSE RATIO FOURTEEN_U FOURTEEN_V) x) key
    → o ≡ (slice_index_or open_turns 2 []) → t ≡ (slice_index_or open_turns 6 [])
    → turned_sum n b d f o t ≡ placed (map into_open (open_round s k)) PLACES_2
open_round_2-is s k bs bk = gathered PLACES_3 PLACES_2 (slice_index_or open_turns 2 [])
    (slice_index_or open_turns 6 []) s k
    (moved PLACES_3 PLACES_2 (slice_index_or open_turns 2 []) (slice_index_or open_turns 6 []) (sixteen s bs.len)
    (sixteen k bk.len) (explicit_2
    (slice_index s 0) (slice_index s 1) (slice_index s 2) (slice_index s 3) (slice_index s 4) (slice_index s 5)
    (slice_index s 6) (slice_index s 7) (slice_index s 8) (slice_index s 9) (slice_index s 10) (slice_index s 11)
    (slice_index s 12) (slice_index s 13) (slice_index s 14) (slice_index s 15)
    (slice_index k 0) (slice_index k 1) (slice_index k 2) (slice_index k 3) (slice_index k 4) (slice_index k 5)
    (slice_index k 6) (slice_index k 7) (slice_index k 8) (slice_index k 9) (slice_index k 10) (slice_index k 11)
    (slice_index k 12) (slice_index k 13) (slice_index k 14) (slice_index k 15)
    (byte_of s bs 0) (byte_of s bs 1) (byte_of s bs 2) (byte_of s bs 3) (byte_of s bs 4) (byte_of s bs 5)
    (byte_of s bs 6) (byte_of s bs 7) (byte_of s bs 8) (byte_of s bs 9) (byte_of s bs 10) (byte_of s bs 11)
    (byte_of s bs 12) (byte_of s bs 13) (byte_of s bs 14) (byte_of s bs 15)
    (byte_of k bk 0) (byte_of k bk 1) (byte_of k bk 2) (byte_of k bk 3) (byte_of k bk 4) (byte_of k bk 5)
    (byte_of k bk 6) (byte_of k bk 7) (byte_of k bk 8) (byte_of k bk 9) (byte_of k bk 10) (byte_of k bk 11)
    (byte_of k bk 12) (byte_of k bk 13) (byte_of k bk 14) (byte_of k bk 15)))

explicit_3 : (s0 s1 s2 s3 s4 s5 s6 s7 s8 s9 s10 s11 s12 s13 s14 s15 : ℕ)
    (k0 k1 k2 k3 k4 k5 k6 k7 k8 k9 k10 k11 k12 k13 k14 k15 : ℕ) → s0 < 256 → s1 < 256 → s2 < 256 → s3 < 256 → s4 < 256
    → s5 < 256 → s6 < 256 → s7 < 256 → s8 < 256 → s9 < 256 → s10 < 256 → s11 < 256 → s12 < 256 → s13 < 256
    → s14 < 256 → s15 < 256 → k0 < 256 → k1 < 256 → k2 < 256 → k3 < 256 → k4 < 256 → k5 < 256 → k6 < 256
    → k7 < 256 → k8 < 256 → k9 < 256 → k10 < 256 → k11 < 256 → k12 < 256 → k13 < 256 → k14 < 256 → k15 < 256
    → OpensTo PLACES_2 PLACES_1 (slice_index_or open_turns 3 []) (slice_index_or open_turns 7 [])
    (s0 ∷ s1 ∷ s2 ∷ s3 ∷ s4 ∷ s5 ∷ s6 ∷ s7 ∷ s8 ∷ s9 ∷ s10 ∷ s11 ∷ s12 ∷ s13 ∷ s14 ∷ s15 ∷ [])
    (k0 ∷ k1 ∷ k2 ∷ k3 ∷ k4 ∷ k5 ∷ k6 ∷ k7 ∷ k8 ∷ k9 ∷ k10 ∷ k11 ∷ k12 ∷ k13 ∷ k14 ∷ k15 ∷ [])
unfolding add_round_key inv_mix_columns inv_shift_rows inv_sub_bytes
explicit_3 s0 s1 s2 s3 s4 s5 s6 s7 s8 s9 s10 s11 s12 s13 s14 s15 k0 k1 k2 k3 k4 k5 k6 k7 k8 k9 k10 k11 k12 k13 k14 k15
    l0 l1 l2 l3 l4 l5 l6 l7 l8 l9 l10 l11 l12 l13 l14 l15 h0 h1 h2 h3 h4 h5 h6 h7 h8 h9 h10 h11 h12 h13 h14 h15 =
    state_equal
    (lane s0 s13 s10 s7 k0 l0 l13 l10 l7 h0)
    (lane s9 s6 s3 s12 k13 l9 l6 l3 l12 h13)
    (lane s2 s15 s8 s5 k10 l2 l15 l8 l5 h10)
    (lane s11 s4 s1 s14 k7 l11 l4 l1 l14 h7)
    (lane s4 s1 s14 s11 k4 l4 l1 l14 l11 h4)
    (lane s13 s10 s7 s0 k1 l13 l10 l7 l0 h1)
    (lane s6 s3 s12 s9 k14 l6 l3 l12 l9 h14)
    (lane s15 s8 s5 s2 k11 l15 l8 l5 l2 h11)
    (lane s8 s5 s2 s15 k8 l8 l5 l2 l15 h8)
    (lane s1 s14 s11 s4 k5 l1 l14 l11 l4 h5)
    (lane s10 s7 s0 s13 k2 l10 l7 l0 l13 h2)
    (lane s3 s12 s9 s6 k15 l3 l12 l9 l6 h15)
    (lane s12 s9 s6 s3 k12 l12 l9 l6 l3 h12)
    (lane s5 s2 s15 s8 k9 l5 l2 l15 l8 h9)
    (lane s14 s11 s4 s1 k6 l14 l11 l4 l1 h6)
    (lane s7 s0 s13 s10 k3 l7 l0 l13 l10 h3)

pub open_round_3-is : (s k : List ℕ) → IsBlock s → IsBlock k → {x key n b d f o t : List ℕ}
    → x ≡ placed (map into_open s) PLACES_2 → key ≡ placed (map into_open k) PLACES_1
    → n ≡ map (at_halves INVERSE RATIO NINE_U NINE_V) x → b ≡ map (at_halves INVERSE RATIO ELEVEN_U ELEVEN_V) x
    → d ≡ map (at_halves INVERSE RATIO THIRTEEN_U THIRTEEN_V) x
    → f ≡ xor_bytes (map (at_halves INVERSE RATIO FOURTEEN_U FOURTEEN_V) x) key
    → o ≡ (slice_index_or open_turns 3 []) → t ≡ (slice_index_or open_turns 7 [])
    → turned_sum n b d f o t ≡ placed (map into_open (open_round s k)) PLACES_1
open_round_3-is s k bs bk = gathered PLACES_2 PLACES_1 (slice_index_or open_turns 3 [])
    (slice_index_or open_turns 7 []) s k
    (moved PLACES_2 PLACES_1 (slice_index_or open_turns 3 []) (slice_index_or open_turns 7 []) (sixteen s bs.len)
    (sixteen k bk.len) (explicit_3
    (slice_index s 0) (slice_index s 1) (slice_index s 2) (slice_index s 3) (slice_index s 4) (slice_index s 5)
    (slice_index s 6) (slice_index s 7) (slice_index s 8) (slice_index s 9) (slice_index s 10) (slice_index s 11)
    (slice_index s 12) (slice_index s 13) (slice_index s 14) (slice_index s 15)
    (slice_index k 0) (slice_index k 1) (slice_index k 2) (slice_index k 3) (slice_index k 4) (slice_index k 5)
    (slice_index k 6) (slice_index k 7) (slice_index k 8) (slice_index k 9) (slice_index k 10) (slice_index k 11)
    (slice_index k 12) (slice_index k 13) (slice_index k 14) (slice_index k 15)
    (byte_of s bs 0) (byte_of s bs 1) (byte_of s bs 2) (byte_of s bs 3) (byte_of s bs 4) (byte_of s bs 5)
    (byte_of s bs 6) (byte_of s bs 7) (byte_of s bs 8) (byte_of s bs 9) (byte_of s bs 10) (byte_of s bs 11)
    (byte_of s bs 12) (byte_of s bs 13) (byte_of s bs 14) (byte_of s bs 15)
    (byte_of k bk 0) (byte_of k bk 1) (byte_of k bk 2) (byte_of k bk 3) (byte_of k bk 4) (byte_of k bk 5)
    (byte_of k bk 6) (byte_of k bk 7) (byte_of k bk 8) (byte_of k bk 9) (byte_of k bk 10) (byte_of k bk 11)
    (byte_of k bk 12) (byte_of k bk 13) (byte_of k bk 14) (byte_of k bk 15)))

explicit_4 : (s0 s1 s2 s3 s4 s5 s6 s7 s8 s9 s10 s11 s12 s13 s14 s15 : ℕ)
    (k0 k1 k2 k3 k4 k5 k6 k7 k8 k9 k10 k11 k12 k13 k14 k15 : ℕ) → s0 < 256 → s1 < 256 → s2 < 256 → s3 < 256 → s4 < 256
    → s5 < 256 → s6 < 256 → s7 < 256 → s8 < 256 → s9 < 256 → s10 < 256 → s11 < 256 → s12 < 256 → s13 < 256
    → s14 < 256 → s15 < 256 → k0 < 256 → k1 < 256 → k2 < 256 → k3 < 256 → k4 < 256 → k5 < 256 → k6 < 256
    → k7 < 256 → k8 < 256 → k9 < 256 → k10 < 256 → k11 < 256 → k12 < 256 → k13 < 256 → k14 < 256 → k15 < 256
    → OpensTo PLACES_1 PLACES_0 (slice_index_or open_turns 0 []) (slice_index_or open_turns 4 [])
    (s0 ∷ s1 ∷ s2 ∷ s3 ∷ s4 ∷ s5 ∷ s6 ∷ s7 ∷ s8 ∷ s9 ∷ s10 ∷ s11 ∷ s12 ∷ s13 ∷ s14 ∷ s15 ∷ [])
    (k0 ∷ k1 ∷ k2 ∷ k3 ∷ k4 ∷ k5 ∷ k6 ∷ k7 ∷ k8 ∷ k9 ∷ k10 ∷ k11 ∷ k12 ∷ k13 ∷ k14 ∷ k15 ∷ [])
unfolding add_round_key inv_mix_columns inv_shift_rows inv_sub_bytes
explicit_4 s0 s1 s2 s3 s4 s5 s6 s7 s8 s9 s10 s11 s12 s13 s14 s15 k0 k1 k2 k3 k4 k5 k6 k7 k8 k9 k10 k11 k12 k13 k14 k15
    l0 l1 l2 l3 l4 l5 l6 l7 l8 l9 l10 l11 l12 l13 l14 l15 h0 h1 h2 h3 h4 h5 h6 h7 h8 h9 h10 h11 h12 h13 h14 h15 =
    state_equal
    (lane s0 s13 s10 s7 k0 l0 l13 l10 l7 h0)
    (lane s13 s10 s7 s0 k1 l13 l10 l7 l0 h1)
    (lane s10 s7 s0 s13 k2 l10 l7 l0 l13 h2)
    (lane s7 s0 s13 s10 k3 l7 l0 l13 l10 h3)
    (lane s4 s1 s14 s11 k4 l4 l1 l14 l11 h4)
    (lane s1 s14 s11 s4 k5 l1 l14 l11 l4 h5)
    (lane s14 s11 s4 s1 k6 l14 l11 l4 l1 h6)
    (lane s11 s4 s1 s14 k7 l11 l4 l1 l14 h7)
    (lane s8 s5 s2 s15 k8 l8 l5 l2 l15 h8)
    (lane s5 s2 s15 s8 k9 l5 l2 l15 l8 h9)
    (lane s2 s15 s8 s5 k10 l2 l15 l8 l5 h10)
    (lane s15 s8 s5 s2 k11 l15 l8 l5 l2 h11)
    (lane s12 s9 s6 s3 k12 l12 l9 l6 l3 h12)
    (lane s9 s6 s3 s12 k13 l9 l6 l3 l12 h13)
    (lane s6 s3 s12 s9 k14 l6 l3 l12 l9 h14)
    (lane s3 s12 s9 s6 k15 l3 l12 l9 l6 h15)

pub open_round_0-is : (s k : List ℕ) → IsBlock s → IsBlock k → {x key n b d f o t : List ℕ}
    → x ≡ placed (map into_open s) PLACES_1 → key ≡ placed (map into_open k) PLACES_0
    → n ≡ map (at_halves INVERSE RATIO NINE_U NINE_V) x → b ≡ map (at_halves INVERSE RATIO ELEVEN_U ELEVEN_V) x
    → d ≡ map (at_halves INVERSE RATIO THIRTEEN_U THIRTEEN_V) x
    → f ≡ xor_bytes (map (at_halves INVERSE RATIO FOURTEEN_U FOURTEEN_V) x) key
    → o ≡ (slice_index_or open_turns 0 []) → t ≡ (slice_index_or open_turns 4 [])
    → turned_sum n b d f o t ≡ placed (map into_open (open_round s k)) PLACES_0
open_round_0-is s k bs bk = gathered PLACES_1 PLACES_0 (slice_index_or open_turns 0 [])
    (slice_index_or open_turns 4 []) s k
    (moved PLACES_1 PLACES_0 (slice_index_or open_turns 0 []) (slice_index_or open_turns 4 []) (sixteen s bs.len)
    (sixteen k bk.len) (explicit_4
    (slice_index s 0) (slice_index s 1) (slice_index s 2) (slice_index s 3) (slice_index s 4) (slice_index s 5)
    (slice_index s 6) (slice_index s 7) (slice_index s 8) (slice_index s 9) (slice_index s 10) (slice_index s 11)
    (slice_index s 12) (slice_index s 13) (slice_index s 14) (slice_index s 15)
    (slice_index k 0) (slice_index k 1) (slice_index k 2) (slice_index k 3) (slice_index k 4) (slice_index k 5)
    (slice_index k 6) (slice_index k 7) (slice_index k 8) (slice_index k 9) (slice_index k 10) (slice_index k 11)
    (slice_index k 12) (slice_index k 13) (slice_index k 14) (slice_index k 15)
    (byte_of s bs 0) (byte_of s bs 1) (byte_of s bs 2) (byte_of s bs 3) (byte_of s bs 4) (byte_of s bs 5)
    (byte_of s bs 6) (byte_of s bs 7) (byte_of s bs 8) (byte_of s bs 9) (byte_of s bs 10) (byte_of s bs 11)
    (byte_of s bs 12) (byte_of s bs 13) (byte_of s bs 14) (byte_of s bs 15)
    (byte_of k bk 0) (byte_of k bk 1) (byte_of k bk 2) (byte_of k bk 3) (byte_of k bk 4) (byte_of k bk 5)
    (byte_of k bk 6) (byte_of k bk 7) (byte_of k bk 8) (byte_of k bk 9) (byte_of k bk 10) (byte_of k bk 11)
    (byte_of k bk 12) (byte_of k bk 13) (byte_of k bk 14) (byte_of k bk 15)))

-- the last round
abbrev OpenEnds : List ℕ → List ℕ → Type 0
OpenEnds s k =
    map (entry (xor_bytes (map (at_halves INVERSE RATIO OPEN_LAST_U OPEN_LAST_V) (placed (map into_open s) PLACES_3))
    (placed k PLACES_2))) (slice_index_or open_turns 8 []) ≡ open_last s k

ends_moved : {s k t u : List ℕ} → s ≡ t → k ≡ u → OpenEnds t u → OpenEnds s k
ends_moved e f h = rw (e, f) h

explicit_end : (s0 s1 s2 s3 s4 s5 s6 s7 s8 s9 s10 s11 s12 s13 s14 s15 : ℕ)
    (k0 k1 k2 k3 k4 k5 k6 k7 k8 k9 k10 k11 k12 k13 k14 k15 : ℕ) → s0 < 256 → s1 < 256 → s2 < 256 → s3 < 256 → s4 < 256
    → s5 < 256 → s6 < 256 → s7 < 256 → s8 < 256 → s9 < 256 → s10 < 256 → s11 < 256 → s12 < 256 → s13 < 256
    → s14 < 256 → s15 < 256 → OpenEnds (s0 ∷ s1 ∷ s2 ∷ s3 ∷ s4 ∷ s5 ∷ s6 ∷ s7 ∷ s8 ∷ s9 ∷ s10 ∷ s11 ∷ s12 ∷ s13
    ∷ s14 ∷ s15 ∷ []) (k0 ∷ k1 ∷ k2 ∷ k3 ∷ k4 ∷ k5 ∷ k6 ∷ k7 ∷ k8 ∷ k9 ∷ k10 ∷ k11 ∷ k12 ∷ k13 ∷ k14 ∷ k15
    ∷ [])
unfolding add_round_key inv_shift_rows inv_sub_bytes
explicit_end s0 s1 s2 s3 s4 s5 s6 s7 s8 s9 s10 s11 s12 s13 s14 s15 k0 k1 k2 k3 k4 k5 k6 k7 k8 k9 k10 k11 k12 k13 k14 k15
    l0 l1 l2 l3 l4 l5 l6 l7 l8 l9 l10 l11 l12 l13 l14 l15 = state_equal
    (ap (λ x. bit_xor x k0) (open_last_is s0 l0))
    (ap (λ x. bit_xor x k1) (open_last_is s13 l13))
    (ap (λ x. bit_xor x k2) (open_last_is s10 l10))
    (ap (λ x. bit_xor x k3) (open_last_is s7 l7))
    (ap (λ x. bit_xor x k4) (open_last_is s4 l4))
    (ap (λ x. bit_xor x k5) (open_last_is s1 l1))
    (ap (λ x. bit_xor x k6) (open_last_is s14 l14))
    (ap (λ x. bit_xor x k7) (open_last_is s11 l11))
    (ap (λ x. bit_xor x k8) (open_last_is s8 l8))
    (ap (λ x. bit_xor x k9) (open_last_is s5 l5))
    (ap (λ x. bit_xor x k10) (open_last_is s2 l2))
    (ap (λ x. bit_xor x k11) (open_last_is s15 l15))
    (ap (λ x. bit_xor x k12) (open_last_is s12 l12))
    (ap (λ x. bit_xor x k13) (open_last_is s9 l9))
    (ap (λ x. bit_xor x k14) (open_last_is s6 l6))
    (ap (λ x. bit_xor x k15) (open_last_is s3 l3))

pub open_ended : (s k : List ℕ) → IsBlock s → IsBlock k → {x key a t : List ℕ} → x ≡ placed (map into_open s) PLACES_3
    → key ≡ placed k PLACES_2
    → a ≡ xor_bytes (map (at_halves INVERSE RATIO OPEN_LAST_U OPEN_LAST_V) x) key → t ≡ slice_index_or open_turns 8 []
    → map (entry a) t ≡ open_last s k
open_ended s k bs bk ex ek ea et =
    let h : OpenEnds s k = ends_moved (sixteen s bs.len) (sixteen k bk.len) (explicit_end
    (slice_index s 0) (slice_index s 1) (slice_index s 2) (slice_index s 3) (slice_index s 4) (slice_index s 5)
    (slice_index s 6) (slice_index s 7) (slice_index s 8) (slice_index s 9) (slice_index s 10) (slice_index s 11)
    (slice_index s 12) (slice_index s 13) (slice_index s 14) (slice_index s 15)
    (slice_index k 0) (slice_index k 1) (slice_index k 2) (slice_index k 3) (slice_index k 4) (slice_index k 5)
    (slice_index k 6) (slice_index k 7) (slice_index k 8) (slice_index k 9) (slice_index k 10) (slice_index k 11)
    (slice_index k 12) (slice_index k 13) (slice_index k 14) (slice_index k 15)
    (byte_of s bs 0) (byte_of s bs 1) (byte_of s bs 2) (byte_of s bs 3) (byte_of s bs 4) (byte_of s bs 5)
    (byte_of s bs 6) (byte_of s bs 7) (byte_of s bs 8) (byte_of s bs 9) (byte_of s bs 10) (byte_of s bs 11)
    (byte_of s bs 12) (byte_of s bs 13) (byte_of s bs 14) (byte_of s bs 15)) in
    rw (ea, et, ex, ek) h

-- the beginning
abbrev OpenBegins : List ℕ → List ℕ → Type 0
OpenBegins s k = zip2 bit_xor (map (by_nibbles OPEN_LOW OPEN_HIGH) s) (map into_open k) ≡ map into_open (xor_bytes s k)

begins_moved : {s k t u : List ℕ} → s ≡ t → k ≡ u → OpenBegins t u → OpenBegins s k
begins_moved e f h = rw (e, f) h

begin_lane : (a k : ℕ) → a < 256 → k < 256 → bit_xor (by_nibbles OPEN_LOW OPEN_HIGH a) (into_open k)
    ≡ into_open (bit_xor a k)
begin_lane a k la lk = ap (λ x. bit_xor x (into_open k)) (open_low_is a la) ∙ sym (into_open-xor a k la lk)

explicit_begin : (s0 s1 s2 s3 s4 s5 s6 s7 s8 s9 s10 s11 s12 s13 s14 s15 : ℕ)
    (k0 k1 k2 k3 k4 k5 k6 k7 k8 k9 k10 k11 k12 k13 k14 k15 : ℕ) → s0 < 256 → s1 < 256 → s2 < 256 → s3 < 256 → s4 < 256
    → s5 < 256 → s6 < 256 → s7 < 256 → s8 < 256 → s9 < 256 → s10 < 256 → s11 < 256 → s12 < 256 → s13 < 256
    → s14 < 256 → s15 < 256 → k0 < 256 → k1 < 256 → k2 < 256 → k3 < 256 → k4 < 256 → k5 < 256 → k6 < 256
    → k7 < 256 → k8 < 256 → k9 < 256 → k10 < 256 → k11 < 256 → k12 < 256 → k13 < 256 → k14 < 256 → k15 < 256
    → OpenBegins (s0 ∷ s1 ∷ s2 ∷ s3 ∷ s4 ∷ s5 ∷ s6 ∷ s7 ∷ s8 ∷ s9 ∷ s10 ∷ s11 ∷ s12 ∷ s13 ∷ s14 ∷ s15
    ∷ []) (k0 ∷ k1 ∷ k2 ∷ k3 ∷ k4 ∷ k5 ∷ k6 ∷ k7 ∷ k8 ∷ k9 ∷ k10 ∷ k11 ∷ k12 ∷ k13 ∷ k14 ∷ k15 ∷ [])
explicit_begin s0 s1 s2 s3 s4 s5 s6 s7 s8 s9 s10 s11 s12 s13 s14 s15 k0 k1 k2 k3 k4 k5 k6 k7 k8 k9 k10 k11 k12 k13 k14
    k15 l0 l1 l2 l3 l4 l5 l6 l7 l8 l9 l10 l11 l12 l13 l14 l15 h0 h1 h2 h3 h4 h5 h6 h7 h8 h9 h10 h11 h12 h13 h14 h15 =
    state_equal
    (begin_lane s0 k0 l0 h0)
    (begin_lane s1 k1 l1 h1)
    (begin_lane s2 k2 l2 h2)
    (begin_lane s3 k3 l3 h3)
    (begin_lane s4 k4 l4 h4)
    (begin_lane s5 k5 l5 h5)
    (begin_lane s6 k6 l6 h6)
    (begin_lane s7 k7 l7 h7)
    (begin_lane s8 k8 l8 h8)
    (begin_lane s9 k9 l9 h9)
    (begin_lane s10 k10 l10 h10)
    (begin_lane s11 k11 l11 h11)
    (begin_lane s12 k12 l12 h12)
    (begin_lane s13 k13 l13 h13)
    (begin_lane s14 k14 l14 h14)
    (begin_lane s15 k15 l15 h15)

pub open_begun : (s k : List ℕ) → IsBlock s → IsBlock k → {a key : List ℕ} → a ≡ map (by_nibbles OPEN_LOW OPEN_HIGH) s
    → key ≡ map into_open k → zip2 bit_xor a key ≡ map into_open (xor_bytes s k)
open_begun s k bs bk ea ek =
    let h : OpenBegins s k = begins_moved (sixteen s bs.len) (sixteen k bk.len) (explicit_begin
    (slice_index s 0) (slice_index s 1) (slice_index s 2) (slice_index s 3) (slice_index s 4) (slice_index s 5)
    (slice_index s 6) (slice_index s 7) (slice_index s 8) (slice_index s 9) (slice_index s 10) (slice_index s 11)
    (slice_index s 12) (slice_index s 13) (slice_index s 14) (slice_index s 15)
    (slice_index k 0) (slice_index k 1) (slice_index k 2) (slice_index k 3) (slice_index k 4) (slice_index k 5)
    (slice_index k 6) (slice_index k 7) (slice_index k 8) (slice_index k 9) (slice_index k 10) (slice_index k 11)
    (slice_index k 12) (slice_index k 13) (slice_index k 14) (slice_index k 15)
    (byte_of s bs 0) (byte_of s bs 1) (byte_of s bs 2) (byte_of s bs 3) (byte_of s bs 4) (byte_of s bs 5)
    (byte_of s bs 6) (byte_of s bs 7) (byte_of s bs 8) (byte_of s bs 9) (byte_of s bs 10) (byte_of s bs 11)
    (byte_of s bs 12) (byte_of s bs 13) (byte_of s bs 14) (byte_of s bs 15)
    (byte_of k bk 0) (byte_of k bk 1) (byte_of k bk 2) (byte_of k bk 3) (byte_of k bk 4) (byte_of k bk 5)
    (byte_of k bk 6) (byte_of k bk 7) (byte_of k bk 8) (byte_of k bk 9) (byte_of k bk 10) (byte_of k bk 11)
    (byte_of k bk 12) (byte_of k bk 13) (byte_of k bk 14) (byte_of k bk 15)) in
    rw (ea, ek) h

-- the keys
map_five : (x : List ℕ) → Each1 (Fits w8) x → map (λ b. bit_xor (by_nibbles OPEN_LOW OPEN_HIGH b) FIVE) x
    ≡ map into_open x
map_five [] h = refl
map_five (b ∷ x) h = cons_equal (ap (λ z. bit_xor z FIVE) (open_low_is b h.0.fits) ∙ sym (five_is b h.0.fits))
    (map_five x h.1)

pub open_sum-is : (x : List ℕ) → length x ≡ 16 → Each1 (Fits w8) x → {a : List ℕ}
    → a ≡ map (by_nibbles OPEN_LOW OPEN_HIGH) x → zip2 bit_xor a (replicate 16 FIVE) ≡ map into_open x
open_sum-is x l h ea =
    ap (λ z. zip2 bit_xor z (replicate 16 FIVE)) ea
    ∙ zip2_splat bit_xor (map (by_nibbles OPEN_LOW OPEN_HIGH) x) 16 FIVE
    (length-map x (by_nibbles OPEN_LOW OPEN_HIGH) ∙ l)
    ∙ map-map (λ b. bit_xor b FIVE) (by_nibbles OPEN_LOW OPEN_HIGH) x
    ∙ map_five x h

abbrev unmixed_from : List ℕ → List ℕ → List ℕ → List ℕ → List ℕ
unmixed_from a b c d =
    zip2 bit_xor (zip2 bit_xor (zip2 bit_xor (zip2 bit_xor a (pick_l 0 (b ++ b) ONE_BELOW))
    (pick_l 0 (c ++ c) TWO_BELOW)) (pick_l 0 (d ++ d) THREE_BELOW)) (replicate 16 FIVE)

abbrev Unmixes : List ℕ → Type 0
Unmixes k = unmixed_from (map (by_nibbles KEY_FOURTEEN_LOW KEY_FOURTEEN_HIGH) k)
    (map (by_nibbles KEY_ELEVEN_LOW KEY_ELEVEN_HIGH) k) (map (by_nibbles KEY_THIRTEEN_LOW KEY_THIRTEEN_HIGH) k)
    (map (by_nibbles KEY_NINE_LOW KEY_NINE_HIGH) k) ≡ map into_open (inv_mix_columns k)

unmixes_moved : {s t : List ℕ} → s ≡ t → Unmixes t → Unmixes s
unmixes_moved e h = rw e h

key_lane : (a b c d : ℕ) → a < 256 → b < 256 → c < 256 → d < 256
    → bit_xor (bit_xor (bit_xor (bit_xor (by_nibbles KEY_FOURTEEN_LOW KEY_FOURTEEN_HIGH a)
    (by_nibbles KEY_ELEVEN_LOW KEY_ELEVEN_HIGH b)) (by_nibbles KEY_THIRTEEN_LOW KEY_THIRTEEN_HIGH c))
    (by_nibbles KEY_NINE_LOW KEY_NINE_HIGH d)) FIVE
    ≡ into_open (sum4 (product a 14) (product b 11) (product c 13) (product d 9))
key_lane a b c d la lb lc ld =
    rw (key_fourteen_is a la, key_eleven_is b lb, key_thirteen_is c lc, key_nine_is d ld) (
    ap (λ x. bit_xor x FIVE) (xor_assoc (bit_xor (linear_open (product a 14)) (linear_open (product b 11)))
    (linear_open (product c 13)) (linear_open (product d 9)) ∙ sym (unmixed_sum a b c d la lb lc ld))
    ∙ sym (five_is (sum4 (product a 14) (product b 11) (product c 13) (product d 9))
    (sum4_fits _ _ _ _ (product_fits a 14 la) (product_fits b 11 lb) (product_fits c 13 lc) (product_fits d 9 ld))))

explicit_key : (s0 s1 s2 s3 s4 s5 s6 s7 s8 s9 s10 s11 s12 s13 s14 s15 : ℕ) → s0 < 256 → s1 < 256 → s2 < 256 → s3 < 256
    → s4 < 256 → s5 < 256 → s6 < 256 → s7 < 256 → s8 < 256 → s9 < 256 → s10 < 256 → s11 < 256 → s12 < 256 → s13 < 256
    → s14 < 256 → s15 < 256 → Unmixes (s0 ∷ s1 ∷ s2 ∷ s3 ∷ s4 ∷ s5 ∷ s6 ∷ s7 ∷ s8 ∷ s9 ∷ s10 ∷ s11 ∷ s12 ∷ s13 ∷ s14
    ∷ s15 ∷ [])
unfolding inv_mix_columns
explicit_key s0 s1 s2 s3 s4 s5 s6 s7 s8 s9 s10 s11 s12 s13 s14 s15 l0 l1 l2 l3 l4 l5 l6 l7 l8 l9 l10 l11 l12 l13 l14 l15
    = state_equal
    (key_lane s0 s1 s2 s3 l0 l1 l2 l3)
    (key_lane s1 s2 s3 s0 l1 l2 l3 l0)
    (key_lane s2 s3 s0 s1 l2 l3 l0 l1)
    (key_lane s3 s0 s1 s2 l3 l0 l1 l2)
    (key_lane s4 s5 s6 s7 l4 l5 l6 l7)
    (key_lane s5 s6 s7 s4 l5 l6 l7 l4)
    (key_lane s6 s7 s4 s5 l6 l7 l4 l5)
    (key_lane s7 s4 s5 s6 l7 l4 l5 l6)
    (key_lane s8 s9 s10 s11 l8 l9 l10 l11)
    (key_lane s9 s10 s11 s8 l9 l10 l11 l8)
    (key_lane s10 s11 s8 s9 l10 l11 l8 l9)
    (key_lane s11 s8 s9 s10 l11 l8 l9 l10)
    (key_lane s12 s13 s14 s15 l12 l13 l14 l15)
    (key_lane s13 s14 s15 s12 l13 l14 l15 l12)
    (key_lane s14 s15 s12 s13 l14 l15 l12 l13)
    (key_lane s15 s12 s13 s14 l15 l12 l13 l14)

pub unmixed_is : (s : List ℕ) → IsBlock s → {a b c d : List ℕ}
    → a ≡ map (by_nibbles KEY_FOURTEEN_LOW KEY_FOURTEEN_HIGH) s → b ≡ map (by_nibbles KEY_ELEVEN_LOW KEY_ELEVEN_HIGH) s
    → c ≡ map (by_nibbles KEY_THIRTEEN_LOW KEY_THIRTEEN_HIGH) s → d ≡ map (by_nibbles KEY_NINE_LOW KEY_NINE_HIGH) s
    → unmixed_from a b c d ≡ map into_open (inv_mix_columns s)
unmixed_is s bs ea eb ec ed =
    let h : Unmixes s = unmixes_moved (sixteen s bs.len) (explicit_key
    (slice_index s 0) (slice_index s 1) (slice_index s 2) (slice_index s 3) (slice_index s 4) (slice_index s 5)
    (slice_index s 6) (slice_index s 7) (slice_index s 8) (slice_index s 9) (slice_index s 10) (slice_index s 11)
    (slice_index s 12) (slice_index s 13) (slice_index s 14) (slice_index s 15)
    (byte_of s bs 0) (byte_of s bs 1) (byte_of s bs 2) (byte_of s bs 3) (byte_of s bs 4) (byte_of s bs 5)
    (byte_of s bs 6) (byte_of s bs 7) (byte_of s bs 8) (byte_of s bs 9) (byte_of s bs 10) (byte_of s bs 11)
    (byte_of s bs 12) (byte_of s bs 13) (byte_of s bs 14) (byte_of s bs 15)) in
    rw (ea, eb, ec, ed) h

pub IsBlock-inv_rounds : (w b : List ℕ) (n : ℕ) → IsBlock b → IsBlock (inv_rounds w b n)
unfolding inv_rounds
IsBlock-inv_rounds w b zero h = IsBlock-add_round_key b (round_key w 14) h (IsBlock-round_key w 14)
IsBlock-inv_rounds w b (suc n) h = IsBlock-inv_mix_columns _
    (IsBlock-add_round_key _ (round_key w (13 - n))
    (IsBlock-inv_sub_bytes _ (IsBlock-inv_shift_rows _ (IsBlock-inv_rounds w b n h)))
    (IsBlock-round_key w (13 - n)))

-- a round of the equivalent inverse cipher is one of InvCipher
pub open_next : (w b : List ℕ) (n r m : ℕ) → r ≡ 13 - n → m ≡ suc n → IsBlock b
    → open_round (inv_rounds w b n) (inv_mix_columns (round_key w r)) ≡ inv_rounds w b m
open_next w b n r m er em h =
    sym (inv_mix_columns-add_round_key (inv_sub_bytes (inv_shift_rows (inv_rounds w b n))) (round_key w r)
    (IsBlock-inv_sub_bytes _ (IsBlock-inv_shift_rows _ (IsBlock-inv_rounds w b n h))) (IsBlock-round_key w r))
    ∙ inv_rounds-next w b (inv_rounds w b n) n r m er em refl

placed_moved : (f : ℕ → ℕ) {s t : List ℕ} → s ≡ t → map f t ≡ placed (map f t) PLACES_0
    → map f s ≡ placed (map f s) PLACES_0
placed_moved f e h = rw e h

pub all_placed : (f : ℕ → ℕ) (s : List ℕ) → IsBlock s → map f s ≡ placed (map f s) PLACES_0
all_placed f s bs = placed_moved f (sixteen s bs.len) refl

map_inverses : (x : List ℕ) → Each1 (Fits w8) x
    → map (λ b. at_halves INVERSE RATIO OPEN_LAST_U OPEN_LAST_V (into_open b)) x ≡ map inv_sub_byte x
map_inverses [] h = refl
map_inverses (b ∷ x) h = cons_equal (open_last_is b h.0.fits) (map_inverses x h.1)

-- the inverse S-box's entry of each byte
pub inv_substituted_is : (x : List ℕ) → Each1 (Fits w8) x → {y s : List ℕ}
    → s ≡ map (at_halves INVERSE RATIO OPEN_LAST_U OPEN_LAST_V) y → y ≡ map into_open x → s ≡ map inv_sub_byte x
inv_substituted_is x h es ey =
    es ∙ ap (map (at_halves INVERSE RATIO OPEN_LAST_U OPEN_LAST_V)) ey
    ∙ map-map (at_halves INVERSE RATIO OPEN_LAST_U OPEN_LAST_V) into_open x
    ∙ map_inverses x h
