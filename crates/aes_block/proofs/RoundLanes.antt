-- The rounds of sealing, byte by byte.
use Rattle.std.proofs.Common.{◌≡◌, ℕ, ◌<◌, List, [], ◌∷◌, ◌++◌, map}
use Rattle.std.specs.Prelude.{bit_xor, slice_index}
use lib.Lanes.{zip2, pick_l}
use Rattle.aes_block.specs.Block.{IsBlock, xor_bytes}
use Rattle.aes_block.specs.Steps.{sub_bytes, shift_rows, mix_columns, add_round_key}
use Rattle.aes_block.proofs.Blocks.{byte_of}
use Rattle.aes_block.proofs.Entries.{sixteen, state_equal}
use Rattle.aes_block.specs.declared.tables.TheConstants.{INVERSE, RATIO, ONE_U, ONE_V, TWO_U, TWO_V, PLACES_0, PLACES_1}
use Rattle.aes_block.specs.declared.tables.TheConstants.{PLACES_2, PLACES_3, TURN_1, TURN_2, TURN_3, TURN_4, BACK_1}
use Rattle.aes_block.specs.declared.tables.TheConstants.{BACK_2, BACK_3, BACK_4}
use Rattle.aes_block.specs.Sealing.{into, at_halves, placed, keyed, round}
use Rattle.aes_block.proofs.Column.{lane}

-- what the code sums, from its products and its substituted bytes
abbrev pub shuffled_sum : List ℕ → List ℕ → List ℕ → List ℕ → List ℕ
shuffled_sum m a turn back =
    let c = zip2 bit_xor m (pick_l 0 (a ++ a) turn) in
    zip2 bit_xor (zip2 bit_xor c (pick_l 0 (a ++ a) back)) (pick_l 0 (c ++ c) turn)

-- the two sides of a round, from a state and a key
abbrev RoundIs : List ℕ → List ℕ → List ℕ → List ℕ → List ℕ → List ℕ → Type 0
RoundIs from to turn back s k =
    let x = placed (map into s) from in
    shuffled_sum (map (at_halves INVERSE RATIO TWO_U TWO_V) x)
    (xor_bytes (map (at_halves INVERSE RATIO ONE_U ONE_V) x) (placed (keyed k) to)) turn back
    ≡ placed (map into (round s k)) to

moved : (from to turn back : List ℕ) {s k t u : List ℕ} → s ≡ t → k ≡ u → RoundIs from to turn back t u
    → RoundIs from to turn back s k
moved from to turn back e f h = rw (e, f) h

gathered : (from to turn back s k : List ℕ) → RoundIs from to turn back s k → {x key m a : List ℕ}
    → x ≡ placed (map into s) from → key ≡ placed (keyed k) to
    → m ≡ map (at_halves INVERSE RATIO TWO_U TWO_V) x → a ≡ xor_bytes (map (at_halves INVERSE RATIO ONE_U ONE_V) x) key
    → shuffled_sum m a turn back ≡ placed (map into (round s k)) to
gathered from to turn back s k h ex ek em ea = rw (em, ea, ex, ek) h

explicit_1 : (s0 s1 s2 s3 s4 s5 s6 s7 s8 s9 s10 s11 s12 s13 s14 s15 : ℕ)
    (k0 k1 k2 k3 k4 k5 k6 k7 k8 k9 k10 k11 k12 k13 k14 k15 : ℕ) → s0 < 256 → s1 < 256 → s2 < 256 → s3 < 256 → s4 < 256
    → s5 < 256 → s6 < 256 → s7 < 256 → s8 < 256 → s9 < 256 → s10 < 256 → s11 < 256 → s12 < 256 → s13 < 256
    → s14 < 256 → s15 < 256 → k0 < 256 → k1 < 256 → k2 < 256 → k3 < 256 → k4 < 256 → k5 < 256 → k6 < 256
    → k7 < 256 → k8 < 256 → k9 < 256 → k10 < 256 → k11 < 256 → k12 < 256 → k13 < 256 → k14 < 256 → k15 < 256
    → RoundIs PLACES_0 PLACES_1 TURN_1 BACK_1 (s0 ∷ s1 ∷ s2 ∷ s3 ∷ s4 ∷ s5 ∷ s6 ∷ s7 ∷ s8 ∷ s9 ∷ s10 ∷ s11 ∷ s12 ∷ s13
    ∷ s14 ∷ s15 ∷ []) (k0 ∷ k1 ∷ k2 ∷ k3 ∷ k4 ∷ k5 ∷ k6 ∷ k7 ∷ k8 ∷ k9 ∷ k10 ∷ k11 ∷ k12 ∷ k13 ∷ k14 ∷ k15 ∷ [])
unfolding keyed add_round_key mix_columns shift_rows sub_bytes
explicit_1 s0 s1 s2 s3 s4 s5 s6 s7 s8 s9 s10 s11 s12 s13 s14 s15 k0 k1 k2 k3 k4 k5 k6 k7 k8 k9 k10 k11 k12 k13 k14 k15
    l0 l1 l2 l3 l4 l5 l6 l7 l8 l9 l10 l11 l12 l13 l14 l15 h0 h1 h2 h3 h4 h5 h6 h7 h8 h9 h10 h11 h12 h13 h14 h15 =
    state_equal
    (lane s0 s5 s10 s15 k0 k1 k2 k3 l0 l5 l10 l15 h0)
    (lane s1 s6 s11 s12 k13 k14 k15 k12 l1 l6 l11 l12 h13)
    (lane s2 s7 s8 s13 k10 k11 k8 k9 l2 l7 l8 l13 h10)
    (lane s3 s4 s9 s14 k7 k4 k5 k6 l3 l4 l9 l14 h7)
    (lane s4 s9 s14 s3 k4 k5 k6 k7 l4 l9 l14 l3 h4)
    (lane s5 s10 s15 s0 k1 k2 k3 k0 l5 l10 l15 l0 h1)
    (lane s6 s11 s12 s1 k14 k15 k12 k13 l6 l11 l12 l1 h14)
    (lane s7 s8 s13 s2 k11 k8 k9 k10 l7 l8 l13 l2 h11)
    (lane s8 s13 s2 s7 k8 k9 k10 k11 l8 l13 l2 l7 h8)
    (lane s9 s14 s3 s4 k5 k6 k7 k4 l9 l14 l3 l4 h5)
    (lane s10 s15 s0 s5 k2 k3 k0 k1 l10 l15 l0 l5 h2)
    (lane s11 s12 s1 s6 k15 k12 k13 k14 l11 l12 l1 l6 h15)
    (lane s12 s1 s6 s11 k12 k13 k14 k15 l12 l1 l6 l11 h12)
    (lane s13 s2 s7 s8 k9 k10 k11 k8 l13 l2 l7 l8 h9)
    (lane s14 s3 s4 s9 k6 k7 k4 k5 l14 l3 l4 l9 h6)
    (lane s15 s0 s5 s10 k3 k0 k1 k2 l15 l0 l5 l10 h3)

pub round_1-is : (s k : List ℕ) → IsBlock s → IsBlock k → {x key m a : List ℕ} → x ≡ placed (map into s) PLACES_0
    → key ≡ placed (keyed k) PLACES_1
    → m ≡ map (at_halves INVERSE RATIO TWO_U TWO_V) x → a ≡ xor_bytes (map (at_halves INVERSE RATIO ONE_U ONE_V) x) key
    → shuffled_sum m a TURN_1 BACK_1 ≡ placed (map into (round s k)) PLACES_1
round_1-is s k bs bk ex ek em ea = gathered PLACES_0 PLACES_1 TURN_1 BACK_1 s k
    (moved PLACES_0 PLACES_1 TURN_1 BACK_1 (sixteen s bs.len) (sixteen k bk.len) (explicit_1
    (slice_index s 0) (slice_index s 1) (slice_index s 2) (slice_index s 3) (slice_index s 4) (slice_index s 5)
    (slice_index s 6) (slice_index s 7) (slice_index s 8) (slice_index s 9) (slice_index s 10) (slice_index s 11)
    (slice_index s 12) (slice_index s 13) (slice_index s 14) (slice_index s 15)
    (slice_index k 0) (slice_index k 1) (slice_index k 2) (slice_index k 3) (slice_index k 4) (slice_index k 5)
    (slice_index k 6) (slice_index k 7) (slice_index k 8) (slice_index k 9) (slice_index k 10) (slice_index k 11)
    (slice_index k 12) (slice_index k 13) (slice_index k 14) (slice_index k 15)
    (byte_of s bs 0) (byte_of s bs 1) (byte_of s bs 2) (byte_of s bs 3) (byte_of s bs 4) (byte_of s bs 5)
    (byte_of s bs 6) (byte_of s bs 7) (byte_of s bs 8) (byte_of s bs 9) (byte_of s bs 10) (byte_of s bs 11)
    (byte_of s bs 12) (byte_of s bs 13) (byte_of s bs 14) (byte_of s bs 15)
    (byte_of k bk 0) (byte_of k bk 1) (byte_of k bk 2) (byte_of k bk 3) (byte_of k bk 4) (byte_of k bk 5)
    (byte_of k bk 6) (byte_of k bk 7) (byte_of k bk 8) (byte_of k bk 9) (byte_of k bk 10) (byte_of k bk 11)
    (byte_of k bk 12) (byte_of k bk 13) (byte_of k bk 14) (byte_of k bk 15))) ex ek em ea

explicit_2 : (s0 s1 s2 s3 s4 s5 s6 s7 s8 s9 s10 s11 s12 s13 s14 s15 : ℕ)
    (k0 k1 k2 k3 k4 k5 k6 k7 k8 k9 k10 k11 k12 k13 k14 k15 : ℕ) → s0 < 256 → s1 < 256 → s2 < 256 → s3 < 256 → s4 < 256
    → s5 < 256 → s6 < 256 → s7 < 256 → s8 < 256 → s9 < 256 → s10 < 256 → s11 < 256 → s12 < 256 → s13 < 256
    → s14 < 256 → s15 < 256 → k0 < 256 → k1 < 256 → k2 < 256 → k3 < 256 → k4 < 256 → k5 < 256 → k6 < 256
    → k7 < 256 → k8 < 256 → k9 < 256 → k10 < 256 → k11 < 256 → k12 < 256 → k13 < 256 → k14 < 256 → k15 < 256
    → RoundIs PLACES_1 PLACES_2 TURN_2 BACK_2 (s0 ∷ s1 ∷ s2 ∷ s3 ∷ s4 ∷ s5 ∷ s6 ∷ s7 ∷ s8 ∷ s9 ∷ s10 ∷ s11 ∷ s12 ∷ s13
    ∷ s14 ∷ s15 ∷ []) (k0 ∷ k1 ∷ k2 ∷ k3 ∷ k4 ∷ k5 ∷ k6 ∷ k7 ∷ k8 ∷ k9 ∷ k10 ∷ k11 ∷ k12 ∷ k13 ∷ k14 ∷ k15 ∷ [])
unfolding keyed add_round_key mix_columns shift_rows sub_bytes
explicit_2 s0 s1 s2 s3 s4 s5 s6 s7 s8 s9 s10 s11 s12 s13 s14 s15 k0 k1 k2 k3 k4 k5 k6 k7 k8 k9 k10 k11 k12 k13 k14 k15
    l0 l1 l2 l3 l4 l5 l6 l7 l8 l9 l10 l11 l12 l13 l14 l15 h0 h1 h2 h3 h4 h5 h6 h7 h8 h9 h10 h11 h12 h13 h14 h15 =
    state_equal
    (lane s0 s5 s10 s15 k0 k1 k2 k3 l0 l5 l10 l15 h0)
    (lane s13 s2 s7 s8 k9 k10 k11 k8 l13 l2 l7 l8 h9)
    (lane s10 s15 s0 s5 k2 k3 k0 k1 l10 l15 l0 l5 h2)
    (lane s7 s8 s13 s2 k11 k8 k9 k10 l7 l8 l13 l2 h11)
    (lane s4 s9 s14 s3 k4 k5 k6 k7 l4 l9 l14 l3 h4)
    (lane s1 s6 s11 s12 k13 k14 k15 k12 l1 l6 l11 l12 h13)
    (lane s14 s3 s4 s9 k6 k7 k4 k5 l14 l3 l4 l9 h6)
    (lane s11 s12 s1 s6 k15 k12 k13 k14 l11 l12 l1 l6 h15)
    (lane s8 s13 s2 s7 k8 k9 k10 k11 l8 l13 l2 l7 h8)
    (lane s5 s10 s15 s0 k1 k2 k3 k0 l5 l10 l15 l0 h1)
    (lane s2 s7 s8 s13 k10 k11 k8 k9 l2 l7 l8 l13 h10)
    (lane s15 s0 s5 s10 k3 k0 k1 k2 l15 l0 l5 l10 h3)
    (lane s12 s1 s6 s11 k12 k13 k14 k15 l12 l1 l6 l11 h12)
    (lane s9 s14 s3 s4 k5 k6 k7 k4 l9 l14 l3 l4 h5)
    (lane s6 s11 s12 s1 k14 k15 k12 k13 l6 l11 l12 l1 h14)
    (lane s3 s4 s9 s14 k7 k4 k5 k6 l3 l4 l9 l14 h7)

pub round_2-is : (s k : List ℕ) → IsBlock s → IsBlock k → {x key m a : List ℕ} → x ≡ placed (map into s) PLACES_1
    → key ≡ placed (keyed k) PLACES_2
    → m ≡ map (at_halves INVERSE RATIO TWO_U TWO_V) x → a ≡ xor_bytes (map (at_halves INVERSE RATIO ONE_U ONE_V) x) key
    → shuffled_sum m a TURN_2 BACK_2 ≡ placed (map into (round s k)) PLACES_2
round_2-is s k bs bk ex ek em ea = gathered PLACES_1 PLACES_2 TURN_2 BACK_2 s k
    (moved PLACES_1 PLACES_2 TURN_2 BACK_2 (sixteen s bs.len) (sixteen k bk.len) (explicit_2
    (slice_index s 0) (slice_index s 1) (slice_index s 2) (slice_index s 3) (slice_index s 4) (slice_index s 5)
    (slice_index s 6) (slice_index s 7) (slice_index s 8) (slice_index s 9) (slice_index s 10) (slice_index s 11)
    (slice_index s 12) (slice_index s 13) (slice_index s 14) (slice_index s 15)
    (slice_index k 0) (slice_index k 1) (slice_index k 2) (slice_index k 3) (slice_index k 4) (slice_index k 5)
    (slice_index k 6) (slice_index k 7) (slice_index k 8) (slice_index k 9) (slice_index k 10) (slice_index k 11)
    (slice_index k 12) (slice_index k 13) (slice_index k 14) (slice_index k 15)
    (byte_of s bs 0) (byte_of s bs 1) (byte_of s bs 2) (byte_of s bs 3) (byte_of s bs 4) (byte_of s bs 5)
    (byte_of s bs 6) (byte_of s bs 7) (byte_of s bs 8) (byte_of s bs 9) (byte_of s bs 10) (byte_of s bs 11)
    (byte_of s bs 12) (byte_of s bs 13) (byte_of s bs 14) (byte_of s bs 15)
    (byte_of k bk 0) (byte_of k bk 1) (byte_of k bk 2) (byte_of k bk 3) (byte_of k bk 4) (byte_of k bk 5)
    (byte_of k bk 6) (byte_of k bk 7) (byte_of k bk 8) (byte_of k bk 9) (byte_of k bk 10) (byte_of k bk 11)
    (byte_of k bk 12) (byte_of k bk 13) (byte_of k bk 14) (byte_of k bk 15))) ex ek em ea

explicit_3 : (s0 s1 s2 s3 s4 s5 s6 s7 s8 s9 s10 s11 s12 s13 s14 s15 : ℕ)
    (k0 k1 k2 k3 k4 k5 k6 k7 k8 k9 k10 k11 k12 k13 k14 k15 : ℕ) → s0 < 256 → s1 < 256 → s2 < 256 → s3 < 256 → s4 < 256
    → s5 < 256 → s6 < 256 → s7 < 256 → s8 < 256 → s9 < 256 → s10 < 256 → s11 < 256 → s12 < 256 → s13 < 256
    → s14 < 256 → s15 < 256 → k0 < 256 → k1 < 256 → k2 < 256 → k3 < 256 → k4 < 256 → k5 < 256 → k6 < 256
    → k7 < 256 → k8 < 256 → k9 < 256 → k10 < 256 → k11 < 256 → k12 < 256 → k13 < 256 → k14 < 256 → k15 < 256
    → RoundIs PLACES_2 PLACES_3 TURN_3 BACK_3 (s0 ∷ s1 ∷ s2 ∷ s3 ∷ s4 ∷ s5 ∷ s6 ∷ s7 ∷ s8 ∷ s9 ∷ s10 ∷ s11 ∷ s12 ∷ s13
    ∷ s14 ∷ s15 ∷ []) (k0 ∷ k1 ∷ k2 ∷ k3 ∷ k4 ∷ k5 ∷ k6 ∷ k7 ∷ k8 ∷ k9 ∷ k10 ∷ k11 ∷ k12 ∷ k13 ∷ k14 ∷ k15 ∷ [])
unfolding keyed add_round_key mix_columns shift_rows sub_bytes
explicit_3 s0 s1 s2 s3 s4 s5 s6 s7 s8 s9 s10 s11 s12 s13 s14 s15 k0 k1 k2 k3 k4 k5 k6 k7 k8 k9 k10 k11 k12 k13 k14 k15
    l0 l1 l2 l3 l4 l5 l6 l7 l8 l9 l10 l11 l12 l13 l14 l15 h0 h1 h2 h3 h4 h5 h6 h7 h8 h9 h10 h11 h12 h13 h14 h15 =
    state_equal
    (lane s0 s5 s10 s15 k0 k1 k2 k3 l0 l5 l10 l15 h0)
    (lane s9 s14 s3 s4 k5 k6 k7 k4 l9 l14 l3 l4 h5)
    (lane s2 s7 s8 s13 k10 k11 k8 k9 l2 l7 l8 l13 h10)
    (lane s11 s12 s1 s6 k15 k12 k13 k14 l11 l12 l1 l6 h15)
    (lane s4 s9 s14 s3 k4 k5 k6 k7 l4 l9 l14 l3 h4)
    (lane s13 s2 s7 s8 k9 k10 k11 k8 l13 l2 l7 l8 h9)
    (lane s6 s11 s12 s1 k14 k15 k12 k13 l6 l11 l12 l1 h14)
    (lane s15 s0 s5 s10 k3 k0 k1 k2 l15 l0 l5 l10 h3)
    (lane s8 s13 s2 s7 k8 k9 k10 k11 l8 l13 l2 l7 h8)
    (lane s1 s6 s11 s12 k13 k14 k15 k12 l1 l6 l11 l12 h13)
    (lane s10 s15 s0 s5 k2 k3 k0 k1 l10 l15 l0 l5 h2)
    (lane s3 s4 s9 s14 k7 k4 k5 k6 l3 l4 l9 l14 h7)
    (lane s12 s1 s6 s11 k12 k13 k14 k15 l12 l1 l6 l11 h12)
    (lane s5 s10 s15 s0 k1 k2 k3 k0 l5 l10 l15 l0 h1)
    (lane s14 s3 s4 s9 k6 k7 k4 k5 l14 l3 l4 l9 h6)
    (lane s7 s8 s13 s2 k11 k8 k9 k10 l7 l8 l13 l2 h11)

pub round_3-is : (s k : List ℕ) → IsBlock s → IsBlock k → {x key m a : List ℕ} → x ≡ placed (map into s) PLACES_2
    → key ≡ placed (keyed k) PLACES_3
    → m ≡ map (at_halves INVERSE RATIO TWO_U TWO_V) x → a ≡ xor_bytes (map (at_halves INVERSE RATIO ONE_U ONE_V) x) key
    → shuffled_sum m a TURN_3 BACK_3 ≡ placed (map into (round s k)) PLACES_3
round_3-is s k bs bk ex ek em ea = gathered PLACES_2 PLACES_3 TURN_3 BACK_3 s k
    (moved PLACES_2 PLACES_3 TURN_3 BACK_3 (sixteen s bs.len) (sixteen k bk.len) (explicit_3
    (slice_index s 0) (slice_index s 1) (slice_index s 2) (slice_index s 3) (slice_index s 4) (slice_index s 5)
    (slice_index s 6) (slice_index s 7) (slice_index s 8) (slice_index s 9) (slice_index s 10) (slice_index s 11)
    (slice_index s 12) (slice_index s 13) (slice_index s 14) (slice_index s 15)
    (slice_index k 0) (slice_index k 1) (slice_index k 2) (slice_index k 3) (slice_index k 4) (slice_index k 5)
    (slice_index k 6) (slice_index k 7) (slice_index k 8) (slice_index k 9) (slice_index k 10) (slice_index k 11)
    (slice_index k 12) (slice_index k 13) (slice_index k 14) (slice_index k 15)
    (byte_of s bs 0) (byte_of s bs 1) (byte_of s bs 2) (byte_of s bs 3) (byte_of s bs 4) (byte_of s bs 5)
    (byte_of s bs 6) (byte_of s bs 7) (byte_of s bs 8) (byte_of s bs 9) (byte_of s bs 10) (byte_of s bs 11)
    (byte_of s bs 12) (byte_of s bs 13) (byte_of s bs 14) (byte_of s bs 15)
    (byte_of k bk 0) (byte_of k bk 1) (byte_of k bk 2) (byte_of k bk 3) (byte_of k bk 4) (byte_of k bk 5)
    (byte_of k bk 6) (byte_of k bk 7) (byte_of k bk 8) (byte_of k bk 9) (byte_of k bk 10) (byte_of k bk 11)
    (byte_of k bk 12) (byte_of k bk 13) (byte_of k bk 14) (byte_of k bk 15))) ex ek em ea

explicit_4 : (s0 s1 s2 s3 s4 s5 s6 s7 s8 s9 s10 s11 s12 s13 s14 s15 : ℕ)
    (k0 k1 k2 k3 k4 k5 k6 k7 k8 k9 k10 k11 k12 k13 k14 k15 : ℕ) → s0 < 256 → s1 < 256 → s2 < 256 → s3 < 256 → s4 < 256
    → s5 < 256 → s6 < 256 → s7 < 256 → s8 < 256 → s9 < 256 → s10 < 256 → s11 < 256 → s12 < 256 → s13 < 256
    → s14 < 256 → s15 < 256 → k0 < 256 → k1 < 256 → k2 < 256 → k3 < 256 → k4 < 256 → k5 < 256 → k6 < 256
    → k7 < 256 → k8 < 256 → k9 < 256 → k10 < 256 → k11 < 256 → k12 < 256 → k13 < 256 → k14 < 256 → k15 < 256
    → RoundIs PLACES_3 PLACES_0 TURN_4 BACK_4 (s0 ∷ s1 ∷ s2 ∷ s3 ∷ s4 ∷ s5 ∷ s6 ∷ s7 ∷ s8 ∷ s9 ∷ s10 ∷ s11 ∷ s12 ∷ s13
    ∷ s14 ∷ s15 ∷ []) (k0 ∷ k1 ∷ k2 ∷ k3 ∷ k4 ∷ k5 ∷ k6 ∷ k7 ∷ k8 ∷ k9 ∷ k10 ∷ k11 ∷ k12 ∷ k13 ∷ k14 ∷ k15 ∷ [])
unfolding keyed add_round_key mix_columns shift_rows sub_bytes
explicit_4 s0 s1 s2 s3 s4 s5 s6 s7 s8 s9 s10 s11 s12 s13 s14 s15 k0 k1 k2 k3 k4 k5 k6 k7 k8 k9 k10 k11 k12 k13 k14 k15
    l0 l1 l2 l3 l4 l5 l6 l7 l8 l9 l10 l11 l12 l13 l14 l15 h0 h1 h2 h3 h4 h5 h6 h7 h8 h9 h10 h11 h12 h13 h14 h15 =
    state_equal
    (lane s0 s5 s10 s15 k0 k1 k2 k3 l0 l5 l10 l15 h0)
    (lane s5 s10 s15 s0 k1 k2 k3 k0 l5 l10 l15 l0 h1)
    (lane s10 s15 s0 s5 k2 k3 k0 k1 l10 l15 l0 l5 h2)
    (lane s15 s0 s5 s10 k3 k0 k1 k2 l15 l0 l5 l10 h3)
    (lane s4 s9 s14 s3 k4 k5 k6 k7 l4 l9 l14 l3 h4)
    (lane s9 s14 s3 s4 k5 k6 k7 k4 l9 l14 l3 l4 h5)
    (lane s14 s3 s4 s9 k6 k7 k4 k5 l14 l3 l4 l9 h6)
    (lane s3 s4 s9 s14 k7 k4 k5 k6 l3 l4 l9 l14 h7)
    (lane s8 s13 s2 s7 k8 k9 k10 k11 l8 l13 l2 l7 h8)
    (lane s13 s2 s7 s8 k9 k10 k11 k8 l13 l2 l7 l8 h9)
    (lane s2 s7 s8 s13 k10 k11 k8 k9 l2 l7 l8 l13 h10)
    (lane s7 s8 s13 s2 k11 k8 k9 k10 l7 l8 l13 l2 h11)
    (lane s12 s1 s6 s11 k12 k13 k14 k15 l12 l1 l6 l11 h12)
    (lane s1 s6 s11 s12 k13 k14 k15 k12 l1 l6 l11 l12 h13)
    (lane s6 s11 s12 s1 k14 k15 k12 k13 l6 l11 l12 l1 h14)
    (lane s11 s12 s1 s6 k15 k12 k13 k14 l11 l12 l1 l6 h15)

pub round_0-is : (s k : List ℕ) → IsBlock s → IsBlock k → {x key m a : List ℕ} → x ≡ placed (map into s) PLACES_3
    → key ≡ placed (keyed k) PLACES_0
    → m ≡ map (at_halves INVERSE RATIO TWO_U TWO_V) x → a ≡ xor_bytes (map (at_halves INVERSE RATIO ONE_U ONE_V) x) key
    → shuffled_sum m a TURN_4 BACK_4 ≡ placed (map into (round s k)) PLACES_0
round_0-is s k bs bk ex ek em ea = gathered PLACES_3 PLACES_0 TURN_4 BACK_4 s k
    (moved PLACES_3 PLACES_0 TURN_4 BACK_4 (sixteen s bs.len) (sixteen k bk.len) (explicit_4
    (slice_index s 0) (slice_index s 1) (slice_index s 2) (slice_index s 3) (slice_index s 4) (slice_index s 5)
    (slice_index s 6) (slice_index s 7) (slice_index s 8) (slice_index s 9) (slice_index s 10) (slice_index s 11)
    (slice_index s 12) (slice_index s 13) (slice_index s 14) (slice_index s 15)
    (slice_index k 0) (slice_index k 1) (slice_index k 2) (slice_index k 3) (slice_index k 4) (slice_index k 5)
    (slice_index k 6) (slice_index k 7) (slice_index k 8) (slice_index k 9) (slice_index k 10) (slice_index k 11)
    (slice_index k 12) (slice_index k 13) (slice_index k 14) (slice_index k 15)
    (byte_of s bs 0) (byte_of s bs 1) (byte_of s bs 2) (byte_of s bs 3) (byte_of s bs 4) (byte_of s bs 5)
    (byte_of s bs 6) (byte_of s bs 7) (byte_of s bs 8) (byte_of s bs 9) (byte_of s bs 10) (byte_of s bs 11)
    (byte_of s bs 12) (byte_of s bs 13) (byte_of s bs 14) (byte_of s bs 15)
    (byte_of k bk 0) (byte_of k bk 1) (byte_of k bk 2) (byte_of k bk 3) (byte_of k bk 4) (byte_of k bk 5)
    (byte_of k bk 6) (byte_of k bk 7) (byte_of k bk 8) (byte_of k bk 9) (byte_of k bk 10) (byte_of k bk 11)
    (byte_of k bk 12) (byte_of k bk 13) (byte_of k bk 14) (byte_of k bk 15))) ex ek em ea
