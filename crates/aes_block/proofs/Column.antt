-- A byte after a round, as the shuffles sum it.
use Rattle.std.proofs.Common.{◌≡◌, ℕ, ◌<◌, ap, sym, arith, ◌∙◌}
use Rattle.std.specs.Prelude.{bit_xor}
use Rattle.std.proofs.lemmas.Nat.{xor_of_8}
use Rattle.aes_block.specs.Field.{product}
use Rattle.aes_block.specs.Substitution.{sub_byte}
use Rattle.aes_block.specs.Steps.{sum4}
use Rattle.aes_block.proofs.Blocks.{sub_byte_fits}
use Rattle.aes_block.proofs.Linear.{product_fits, sum4_fits}
use Rattle.aes_block.proofs.Products.{product-1, product-2, product-3}
use Rattle.aes_block.specs.declared.tables.TheConstants.{INVERSE, RATIO, ONE_U, ONE_V, TWO_U, TWO_V}
use Rattle.aes_block.specs.Sealing.{into, at_halves}
use Rattle.aes_block.proofs.Boxes.{one_is, two_is, into-xor}
use Rattle.aes_block.proofs.Sums.{lane_sum}

into-sum4 : (a b c d : ℕ) → a < 256 → b < 256 → c < 256 → d < 256
    → into (sum4 a b c d) ≡ bit_xor (bit_xor (into a) (into b)) (bit_xor (into c) (into d))
into-sum4 a b c d la lb lc ld =
    into-xor (bit_xor a b) (bit_xor c d) (xor_of_8 _ _ la lb) (xor_of_8 _ _ lc ld)
    ∙ ap (λ x. bit_xor x (into (bit_xor c d))) (into-xor a b la lb)
    ∙ ap (bit_xor (bit_xor (into a) (into b))) (into-xor c d lc ld)

into_triple : (a : ℕ) → a < 256 → into (product a 3) ≡ bit_xor (into (product a 2)) (into a)
into_triple a l =
    ap into (product-3 a l ∙ ap (λ x. bit_xor x a) (sym (product-2 a l)))
    ∙ into-xor (product a 2) a (product_fits a 2 l) l

mixed_into : (a b c d k : ℕ) → a < 256 → b < 256 → c < 256 → d < 256 → k < 256
    → into (bit_xor (sum4 (product a 2) (product b 3) (product c 1) (product d 1)) k)
    ≡ bit_xor (bit_xor (bit_xor (into (product a 2)) (bit_xor (into (product b 2)) (into b)))
    (bit_xor (into c) (into d))) (into k)
mixed_into a b c d k la lb lc ld lk =
    into-xor (sum4 (product a 2) (product b 3) (product c 1) (product d 1)) k
    (sum4_fits _ _ _ _ (product_fits a 2 la) (product_fits b 3 lb) (product_fits c 1 lc) (product_fits d 1 ld)) lk
    ∙ ap (λ x. bit_xor x (into k)) (
    into-sum4 (product a 2) (product b 3) (product c 1) (product d 1) (product_fits a 2 la) (product_fits b 3 lb)
    (product_fits c 1 lc) (product_fits d 1 ld)
    ∙ ap (λ x. bit_xor (bit_xor (into (product a 2)) x) (bit_xor (into (product c 1)) (into (product d 1))))
    (into_triple b lb)
    ∙ ap (λ x. bit_xor (bit_xor (into (product a 2)) (bit_xor (into (product b 2)) (into b)))
    (bit_xor (into x) (into (product d 1)))) (product-1 c lc)
    ∙ ap (λ x. bit_xor (bit_xor (into (product a 2)) (bit_xor (into (product b 2)) (into b)))
    (bit_xor (into c) (into x))) (product-1 d ld))

-- from the bytes a, b, c and d before SubBytes, and the column's key
pub lane : (a b c d k0 k1 k2 k3 : ℕ) → a < 256 → b < 256 → c < 256 → d < 256 → k0 < 256
    → bit_xor (bit_xor (bit_xor (at_halves INVERSE RATIO TWO_U TWO_V (into a))
    (bit_xor (at_halves INVERSE RATIO ONE_U ONE_V (into b))
    (bit_xor (bit_xor (into (bit_xor k2 0x63)) (into (bit_xor k3 0x63))) (into (bit_xor k0 0x63)))))
    (bit_xor (at_halves INVERSE RATIO ONE_U ONE_V (into d))
    (bit_xor (bit_xor (into (bit_xor k0 0x63)) (into (bit_xor k1 0x63))) (into (bit_xor k2 0x63)))))
    (bit_xor (at_halves INVERSE RATIO TWO_U TWO_V (into b))
    (bit_xor (at_halves INVERSE RATIO ONE_U ONE_V (into c))
    (bit_xor (bit_xor (into (bit_xor k3 0x63)) (into (bit_xor k0 0x63))) (into (bit_xor k1 0x63)))))
    ≡ into (bit_xor (sum4 (product (sub_byte a) 2) (product (sub_byte b) 3) (product (sub_byte c) 1)
    (product (sub_byte d) 1)) k0)
lane a b c d k0 k1 k2 k3 la lb lc ld lk =
    rw (two_is a la, two_is b lb, one_is b lb, one_is c lc, one_is d ld, into-xor k0 0x63 lk (omega arith)) (
    lane_sum (into (product (sub_byte a) 2)) (into (product (sub_byte b) 2)) (into (sub_byte b)) (into (sub_byte c))
    (into (sub_byte d)) (into 0x63) (into 0xc6) (into k0) (into (bit_xor k1 0x63)) (into (bit_xor k2 0x63))
    (into (bit_xor k3 0x63))
    ∙ sym (mixed_into (sub_byte a) (sub_byte b) (sub_byte c) (sub_byte d) k0 (sub_byte_fits a la) (sub_byte_fits b lb)
    (sub_byte_fits c lc) (sub_byte_fits d ld) lk))
