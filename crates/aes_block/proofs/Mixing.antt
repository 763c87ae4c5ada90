-- A column map is linear, and undone by another where its constants are inverse (FIPS 197, 4.3).
use Rattle.std.proofs.Common.{◌≡◌, ℕ, ◌<◌, [], ◌∷◌, ap, sym, ◌∙◌}
use Rattle.std.specs.Prelude.{bit_xor}
use Rattle.std.specs.Int.Bits.{xor_zero_r}
use Rattle.std.proofs.lemmas.Nat.{xor_of_8}
use Rattle.aes_block.specs.Field.{product}
use Rattle.aes_block.specs.Block.{xor_bytes}
use Rattle.aes_block.specs.Steps.{sum4, mixed_column}
use Rattle.aes_block.proofs.Linear.{product-xor, product_fits, sum4-xor}
use Rattle.aes_block.proofs.Xor.{four_equal, sum4-turned}

pub sum4_equal : {a b c d p q r s : ℕ} → a ≡ p → b ≡ q → c ≡ r → d ≡ s → sum4 a b c d ≡ sum4 p q r s
sum4_equal e f g h = cc

row-xor : (m0 m1 m2 m3 a b c d p q r s : ℕ) → a < 256 → b < 256 → c < 256 → d < 256 → p < 256 → q < 256 → r < 256
    → s < 256
    → sum4 (product (bit_xor a p) m0) (product (bit_xor b q) m1) (product (bit_xor c r) m2) (product (bit_xor d s) m3)
    ≡ bit_xor (sum4 (product a m0) (product b m1) (product c m2) (product d m3))
    (sum4 (product p m0) (product q m1) (product r m2) (product s m3))
row-xor m0 m1 m2 m3 a b c d p q r s la lb lc ld lp lq lr ls =
    sum4_equal (product-xor a p m0 la lp) (product-xor b q m1 lb lq) (product-xor c r m2 lc lr)
    (product-xor d s m3 ld ls)
    ∙ sum4-xor (product a m0) (product b m1) (product c m2) (product d m3) (product p m0) (product q m1) (product r m2)
    (product s m3)

-- the column of a sum is the sum of the columns
pub mixed_column-xor : (m0 m1 m2 m3 a b c d p q r s : ℕ) → a < 256 → b < 256 → c < 256 → d < 256 → p < 256 → q < 256
    → r < 256 → s < 256
    → mixed_column m0 m1 m2 m3 (bit_xor a p) (bit_xor b q) (bit_xor c r) (bit_xor d s)
    ≡ xor_bytes (mixed_column m0 m1 m2 m3 a b c d) (mixed_column m0 m1 m2 m3 p q r s)
mixed_column-xor m0 m1 m2 m3 a b c d p q r s la lb lc ld lp lq lr ls = four_equal
    (row-xor m0 m1 m2 m3 a b c d p q r s la lb lc ld lp lq lr ls)
    (row-xor m0 m1 m2 m3 b c d a q r s p lb lc ld la lq lr ls lp)
    (row-xor m0 m1 m2 m3 c d a b r s p q lc ld la lb lr ls lp lq)
    (row-xor m0 m1 m2 m3 d a b c s p q r ld la lb lc ls lp lq lr)

product-sum4 : (m a b c d : ℕ) → a < 256 → b < 256 → c < 256 → d < 256
    → product (sum4 a b c d) m ≡ sum4 (product a m) (product b m) (product c m) (product d m)
product-sum4 m a b c d la lb lc ld =
    product-xor (bit_xor a b) (bit_xor c d) m (xor_of_8 _ _ la lb) (xor_of_8 _ _ lc ld)
    ∙ ap (λ x. bit_xor x (product (bit_xor c d) m)) (product-xor a b m la lb)
    ∙ ap (bit_xor (bit_xor (product a m) (product b m))) (product-xor c d m lc ld)

-- a sum by rows is the sum by columns
sum4-sum4 : (a b c d e f g h i j k l m n o p : ℕ)
    → sum4 (sum4 a b c d) (sum4 e f g h) (sum4 i j k l) (sum4 m n o p)
    ≡ sum4 (sum4 a e i m) (sum4 b f j n) (sum4 c g k o) (sum4 d h l p)
sum4-sum4 a b c d e f g h i j k l m n o p =
    ap (λ x. bit_xor x (bit_xor (sum4 i j k l) (sum4 m n o p))) (two_rows a b c d e f g h)
    ∙ ap (bit_xor (sum4 (bit_xor a e) (bit_xor b f) (bit_xor c g) (bit_xor d h))) (two_rows i j k l m n o p)
    ∙ two_rows (bit_xor a e) (bit_xor b f) (bit_xor c g) (bit_xor d h) (bit_xor i m) (bit_xor j n) (bit_xor k o)
    (bit_xor l p)
  where
    two_rows : (a b c d e f g h : ℕ) → bit_xor (sum4 a b c d) (sum4 e f g h)
        ≡ sum4 (bit_xor a e) (bit_xor b f) (bit_xor c g) (bit_xor d h)
    two_rows a b c d e f g h = sym (sum4-xor a b c d e f g h)

sum4-zeros : (a : ℕ) → sum4 a 0 0 0 ≡ a
sum4-zeros a = xor_zero_r (bit_xor a 0) ∙ xor_zero_r a

turned_1 : (p q r s : ℕ) → sum4 p q r s ≡ sum4 s p q r
turned_1 p q r s = sym (sum4-turned s p q r)

turned_2 : (p q r s : ℕ) → sum4 p q r s ≡ sum4 r s p q
turned_2 p q r s = sum4-turned p q r s ∙ sum4-turned q r s p

-- the first byte of a column that goes through both maps
row_undone : (m0 m1 m2 m3 n0 n1 n2 n3 a b c d : ℕ) → a < 256 → b < 256 → c < 256 → d < 256
    → sum4 (product (product a m0) n0) (product (product a m3) n1) (product (product a m2) n2)
    (product (product a m1) n3) ≡ a
    → sum4 (product (product b m1) n0) (product (product b m0) n1) (product (product b m3) n2)
    (product (product b m2) n3) ≡ 0
    → sum4 (product (product c m2) n0) (product (product c m1) n1) (product (product c m0) n2)
    (product (product c m3) n3) ≡ 0
    → sum4 (product (product d m3) n0) (product (product d m2) n1) (product (product d m1) n2)
    (product (product d m0) n3) ≡ 0
    → sum4 (product (sum4 (product a m0) (product b m1) (product c m2) (product d m3)) n0)
    (product (sum4 (product b m0) (product c m1) (product d m2) (product a m3)) n1)
    (product (sum4 (product c m0) (product d m1) (product a m2) (product b m3)) n2)
    (product (sum4 (product d m0) (product a m1) (product b m2) (product c m3)) n3) ≡ a
row_undone m0 m1 m2 m3 n0 n1 n2 n3 a b c d la lb lc ld ea eb ec ed =
    sum4_equal
    (product-sum4 n0 (product a m0) (product b m1) (product c m2) (product d m3) (product_fits a m0 la)
    (product_fits b m1 lb) (product_fits c m2 lc) (product_fits d m3 ld))
    (product-sum4 n1 (product b m0) (product c m1) (product d m2) (product a m3) (product_fits b m0 lb)
    (product_fits c m1 lc) (product_fits d m2 ld) (product_fits a m3 la)
    ∙ turned_1 (product (product b m0) n1) (product (product c m1) n1) (product (product d m2) n1)
    (product (product a m3) n1))
    (product-sum4 n2 (product c m0) (product d m1) (product a m2) (product b m3) (product_fits c m0 lc)
    (product_fits d m1 ld) (product_fits a m2 la) (product_fits b m3 lb)
    ∙ turned_2 (product (product c m0) n2) (product (product d m1) n2) (product (product a m2) n2)
    (product (product b m3) n2))
    (product-sum4 n3 (product d m0) (product a m1) (product b m2) (product c m3) (product_fits d m0 ld)
    (product_fits a m1 la) (product_fits b m2 lb) (product_fits c m3 lc)
    ∙ sum4-turned (product (product d m0) n3) (product (product a m1) n3) (product (product b m2) n3)
    (product (product c m3) n3))
    ∙ sum4-sum4 (product (product a m0) n0) (product (product b m1) n0) (product (product c m2) n0)
    (product (product d m3) n0) (product (product a m3) n1) (product (product b m0) n1) (product (product c m1) n1)
    (product (product d m2) n1) (product (product a m2) n2) (product (product b m3) n2)
    (product (product c m0) n2) (product (product d m1) n2) (product (product a m1) n3)
    (product (product b m2) n3) (product (product c m3) n3) (product (product d m0) n3)
    ∙ sum4_equal ea eb ec ed
    ∙ sum4-zeros a

-- a column that goes through both maps, if the constants undo each other in each byte
pub column_undone : (m0 m1 m2 m3 n0 n1 n2 n3 : ℕ)
    → ((x : ℕ) → x < 256 → sum4 (product (product x m0) n0) (product (product x m3) n1) (product (product x m2) n2)
    (product (product x m1) n3) ≡ x)
    → ((x : ℕ) → x < 256 → sum4 (product (product x m1) n0) (product (product x m0) n1) (product (product x m3) n2)
    (product (product x m2) n3) ≡ 0)
    → ((x : ℕ) → x < 256 → sum4 (product (product x m2) n0) (product (product x m1) n1) (product (product x m0) n2)
    (product (product x m3) n3) ≡ 0)
    → ((x : ℕ) → x < 256 → sum4 (product (product x m3) n0) (product (product x m2) n1) (product (product x m1) n2)
    (product (product x m0) n3) ≡ 0)
    → (a b c d : ℕ) → a < 256 → b < 256 → c < 256 → d < 256
    → mixed_column n0 n1 n2 n3
    (sum4 (product a m0) (product b m1) (product c m2) (product d m3))
    (sum4 (product b m0) (product c m1) (product d m2) (product a m3))
    (sum4 (product c m0) (product d m1) (product a m2) (product b m3))
    (sum4 (product d m0) (product a m1) (product b m2) (product c m3))
    ≡ a ∷ b ∷ c ∷ d ∷ []
column_undone m0 m1 m2 m3 n0 n1 n2 n3 f g h i a b c d la lb lc ld = four_equal
    (row_undone m0 m1 m2 m3 n0 n1 n2 n3 a b c d la lb lc ld (f a la) (g b lb) (h c lc) (i d ld))
    (row_undone m0 m1 m2 m3 n0 n1 n2 n3 b c d a lb lc ld la (f b lb) (g c lc) (h d ld) (i a la))
    (row_undone m0 m1 m2 m3 n0 n1 n2 n3 c d a b lc ld la lb (f c lc) (g d ld) (h a la) (i b lb))
    (row_undone m0 m1 m2 m3 n0 n1 n2 n3 d a b c ld la lb lc (f d ld) (g a la) (h b lb) (i c lc))
