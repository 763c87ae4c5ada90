-- FIPS 197, appendices A.3 and C.3: the definitions give the standard's own words and block.
use Rattle.std.specs.Prelude.{◌≡◌}
use Rattle.std.proofs.Common.{refl, ap, sym, ◌∙◌, rules}
use Rattle.aes_block.specs.Block.{IsBlock, four_words}
use Rattle.aes_block.specs.Field.{times_x, product_by, product, product_of_squares, inverse}
use Rattle.aes_block.specs.Substitution.{affine, sub_byte}
use Rattle.aes_block.specs.Expansion.{sub_word, rot_word, power_of_x, round_constant, added_word, word_at, key_words}
use Rattle.aes_block.specs.Expansion.{words_to, expanded}
use Rattle.aes_block.specs.Steps.{sub_bytes, shift_rows, mix_columns, round_key, add_round_key}
use Rattle.aes_block.specs.Cipher.{rounds, cipher, inv_cipher}
use Rattle.aes_block.proofs.Inverses.{inv_cipher-cipher}
use Rattle.fle_vectors.specs.declared.aes256.TheConstants.{BLOCK_C3, EXPANSION_A3}

pub expanded_a3 : expanded EXPANSION_A3.key ≡ EXPANSION_A3.words
unfolding expanded words_to key_words word_at added_word round_constant power_of_x rot_word sub_word sub_byte affine
    inverse product_of_squares product product_by times_x
expanded_a3 = refl

pub sealed_c3 : cipher (expanded BLOCK_C3.key) BLOCK_C3.plain ≡ BLOCK_C3.sealed
unfolding cipher rounds expanded words_to key_words word_at added_word round_constant power_of_x rot_word sub_word
    sub_bytes shift_rows mix_columns round_key add_round_key sub_byte affine inverse product_of_squares product
    product_by times_x four_words
sealed_c3 = refl

pub opened_c3 : inv_cipher (expanded BLOCK_C3.key) BLOCK_C3.sealed ≡ BLOCK_C3.plain
opened_c3 =
    let is : IsBlock BLOCK_C3.plain = record { len = refl; bytes = search rules } in
    ap (inv_cipher (expanded BLOCK_C3.key)) (sym sealed_c3)
    ∙ inv_cipher-cipher (expanded BLOCK_C3.key) BLOCK_C3.plain is
