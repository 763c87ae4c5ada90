-- RFC 7518, appendix B.3: the definitions give what the document prints.
use Rattle.std.specs.Prelude.{◌≡◌, ℕ, List, ◌++◌}
use Rattle.std.proofs.Common.{refl}
use Rattle.sha2.specs.Sha512.{sha512, digest_bytes, hash_after, compress, rounds as hash_rounds}
use Rattle.sha2.specs.Sha512.{schedule as message_schedule, first_words}
use Rattle.hmac_sha512.specs.Hmac.{hmac, padded_key, key_block}
use Rattle.aes_block.specs.Block.{four_words}
use Rattle.aes_block.specs.Field.{times_x, product_by, product, product_of_squares, inverse}
use Rattle.aes_block.specs.Substitution.{affine, sub_byte}
use Rattle.aes_block.specs.Expansion.{sub_word, rot_word, power_of_x, round_constant, added_word, word_at, key_words}
use Rattle.aes_block.specs.Expansion.{words_to, expanded}
use Rattle.aes_block.specs.Steps.{sub_bytes, shift_rows, mix_columns, round_key, add_round_key}
use Rattle.aes_block.specs.Cipher.{rounds, cipher}
use Rattle.cbc_mode.specs.Cbc.{cbc_sealed, sealed_blocks}
use Rattle.cbc_mode.specs.Padding.{pad}
use Rattle.fle_aead.specs.Sealed.{body, tag}
use Rattle.fle_vectors.specs.declared.aead.TheConstants.{AEAD_B3}

pub body_b3 : (k : List ℕ) → body (AEAD_B3.key ++ k) AEAD_B3.iv AEAD_B3.plain ≡ AEAD_B3.iv ++ AEAD_B3.sealed
unfolding body cbc_sealed sealed_blocks pad cipher rounds expanded words_to key_words word_at added_word round_constant
    power_of_x rot_word sub_word sub_bytes shift_rows mix_columns round_key add_round_key sub_byte affine inverse
    product_of_squares product product_by times_x four_words
body_b3 k = refl

pub tag_b3 : (k : List ℕ) → tag (AEAD_B3.key ++ k) AEAD_B3.aad (AEAD_B3.iv ++ AEAD_B3.sealed) ≡ AEAD_B3.tag
unfolding tag hmac padded_key key_block sha512 digest_bytes hash_after compress hash_rounds message_schedule first_words
tag_b3 k = refl
