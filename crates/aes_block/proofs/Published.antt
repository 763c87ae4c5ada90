-- FIPS 197, figure 7: the definitions give the standard's own entries.
use Rattle.std.specs.Prelude.{◌≡◌}
use Rattle.std.proofs.Common.{refl}
use Rattle.aes_block.specs.Field.{times_x, product_by, product, product_of_squares, inverse}
use Rattle.aes_block.specs.Substitution.{affine, inv_affine, sub_byte, inv_sub_byte}

pub entry_00 : sub_byte 0x00 ≡ 0x63
unfolding sub_byte affine inverse product_of_squares product product_by times_x
entry_00 = refl

pub entry_53 : sub_byte 0x53 ≡ 0xED
unfolding sub_byte affine inverse product_of_squares product product_by times_x
entry_53 = refl

pub entry_63_back : inv_sub_byte 0x63 ≡ 0x00
unfolding inv_sub_byte inv_affine inverse product_of_squares product product_by times_x
entry_63_back = refl

pub entry_ed_back : inv_sub_byte 0xED ≡ 0x53
unfolding inv_sub_byte inv_affine inverse product_of_squares product product_by times_x
entry_ed_back = refl
