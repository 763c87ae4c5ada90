-- RFC 4231, 4.3: the definitions give the MAC that the document prints.
use Rattle.std.specs.Prelude.{◌≡◌}
use Rattle.std.proofs.Common.{refl}
use Rattle.sha2.specs.Sha512.{sha512, digest_bytes, hash_after, compress, rounds, schedule, first_words}
use Rattle.hmac_sha512.specs.Hmac.{hmac, padded_key, key_block}
use Rattle.hmac_sha512.specs.Published.{key_2, data_2, mac_2}

pub case_2 : hmac key_2 data_2 ≡ mac_2
unfolding hmac padded_key key_block sha512 digest_bytes hash_after compress rounds schedule first_words
case_2 = refl
