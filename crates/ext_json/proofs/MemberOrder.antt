-- RFC 8259, section 4: which members an object has, and in which order, by two texts that the checker reads.
use Rattle.std.specs.Prelude.{◌≡◌, Ok}
use Rattle.std.specs.Str.{is_utf8, chars}
use Rattle.std.proofs.Common.{refl}
use lib.Utf8.{encode}
use Rattle.json.specs.Json.{value}
use Rattle.json.specs.Lex.{punctuate, lex}
use Rattle.json.specs.Text.{content}
use Rattle.json.specs.Word.{word}
use Rattle.ext_json.specs.Infos.{json_infos}
use Rattle.ext_json.specs.declared.laws.TheConstants.{B_BEFORE_A, A_BEFORE_B, A_TWICE, THE_LAST_A}

pub sorted : json_infos B_BEFORE_A ≡ Ok A_BEFORE_B
unfolding json_infos is_utf8 chars encode value punctuate lex content word
sorted = refl

pub last : json_infos A_TWICE ≡ Ok THE_LAST_A
unfolding json_infos is_utf8 chars encode value punctuate lex content word
last = refl
