use Rattle.bson_codec.specs.Layout.{level_limit}
use Rattle.std.proofs.Common.{true}
use Rattle.ext_json.proofs.TextUtf8.{inside_utf8}
use Rattle.ext_json.proofs.laws.texts_are_utf8.Goals as goal

pub returns : goal.returns
returns c = record { utf8 = λ is start e. inside_utf8 level_limit true start is e }
