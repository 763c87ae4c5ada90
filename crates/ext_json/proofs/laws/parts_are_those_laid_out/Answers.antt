use Rattle.std.proofs.Common.{refl}
use Rattle.bson_codec.specs.Layout.{scope_bytes}
use Rattle.ext_json.proofs.LaidOut.{pattern_laid, options_laid, namespace_laid, id_laid}
use Rattle.ext_json.proofs.Scopes.{text_of_string, scope_parts}
use Rattle.ext_json.proofs.laws.parts_are_those_laid_out.Goals as goal

pub returns : goal.returns
returns c = record {
  string = text_of_string;
  subtype = λ kind contents. refl;
  contents = λ kind contents. refl;
  pattern = pattern_laid;
  options = options_laid;
  namespace = namespace_laid;
  id = id_laid;
  code = λ code scope doc small. (scope_parts (scope_bytes code scope) code scope refl small doc).0;
  scope = λ code scope doc small. (scope_parts (scope_bytes code scope) code scope refl small doc).1;
}
