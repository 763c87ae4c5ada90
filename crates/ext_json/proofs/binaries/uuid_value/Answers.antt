use Rattle.std.proofs.Common.{option_map, sym, ◌∙◌, ap}
use Rattle.std.proofs.lemmas.Bool.{false≢true}
use Rattle.serde_json.specs.View.{view}
use Rattle.ext_json.proofs.Members.{uuid_none}
use Rattle.ext_json.proofs.binaries.uuid_value.Goals as goal

pub returns-in-Err : goal.returns-in-Err
returns-in-Err c = record {
  converts = uuid_none (view c.args.found.now) c.in-Some.text.now
      (sym c.as_str.ensures ∙ ap (option_map (λ s. s.now)) c.in-Some.is)
      (λ h. false≢true (rw c.in-Err.is at (c.parse_str.ensures.ok.1 h)));
}
