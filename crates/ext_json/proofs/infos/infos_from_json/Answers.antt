-- What the text is read as decides.
use Rattle.serde_json.specs.View.{view}
use Rattle.ext_json.proofs.Arrays.{text_read, text_unread}
use Rattle.ext_json.proofs.infos.infos_from_json.Goals as goal

pub returns-in-Ok-clause-infos : goal.returns-in-Ok-clause-infos
returns-in-Ok-clause-infos c = rw (text_read c.args.text.now
    (view c.in-Ok.value) c.in-Ok.ensures.ok.0 c.in-Ok.ensures.ok.1) c.infos_of.ensures.infos

pub returns-in_default-clause-infos : goal.returns-in_default-clause-infos
returns-in_default-clause-infos c = text_unread c.args.text.now
    (λ utf8. c.in-Err.ensures.err (λ memory. c.in_default.not-Memory (c.classify.ensures.memory.1 memory)) utf8)
