use Rattle.ext_json.proofs.showing.put_separator.Goals as goal

pub returns : goal.returns
returns g c = rw c.if-first.false (rw c.comma.ensures.text at c.write_whole.ensures.wrote)
